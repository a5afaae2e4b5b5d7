use Rattle.std.proofs.Common.{◌≡◌, ◌&&◌, map, sym, ap, ◌∙◌, subst, rules, MatchOption}
use Rattle.std.specs.Option.{option_map}
use Rattle.definitions.specs.Form.{is_term}
use Rattle.definitions.specs.Term.{Placed}
use Rattle.text.specs.View.{token}
use Rattle.std.specs.Bool.{then_some}
use Rattle.forms.specs.Tokens.{Closes}
use Rattle.forms.specs.View.{term_view}
use Rattle.forms.proofs.Front.{declared_whole, none_declared, one_declared}
use Rattle.forms.proofs.tokens.declared.Goals as goal
use Rattle.forms.proofs.tokens.declared.Goals.{After-then_some, then-is_closed, else-is_closed}

both : (c : After-then_some) → c.if-is_closed.then_some ≡ (c.is_closed.result && is_term (term_view c.in_ok-term.term))
both c = elim c.if-is_closed.branch [ then-is_closed w ↦ search rules | else-is_closed w ↦ search rules ]

pub returns-in_err-term-clause-value : goal.returns-in_err-term-clause-value
returns-in_err-term-clause-value c = λ ts closes. ap (option_map term_view) c.from_residual.ensures ∙ none_declared ts _ c.in_err-term.ensures closes

pub returns-clause-value : goal.returns-clause-value
returns-clause-value c = λ ts closes.
    ap (option_map term_view) (c.then_some.ensures ∙ ap (λ b. then_some b c.in_ok-term.term) (both (goal.at.returns-clause-value c).After-then_some))
    ∙ one_declared c.in_ok-term.term ts _ _ c.is_closed.result c.in_ok-term.ensures c.is_closed.ensures closes

pub returns-clause-whole : goal.returns-clause-whole
returns-clause-whole c =
    subst (λ r. MatchOption r (Unit {0}) (λ t. (ts : Placed) × Closes (map token c.args.tokens.now) ts)) (sym (c.then_some.ensures ∙ ap (λ b. then_some b c.in_ok-term.term) (both (goal.at.returns-clause-whole c).After-then_some)))
    (declared_whole c.in_ok-term.term _ _ c.is_closed.result (is_term (term_view c.in_ok-term.term)) c.in_ok-term.ensures c.is_closed.ensures)
