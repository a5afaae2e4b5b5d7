use Rattle.std.proofs.Common.{refl, ap, ◌∙◌}
use Rattle.std.proofs.lemmas.Bool.{false≢true}
use Rattle.std.specs.Option.{option_map}
use Rattle.text.specs.Terms.{tree}
use Rattle.forms.specs.Atoms.{atom_view}
use Rattle.forms.specs.View.{keyword_view}
use Rattle.forms.proofs.Heads.{closed_after_one, closed_after_two, one_within, open_after_one, open_after_two, open_at_once, two_within}
use Rattle.forms.proofs.atom.head_behind.Goals as goal

pub returns-in_err-first-clause-value : goal.returns-in_err-first-clause-value
returns-in_err-first-clause-value c = λ ts closes. ap (option_map atom_view) c.from_residual.ensures ∙ open_at_once (keyword_view c.args.k) ts _ c.in_err-first.ensures closes

pub returns-then-is_closed-clause-value : goal.returns-then-is_closed-clause-value
returns-then-is_closed-clause-value c = λ ts closes. c.head_of_one.ensures ∙ closed_after_one (keyword_view c.args.k) (tree c.in_ok-first.first) ts _ _ c.in_ok-first.ensures (c.if-is_closed.ensures.0 refl) closes

pub returns-then-is_closed-clause-whole : goal.returns-then-is_closed-clause-whole
returns-then-is_closed-clause-whole c = one_within c.head_of_one.result (tree c.in_ok-first.first) _ _ c.in_ok-first.ensures (c.if-is_closed.ensures.0 refl)

pub returns-in_err-second-clause-value : goal.returns-in_err-second-clause-value
returns-in_err-second-clause-value c = λ ts closes.
    ap (option_map atom_view) c.from_residual-in_err-second.ensures
    ∙ open_after_one (keyword_view c.args.k) (tree c.in_ok-first.first) ts _ _ c.in_ok-first.ensures (λ e. absurd (false≢true (c.if-is_closed.ensures.1 e))) c.in_err-second.ensures closes

pub returns-then-not-is_closed-clause-value : goal.returns-then-not-is_closed-clause-value
returns-then-not-is_closed-clause-value c = λ ts closes. open_after_two (keyword_view c.args.k) (tree c.in_ok-first.first) (tree c.in_ok-second.second) ts _ _ _ c.in_ok-first.ensures c.in_ok-second.ensures (λ e. absurd (false≢true (c.if-not-is_closed.ensures.1 e))) closes

pub returns-clause-value : goal.returns-clause-value
returns-clause-value c = λ ts closes. c.head_of_two.ensures ∙ closed_after_two (keyword_view c.args.k) (tree c.in_ok-first.first) (tree c.in_ok-second.second) ts _ _ _ c.in_ok-first.ensures c.in_ok-second.ensures (c.if-not-is_closed.ensures.0 refl) closes

pub returns-clause-whole : goal.returns-clause-whole
returns-clause-whole c = two_within c.head_of_two.result (tree c.in_ok-first.first) (tree c.in_ok-second.second) _ _ _ c.in_ok-first.ensures c.in_ok-second.ensures (c.if-not-is_closed.ensures.0 refl)
