use Rattle.std.proofs.Common.{map, sym, ap, ◌∙◌, subst}
use Rattle.definitions.specs.Term.{bare}
use Rattle.text.specs.Terms.{tree}
use Rattle.text.specs.View.{token}
use Rattle.forms.specs.Formed.{FormIs, bodiless}
use Rattle.forms.specs.Tokens.{front, one_word, WholeIs}
use Rattle.forms.proofs.Front.{same_whole, unopened, word_alone}
use Rattle.forms.proofs.form.word_form.Goals as goal

pub returns-then-not-is_one_word-clause-value : goal.returns-then-not-is_one_word-clause-value
returns-then-not-is_one_word-clause-value c = λ u e is. unopened u (ap front (sym is) ∙ e) (c.if-not-is_one_word.ensures ∙ ap one_word is)

pub returns-clause-value : goal.returns-clause-value
returns-clause-value c = λ u e is.
    let here = subst (λ r. WholeIs r (map token c.args.tokens.now)) c.in_ok-term.ensures.ok_part c.whole.ensures in
    let fact = subst (λ t. FormIs c.fact_of.result (bodiless (bare t))) (same_whole (tree c.in_ok-term.term) u _ here is) c.fact_of.ensures in
    subst (FormIs c.fact_of.result) (sym (word_alone u (ap front (sym is) ∙ e) (c.if-not-is_one_word.ensures ∙ ap one_word is))) fact
