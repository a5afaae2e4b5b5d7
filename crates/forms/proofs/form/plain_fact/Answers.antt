use Rattle.std.proofs.Common.{[], map, Some, sym, ap, ◌∙◌, subst}
use Rattle.definitions.specs.Form as form
use Rattle.definitions.specs.Form.{map_some}
use Rattle.definitions.specs.Term.{bare}
use Rattle.text.specs.Terms.{tree}
use Rattle.text.specs.View.{token}
use Rattle.forms.specs.Tokens.{WholeIs}
use Rattle.forms.proofs.Front.{plain_is, same_whole}
use Rattle.forms.proofs.form.plain_fact.Goals as goal

pub returns-then-not-all_headed-clause-value : goal.returns-then-not-all_headed-clause-value
returns-then-not-all_headed-clause-value c = λ w u first named is. ap (map_some _) (plain_is u w _ _ first named c.if-not-all_headed.ensures is)

pub returns-clause-value : goal.returns-clause-value
returns-clause-value c = λ w u first named is.
    let here = subst (λ r. WholeIs r (map token c.args.tokens.now)) c.in_ok-fact.ensures.ok_part c.whole.ensures in
    ap (map_some _) (plain_is u w _ _ first named c.if-not-all_headed.ensures is)
    ∙ ap (λ t. Some (form.rules (record { head = form.Atom.fact (bare t); parts = [] }))) (sym (same_whole (tree c.in_ok-fact.fact) u _ here is))
    ∙ ap (λ ps. Some (form.rules (record { head = form.Atom.fact (bare (tree c.in_ok-fact.fact)); parts = ps }))) (sym c.new-body.ensures)
