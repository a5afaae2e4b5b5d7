use Rattle.std.proofs.Common.{map, ap, ◌∙◌}
use Rattle.definitions.specs.Form.{literal, all_of, map_some}
use Rattle.definitions.specs.Term.{bare}
use Rattle.forms.specs.Bodies.{parts_view, alternatives}
use Rattle.forms.specs.View.{term_view, terms_view}
use Rattle.forms.proofs.Joining.{lengthened, joining_first, joining_more}
use Rattle.forms.proofs.body.put_alternatives.Goals as goal

pub loop-term-init : goal.loop-term-init
loop-term-init c =
    let first = joining_first literal (alternatives (terms_view c.args.terms)) (terms_view c.in-Some.others) (term_view c.in-Some.first) (parts_view c.args.body.now) (parts_view c.put_literal.new.body) (ap (λ ts. alternatives (map bare ts)) c.in-Some.ensures) c.in_ok-put_literal.ensures in
    rw c.into_iter-term-iterator.ensures.into_iter_gives first

pub loop-term-preserved : goal.loop-term-preserved
loop-term-preserved c = joining_more literal (alternatives (terms_view c.args.terms)) (terms_view c.loop-term.term-iterator) (terms_view c.next.new.self) (term_view c.in-Some-term.term) _ _ _ c.loop-term.invariant (ap (map bare) c.in-Some-term.ensures.steps) c.in_ok-put_another.ensures

pub returns : goal.returns
returns c = c.loop-term.invariant ∙ ap (λ ts. map_some (lengthened (parts_view c.loop-term.body)) (all_of literal (map bare ts))) c.in-None.ensures.steps.0
