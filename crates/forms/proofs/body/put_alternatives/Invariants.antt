use Rattle.definitions.specs.Form.{literal}
use Rattle.forms.specs.Bodies.{parts_view, alternatives}
use Rattle.forms.specs.View.{terms_view}
use Rattle.forms.proofs.Joining.{Joining}
use Rattle.forms.proofs.body.put_alternatives.Given as goal

abbrev pub invariant-loop-term : goal.invariant-loop-term
invariant-loop-term l = Joining literal (alternatives (terms_view l.fn.terms)) (terms_view l.term-iterator) (parts_view l.fn.body) (parts_view l.body)
