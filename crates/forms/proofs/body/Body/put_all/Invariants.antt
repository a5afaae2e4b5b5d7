use Rattle.std.proofs.Common.{map, length}
use Rattle.definitions.specs.Form.{part}
use Rattle.text.specs.View.{token}
use Rattle.forms.specs.Bodies.{body_view}
use Rattle.forms.proofs.Streamed.{Streamed}
use Rattle.forms.proofs.body.Body.put_all.Given as goal

abbrev pub invariant-loop-rest : goal.invariant-loop-rest
invariant-loop-rest l =
    Streamed part (map token l.fn.tokens) (map token l.rest.tokens.now) (body_view l.fn.self) (body_view l.self)

abbrev pub decreases-loop-rest : goal.decreases-loop-rest
decreases-loop-rest l = length l.rest.tokens.now
