use Rattle.std.proofs.Common.{◌≡◌, ◌≤◌, map, drop}
use Rattle.text.specs.View.{token}
use Rattle.text.specs.Span.{balanced}
use Rattle.text.proofs.span.is_balanced.Given as goal

abbrev pub invariant-loop-t : goal.invariant-loop-t
invariant-loop-t l = (balanced l.depth (map token (drop l.t-index l.tokens)) ≡ balanced 0 (map token l.tokens)) × (l.depth ≤ l.t-index)
