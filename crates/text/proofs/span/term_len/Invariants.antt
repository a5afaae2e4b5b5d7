use Rattle.std.proofs.Common.{◌≡◌, ◌+◌, ◌≤◌, map, drop}
use Rattle.text.specs.View.{token}
use Rattle.text.specs.Span.{span}
use Rattle.text.proofs.span.term_len.Given as goal

abbrev pub invariant-loop-i : goal.invariant-loop-i
invariant-loop-i l = (l.i + span l.depth (map token (drop l.i l.tokens)) ≡ span 0 (map token l.tokens)) × (l.depth ≤ l.i)
