use Rattle.std.proofs.Common.{◌≡◌, ◌≤◌, map, drop}
use Rattle.text.specs.View.{token}
use Rattle.text.specs.Span.{first_span}
use Rattle.text.proofs.span.first_len.Given as goal

abbrev pub invariant-loop-before : goal.invariant-loop-before
invariant-loop-before l = (first_span l.before l.depth (map token (drop l.before l.tokens)) ≡ first_span 0 0 (map token l.tokens)) × (l.depth ≤ l.before)
