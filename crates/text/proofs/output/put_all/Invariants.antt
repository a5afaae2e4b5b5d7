use Rattle.std.proofs.Common.{◌≡◌, ℕ, false, List, ◌++◌, map, drop, vec_items}
use Rattle.definitions.specs.Writing.{spelt}
use Rattle.text.specs.View.{token}
use Rattle.text.proofs.output.put_all.Given as goal

abbrev pub invariant-loop-t : goal.invariant-loop-t
invariant-loop-t l = (some : List ℕ) × (vec_items l.out ≡ vec_items l.initial.out ++ some) × (some ++ spelt l.after (map token (drop l.t-index l.tokens)) ≡ spelt false (map token l.tokens))
