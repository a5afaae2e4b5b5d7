-- A reading by what its next step is.
use Rattle.std.proofs.Common.{◌≡◌, ℕ, ◌+◌, List, ◌∷◌, ap}
use Rattle.definitions.specs.Refusal.{Verdict, refused}
use Rattle.definitions.specs.Term.{Placed}
use Rattle.definitions.specs.Text.{Levels}
use Rattle.definitions.specs.Reading.{Mode, Step, next, stop, step, reading}

abbrev pub after_step : ℕ → List ℕ → Step → Verdict Placed
after_step at rest (next m ls) = reading (at + 1) m ls rest
after_step at rest (stop r) = refused r

pub reading_by : (at : ℕ) (m : Mode) (ls : Levels) (b : ℕ) (rest : List ℕ) (s : Step) → step at m ls b ≡ s → reading at m ls (b ∷ rest) ≡ after_step at rest s
reading_by at m ls b rest s e = ap (after_step at rest) e
