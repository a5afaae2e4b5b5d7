-- What a call adds to the end of a buffer.
--     Grown        exactly these bytes, or some where memory is wanting
--     Appended     exactly these bytes, or none where memory is wanting
use Rattle.std.specs.Prelude.{◌≡◌, ℕ, List, ◌++◌, Ok, Err, Result}
use Rattle.std.specs.declared.alloc.AllocError.{AllocError}

abbrev pub Grown : Result (Unit {0}) AllocError → List ℕ → List ℕ → List ℕ → Type 0
Grown (Ok u) old new more = new ≡ old ++ more
Grown (Err e) old new more = (some : List ℕ) × (new ≡ old ++ some)

abbrev pub Appended : Result (Unit {0}) AllocError → List ℕ → List ℕ → List ℕ → Type 0
Appended (Ok u) old new more = new ≡ old ++ more
Appended (Err e) old new more = new ≡ old
