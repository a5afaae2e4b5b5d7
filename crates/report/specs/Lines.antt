-- The lines that are printed of a text.
--     form_lines      a line for each form: the place where it starts, and the form as it is written
--     refusal_line    an exclamation mark, the number and the place
--     lines           those of an accepted or of a refused text
--     Added           a buffer has these bytes more, or memory is wanting
--     Reported        a buffer holds exactly these lines, or nothing where memory is wanting
use Rattle.std.specs.Prelude.{◌≡◌, ℕ, false, List, [], ◌∷◌, ◌++◌, Ok, Err, OnOk, decimal, Result}
use Rattle.std.specs.declared.alloc.AllocError.{AllocError}
use Rattle.definitions.specs.Refusal.{Refusal, Verdict, accepted, refused}
use Rattle.definitions.specs.Term.{Tree, none, ◌&◌, Placed}
use Rattle.definitions.specs.Text.{flat}
use Rattle.definitions.specs.Writing.{spelt}
use Rattle.text.specs.Terms.{place}

abbrev pub form_line : Tree ℕ → List ℕ
form_line t = decimal (place t) ++ (32 ∷ (spelt false (flat t) ++ 10 ∷ []))

abbrev pub form_lines : Placed → List ℕ
form_lines none = []
form_lines (t & ts) = form_line t ++ form_lines ts

abbrev pub refusal_line : Refusal → List ℕ
refusal_line r = 33 ∷ 32 ∷ (decimal r.number ++ (32 ∷ (decimal r.place ++ 10 ∷ [])))

abbrev pub lines : Verdict Placed → List ℕ
lines (accepted ts) = form_lines ts
lines (refused r) = refusal_line r

abbrev pub Added : Result (Unit {0}) AllocError → List ℕ → List ℕ → List ℕ → Type 0
Added r old new more = OnOk r (new ≡ old ++ more)

abbrev pub Reported : Result (Unit {0}) AllocError → List ℕ → List ℕ → Type 0
Reported (Ok u) new more = new ≡ more
Reported (Err e) new more = new ≡ []
