-- What a `Reader` holds, and what its calls come to.
--     mode       what is being read, before the byte at the given place
--     Started    a word in progress has not started later
--     Stepped    the call made the step that the definitions give
use Rattle.std.specs.Prelude.{◌≡◌, ℕ, ◌≤◌, List, slice_range, Ok, Err, Result}
use Rattle.definitions.specs.Reading.{Mode, Step, next}
use Rattle.text.specs.declared.fault.TextFault.{TextFault}
use Rattle.text.specs.declared.reader.Reader.{Reader}
use Rattle.text.specs.declared.reader.State.{State}
use Rattle.text.specs.Nesting.{nesting, Tells}

abbrev pub mode : State → ℕ → List ℕ → Mode
mode State.Between at text = Mode.between
mode (State.Word start) at text = Mode.in_word start (slice_range text start at)
mode State.Comment at text = Mode.in_comment

abbrev pub Started : State → ℕ → Type 0
Started State.Between at = Unit {0}
Started (State.Word start) at = start ≤ at
Started State.Comment at = Unit {0}

abbrev pub Stepped : Result (Unit {0}) TextFault → Reader → ℕ → Step → Type 0
Stepped (Ok u) r at s = (s ≡ next (mode r.state at r.text.now) (nesting r.nest)) × Started r.state at
Stepped (Err f) r at s = Tells f s
