-- What a `Nest` holds, and what its calls come to.
--     nesting    the levels that its tokens spell
--     Tells      the fault is what the step stops with, or want of memory
--     Nested     the call made the step that the definitions give
--     Ended      the call gave the verdict on what was read
use Rattle.std.specs.Prelude.{◌≡◌, List, map, IfSome, Ok, Err, vec_items, Result}
use Rattle.definitions.specs.Refusal.{Verdict, accepted, refused}
use Rattle.definitions.specs.Term.{Placed}
use Rattle.definitions.specs.Text.{Levels, flats}
use Rattle.definitions.specs.Reading.{Mode, Step, next, stop}
use Rattle.text.specs.declared.fault.TextFault.{TextFault}
use Rattle.text.specs.declared.nest.Nest.{Nest}
use Rattle.text.specs.declared.token.Token.{Token}
use Rattle.text.specs.Faults.{of_text}
use Rattle.text.specs.Spelt.{levels}
use Rattle.text.specs.View.{token}

abbrev pub nesting : Nest → Levels
nesting n = levels (map token (vec_items n.tokens))

abbrev pub Tells : TextFault → Step → Type 0
Tells f s = IfSome (of_text f) (λ r. s ≡ stop r)

abbrev pub Nested : Result (Unit {0}) TextFault → Nest → Step → Type 0
Nested (Ok u) n s = s ≡ next Mode.between (nesting n)
Nested (Err f) n s = Tells f s

-- the tokens are those of the terms read, or the fault is the refusal or want of memory
abbrev pub Ended : Result (Unit {0}) TextFault → List Token → Verdict Placed → Type 0
Ended (Ok u) ts v = (us : Placed) × (v ≡ accepted us) × (map token ts ≡ flats us)
Ended (Err f) ts v = IfSome (of_text f) (λ r. v ≡ refused r)
