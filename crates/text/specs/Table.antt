-- What a table of forms holds, and what filling it comes to.
--     held       its tokens
--     forms      the terms that they spell
--     Filled     it holds the forms that are read, or nothing and the fault is the refusal or want of memory
use Rattle.std.specs.Prelude.{◌≡◌, List, [], map, IfSome, Ok, Err, vec_items, Result}
use Rattle.definitions.specs.Refusal.{Verdict, accepted, refused}
use Rattle.definitions.specs.Term.{Placed}
use Rattle.text.specs.declared.fault.TextFault.{TextFault}
use Rattle.text.specs.declared.forms.Forms.{Forms}
use Rattle.text.specs.declared.token.Token.{Token}
use Rattle.text.specs.Faults.{of_text}
use Rattle.text.specs.Spelt.{terms}
use Rattle.text.specs.View.{token}

abbrev pub held : Forms → List Token
held f = vec_items f.tokens

abbrev pub forms : Forms → Placed
forms f = terms (map token (held f))

abbrev pub Filled : Result (Unit {0}) TextFault → Forms → Verdict Placed → Type 0
Filled (Ok u) f v = v ≡ accepted (forms f)
Filled (Err e) f v = (held f ≡ []) × IfSome (of_text e) (λ r. v ≡ refused r)
