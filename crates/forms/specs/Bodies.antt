-- What the parts of a body stand for in the definitions, and what adding to some comes to.
--     others                   the alternatives that follow in the same part
--     parts                    the parts that alternatives make up
--     parts_view, body_view    the parts of a vector of alternatives, and of a body
--     Added                    one is added at the end, or there is none, or memory is wanting
--     joined                   some parts, the last of them with another alternative
--     Joined                   one is joined to the last part, or there is none, or memory is wanting
--     Put                      some are added at the end, or there are none, or memory is wanting
--     alone, alternatives      a part of one literal, and the literals of an `or`, at least one
use Rattle.std.specs.Prelude.{◌≡◌, Vec, List, [], ◌∷◌, ◌++◌, Some, None, Ok, Err, vec_items, Option, Result}
use Rattle.std.specs.declared.alloc.Global.{Global}
use Rattle.definitions.specs.Form as form
use Rattle.definitions.specs.Form.{map_some}
use Rattle.definitions.specs.Term.{Term}
use Rattle.forms.specs.declared.body.Alternative.{Alternative}
use Rattle.forms.specs.declared.body.Body.{Body}
use Rattle.forms.specs.declared.fault.FormFault.{FormFault}
use Rattle.forms.specs.Literals.{literal_view}

abbrev pub others : List Alternative → List (form.Literal Term)
others [] = []
others (Alternative.First l ∷ xs) = []
others (Alternative.Another l ∷ xs) = literal_view l ∷ others xs

-- a first alternative begins a part, and what comes before any belongs to none
abbrev pub parts : List Alternative → List (List (form.Literal Term))
parts [] = []
parts (Alternative.First l ∷ xs) = (literal_view l ∷ others xs) ∷ parts xs
parts (Alternative.Another l ∷ xs) = parts xs

abbrev pub parts_view : Vec Alternative Global → List (List (form.Literal Term))
parts_view v = parts (vec_items v)

abbrev pub body_view : Body → List (List (form.Literal Term))
body_view b = parts_view b.alternatives

abbrev pub Added : {X : Type 0} → Result (Unit {0}) FormFault → List X → List X → Option X → Type 0
Added (Ok u) old new o = map_some (λ x. old ++ x ∷ []) o ≡ Some new
Added (Err (FormFault.Memory e)) old new o = Unit {0}
Added (Err FormFault.Broken) old new o = o ≡ None

abbrev pub joined : {X : Type 0} → List (List X) → X → List (List X)
joined [] x = []
joined (p ∷ []) x = (p ++ x ∷ []) ∷ []
joined (p ∷ q ∷ ps) x = p ∷ joined (q ∷ ps) x

abbrev pub Joined : {X : Type 0} → Result (Unit {0}) FormFault → List (List X) → List (List X) → Option X → Type 0
Joined (Ok u) old new o = map_some (joined old) o ≡ Some new
Joined (Err (FormFault.Memory e)) old new o = Unit {0}
Joined (Err FormFault.Broken) old new o = o ≡ None

abbrev pub Put : {X : Type 0} → Result (Unit {0}) FormFault → List X → List X → Option (List X) → Type 0
Put (Ok u) old new o = map_some (λ xs. old ++ xs) o ≡ Some new
Put (Err (FormFault.Memory e)) old new o = Unit {0}
Put (Err FormFault.Broken) old new o = o ≡ None

abbrev pub alone : Option (form.Literal Term) → Option (List (form.Literal Term))
alone o = map_some (λ l. l ∷ []) o

abbrev pub alternatives : List Term → Option (List (form.Literal Term))
alternatives [] = None
alternatives (t ∷ ts) = form.all_of form.literal (t ∷ ts)
