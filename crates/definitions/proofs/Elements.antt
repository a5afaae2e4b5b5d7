-- Elements of a list, by their places and by a test that one passes.
use Rattle.std.proofs.Common.{◌≡◌, ℕ, zero, suc, ◌<◌, Bool, true, List, [], ◌∷◌, length, get_or, refl, arith}
use Rattle.definitions.specs.Lists.{In, here, there, any}
use Rattle.definitions.proofs.Listed.{any_true}

-- places
pub get_or_in : {X : Type 0} (xs : List X) (i : ℕ) (d : X) → i < length xs → In (get_or xs i d) xs
get_or_in [] i d h = absurd (omega arith)
get_or_in (x ∷ xs) zero d h = here
get_or_in (x ∷ xs) (suc i) d h = there (get_or_in xs i d (omega arith))

pub in_place : {X : Type 0} {x : X} {xs : List X} → In x xs → (i : ℕ) × (i < length xs) × ((d : X) → get_or xs i d ≡ x)
in_place here = (0, omega arith, λ d. refl)
in_place (there h) = let r = in_place h in (suc r.0, omega (arith, r.1), r.2)

-- a test that one passes
pub in_any : {X : Type 0} (f : X → Bool) {x : X} {xs : List X} → In x xs → f x ≡ true → any f xs ≡ true
in_any f {x} {xs} h e = (any_true f xs).1 (x, h, e)
