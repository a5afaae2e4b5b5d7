-- Lists that are mapped or joined: their elements, and a test that one of them passes.
use Rattle.std.proofs.Common.{◌≡◌, Bool, false, ◌||◌, List, [], ◌∷◌, ◌++◌, map, refl, ap, ◌∙◌}
use Rattle.std.proofs.lemmas.List.{map-append}
use Rattle.std.proofs.lemmas.List.Folds.{list_any-append}
use Rattle.std.proofs.lemmas.Bool.{false_from_ne_true, both_ways}
use Rattle.definitions.specs.Lists.{In, joined, any}
use Rattle.definitions.proofs.Elements.{in_any}

pub map_joined : {X Y Z : Type 0} (f : Y → Z) (g : X → List Y) (xs : List X) → map f (joined g xs) ≡ joined (λ x. map f (g x)) xs
map_joined f g [] = refl
map_joined f g (x ∷ xs) = map-append f (g x) (joined g xs) ∙ ap (λ zs. map f (g x) ++ zs) (map_joined f g xs)

pub not_any : {X : Type 0} (f : X → Bool) {x : X} (xs : List X) → any f xs ≡ false → In x xs → f x ≡ false
not_any f {x} xs e i = false_from_ne_true (f x) (λ t. both_ways _ e (in_any f i t))

pub any_joined : {X Y : Type 0} (f : Y → Bool) (g : X → List Y) (xs : List X) → any f (joined g xs) ≡ any (λ x. any f (g x)) xs
any_joined f g [] = refl
any_joined f g (x ∷ xs) = list_any-append f (g x) (joined g xs) ∙ ap (λ b. any f (g x) || b) (any_joined f g xs)
