-- What two tests keep of a list, one after the other, and what is among the numbers that a test keeps.
use Rattle.std.proofs.Common.{◌≡◌, ℕ, Bool, true, false, cond, ◌&&◌, List, [], ◌∷◌, refl}
use Rattle.std.proofs.lemmas.Bool.Decides.{same_from_decides, Decides-like}
use Rattle.definitions.specs.Lists.{In, here, there, keep}
use Rattle.definitions.specs.Deal.{among}
use Rattle.definitions.proofs.Listed.{in_keep, keep_in, true_itself}
use Rattle.definitions.proofs.Upto.{among_decides}

pub keep_same : {X : Type 0} (f g : X → Bool) (xs : List X) → ((x : X) → In x xs → f x ≡ g x) → keep f xs ≡ keep g xs
keep_same f g [] h = refl
keep_same f g (x ∷ xs) h = rw (h x here, keep_same f g xs (λ y i. h y (there i)))

pub keep_twice : {X : Type 0} (f g : X → Bool) (xs : List X) → keep g (keep f xs) ≡ keep (λ x. f x && g x) xs
keep_twice f g [] = refl
keep_twice {X} f g (x ∷ xs) = go (f x) (keep_twice f g xs)
  where
    go : (b : Bool) → keep g (keep f xs) ≡ keep (λ x. f x && g x) xs → keep g (cond b (x ∷ keep f xs) (keep f xs)) ≡ cond (b && g x) (x ∷ keep (λ x. f x && g x) xs) (keep (λ x. f x && g x) xs)
    go true on = rw on
    go false on = on

-- a list is kept again by what it kept
pub kept_again : (f : ℕ → Bool) (xs : List ℕ) → keep (among (keep f xs)) xs ≡ keep f xs
kept_again f xs = keep_same _ f xs λ x i. same_from_decides _ (f x) (Decides-like _ (λ k. (keep_in f xs k).1) (in_keep f i) (among_decides (keep f xs) x)) (true_itself (f x))
