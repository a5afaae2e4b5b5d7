-- Relations that hold between each element of a list and each that comes after it.
use Rattle.std.proofs.Common.{ℕ, zero, suc, ◌<◌, Bool, List, [], ◌∷◌, length, get_or, subst, arith}
use Rattle.std.proofs.lemmas.Bool.{cond_both}
use Rattle.definitions.specs.Lists.{In, here, there, keep}
use Rattle.definitions.proofs.Listed.{keep_in}
use Rattle.definitions.proofs.Elements.{get_or_in, in_place}

abbrev pub Pairwise : {X : Type 0} → (X → X → Type 0) → List X → Type 0
Pairwise R [] = Unit {0}
Pairwise {X} R (x ∷ xs) = ((y : X) → In y xs → R x y) × Pairwise R xs

module _ {X : Type 0} (R : X → X → Type 0) where
  pub pairwise_keep : (f : X → Bool) (xs : List X) → Pairwise R xs → Pairwise R (keep f xs)
  pairwise_keep f [] h = tt
  pairwise_keep f (x ∷ xs) h =
      cond_both (f x) (x ∷ keep f xs) (keep f xs) (Pairwise R)
      (λ b. ((λ y k. h.0 y (keep_in f xs k).0), pairwise_keep f xs h.1))
      (λ b. pairwise_keep f xs h.1)

  pub pairwise_like : (S : X → X → Type 0) (xs : List X) → ((x y : X) → In x xs → In y xs → R x y → S x y) → Pairwise R xs → Pairwise S xs
  pairwise_like S [] f h = tt
  pairwise_like S (x ∷ xs) f h = ((λ y k. f x y here (there k) (h.0 y k)), pairwise_like S xs (λ y z k l. f y z (there k) (there l)) h.1)

  pub pairwise_places : (xs : List X) → Pairwise R xs → (d : X) (i j : ℕ) → i < j → j < length xs → R (get_or xs i d) (get_or xs j d)
  pairwise_places [] h d i j l m = absurd (omega arith)
  pairwise_places (x ∷ xs) h d i zero l m = absurd (omega arith)
  pairwise_places (x ∷ xs) h d zero (suc j) l m = h.0 _ (get_or_in xs j d (omega arith))
  pairwise_places (x ∷ xs) h d (suc i) (suc j) l m = pairwise_places xs h.1 d i j (omega arith) (omega arith)

  pub places_pairwise : (xs : List X) → ((d : X) (i j : ℕ) → i < j → j < length xs → R (get_or xs i d) (get_or xs j d)) → Pairwise R xs
  places_pairwise [] h = tt
  places_pairwise (x ∷ xs) h = (
    (λ y k. let p = in_place k in subst (R x) (p.2 x) (h x 0 (suc p.0) (omega arith) (omega (arith, p.1)))),
    places_pairwise xs (λ d i j l m. h d (suc i) (suc j) (omega arith) (omega arith)),
  )
