-- Pairs of elements of lists that are appended, mapped and joined, and of the numbers below a bound.
use Rattle.std.proofs.Common.{ℕ, zero, suc, ◌+◌, ◌<◌, ◌≤◌, Bool, ◌≢◌, List, [], ◌∷◌, ◌++◌, map, sym, subst, ⊎_elim, arith}
use Rattle.definitions.specs.Lists.{In, here, there, joined, keep, from_to, upto}
use Rattle.definitions.proofs.Listed.{in_append, joined_in}
use Rattle.definitions.proofs.Pairwise.{Pairwise, pairwise_keep, pairwise_like}
use Rattle.definitions.proofs.Upto.{map_in}

module _ {Y : Type 0} (S : Y → Y → Type 0) where
  pub pairwise_append : (xs ys : List Y) → Pairwise S xs → Pairwise S ys → ((x y : Y) → In x xs → In y ys → S x y) → Pairwise S (xs ++ ys)
  pairwise_append [] ys h k across = k
  pairwise_append (x ∷ xs) ys h k across = (
    (λ y i. ⊎_elim (h.0 y) (across x y here) (in_append xs ys i)),
    pairwise_append xs ys h.1 k (λ u v i. across u v (there i)),
  )

  pub pairwise_map : {X : Type 0} (f : X → Y) (xs : List X) → Pairwise (λ x y. S (f x) (f y)) xs → Pairwise S (map f xs)
  pairwise_map f [] h = tt
  pairwise_map f (x ∷ xs) h = ((λ y i. let r = map_in f xs i in subst (S (f x)) (sym r.2) (h.0 r.0 r.1)), pairwise_map f xs h.1)

  pub pairwise_joined : {X : Type 0} (f : X → List Y) (xs : List X) → Pairwise (λ x y. (u v : Y) → In u (f x) → In v (f y) → S u v) xs → ((x : X) → In x xs → Pairwise S (f x)) → Pairwise S (joined f xs)
  pairwise_joined f [] h each = tt
  pairwise_joined f (x ∷ xs) h each =
      pairwise_append (f x) (joined f xs) (each x here) (pairwise_joined f xs h.1 (λ y i. each y (there i)))
      (λ u v i j. let r = joined_in f xs j in h.0 r.0 r.1 u v i r.2)

from_to_low : {i : ℕ} (a n : ℕ) → In i (from_to a n) → a ≤ i
from_to_low a zero h = elim h [ ]
from_to_low a (suc n) here = omega arith
from_to_low a (suc n) (there h) = omega (arith, from_to_low (a + 1) n h)

from_to_ascends : (a n : ℕ) → Pairwise (λ x y. x < y) (from_to a n)
from_to_ascends a zero = tt
from_to_ascends a (suc n) = ((λ y i. omega (arith, from_to_low (a + 1) n i)), from_to_ascends (a + 1) n)

-- numbers below a bound that pass a test, each once
pub kept_once : (f : ℕ → Bool) (n : ℕ) → Pairwise (λ x y. x ≢ y) (keep f (upto n))
kept_once f n = pairwise_keep _ f (upto n) (pairwise_like (λ x y. x < y) _ (upto n) (λ x y i j low e. omega arith) (from_to_ascends 0 n))
