-- The numbers below a bound, elements of a mapped list, and numbers among others.
use Rattle.std.proofs.Common.{◌≡◌, ℕ, zero, suc, ◌+◌, ◌<◌, ◌≤◌, true, eqb, List, [], ◌∷◌, map, get_or, Decides, refl, ⊎_elim, zero-add, arith}
use Rattle.std.proofs.lemmas.List.FromFn.{get_or-map-range_with_len}
use Rattle.std.proofs.lemmas.Bool.{false≢true, cond_both, cases_eq, eqb-true, eqb-false}
use Rattle.definitions.specs.Lists.{In, here, there, from_to, upto}
use Rattle.definitions.specs.Deal.{among}
use Rattle.definitions.proofs.Listed.{either_in}

pub map_in : {X Y : Type 0} (f : X → Y) {y : Y} (xs : List X) → In y (map f xs) → (x : X) × In x xs × (y ≡ f x)
map_in f [] i = elim i [ ]
map_in f (x ∷ xs) here = (x, here, refl)
map_in f (x ∷ xs) (there i) = let s = map_in f xs i in (s.0, there s.1, s.2)

pub in_map : {X Y : Type 0} (f : X → Y) {x : X} {xs : List X} → In x xs → In (f x) (map f xs)
in_map f here = here
in_map f (there i) = there (in_map f i)

from_to_in : {i : ℕ} (a n : ℕ) → In i (from_to a n) → i < a + n
from_to_in a zero h = elim h [ ]
from_to_in a (suc n) here = omega arith
from_to_in a (suc n) (there h) = omega (arith, from_to_in (a + 1) n h)

in_from_to : (i a n : ℕ) → a ≤ i → i < a + n → In i (from_to a n)
in_from_to i a zero low high = absurd (omega arith)
in_from_to i a (suc n) low high = ⊎_elim (λ e. rw e here) (λ l. there (in_from_to i (a + 1) n (omega arith) (omega arith))) (cases_eq i a)

pub upto_in : {i : ℕ} (n : ℕ) → In i (upto n) → i < n
upto_in n h = omega (arith, from_to_in 0 n h)

pub in_upto : {i n : ℕ} → i < n → In i (upto n)
in_upto {i} {n} h = in_from_to i 0 n (omega arith) (omega arith)

pub get_or_map_upto : {Y : Type 0} (f : ℕ → Y) (n i : ℕ) (d : Y) → i < n → get_or (map f (upto n)) i d ≡ f i
get_or_map_upto f n i d h = get_or-map-range_with_len f 0 n i i d h (zero-add i)

pub among_decides : (xs : List ℕ) (n : ℕ) → Decides (among xs n) (In n xs)
among_decides [] n = (λ e. absurd (false≢true e), λ h. elim h [ ])
among_decides (x ∷ xs) n =
    let rest = among_decides xs n in
    cond_both (eqb x n) true (among xs n) (λ b. Decides b (In n (x ∷ xs)))
    (λ e. (λ t. rw (eqb-true x n e) here, λ h. refl))
    (λ e. (λ t. there (rest.0 t), λ h. ⊎_elim (λ s. absurd (eqb-false x n e s)) rest.1 (either_in h)))
