-- Words on lists that the other definitions use.
--     In               an element of a list
--     joined, keep     lists joined, and the elements that pass a test
--     all, any, most   every element passes, one does, the largest value
--     upto, repeat     the numbers below n, and a step taken n times
--     firsts           a list without repeats, each element where it appears first
--     FirstAppearance  what such a list is
use Rattle.std.specs.Prelude.{◌≡◌, ℕ, zero, suc, ◌+◌, ◌<◌, max, Bool, true, false, cond, not, ◌&&◌, ◌||◌, List, [], ◌∷◌, ◌++◌, length, slice_index_or}

pub data In {X : Type 0} (x : X) : List X → Type 0 where
  here : {xs : List X} → In x (x ∷ xs)
  there : {y : X} {xs : List X} → In x xs → In x (y ∷ xs)

abbrev pub joined : {X Y : Type 0} → (X → List Y) → List X → List Y
joined f [] = []
joined f (x ∷ xs) = f x ++ joined f xs

abbrev pub keep : {X : Type 0} → (X → Bool) → List X → List X
keep f [] = []
keep f (x ∷ xs) = cond (f x) (x ∷ keep f xs) (keep f xs)

abbrev pub all : {X : Type 0} → (X → Bool) → List X → Bool
all f [] = true
all f (x ∷ xs) = f x && all f xs

abbrev pub any : {X : Type 0} → (X → Bool) → List X → Bool
any f [] = false
any f (x ∷ xs) = f x || any f xs

abbrev pub most : {X : Type 0} → (X → ℕ) → List X → ℕ
most f [] = 0
most f (x ∷ xs) = max (f x) (most f xs)

abbrev pub from_to : ℕ → ℕ → List ℕ
from_to a zero = []
from_to a (suc n) = a ∷ from_to (a + 1) n

abbrev pub upto : ℕ → List ℕ
upto n = from_to 0 n

abbrev pub repeat : {X : Type 0} → ℕ → (X → X) → X → X
repeat zero f x = x
repeat (suc n) f x = repeat n f (f x)

-- each element where it appears first
abbrev pub firsts : {X : Type 0} → (X → X → Bool) → List X → List X
firsts same [] = []
firsts same (x ∷ xs) = x ∷ keep (λ y. not (same x y)) (firsts same xs)

-- the place of the first element of a list that is like x, and its length where none is
abbrev pub first_like : {X : Type 0} → (X → X → Bool) → List X → X → ℕ
first_like same [] x = 0
first_like same (y ∷ ys) x = cond (same y x) 0 (suc (first_like same ys x))

-- a test that is reflexive, symmetric and transitive
pub record Same {X : Type 0} (same : X → X → Bool) : Type 0 where
  pub itself : (x : X) → same x x ≡ true
  pub turned : (x y : X) → same x y ≡ true → same y x ≡ true
  pub onward : (x y z : X) → same x y ≡ true → same y z ≡ true → same x z ≡ true

-- ys has the elements of xs, each once and as it comes first in xs, in that order
pub record FirstAppearance {X : Type 0} (same : X → X → Bool) (xs ys : List X) : Type 0 where
  pub from : (y : X) → In y ys → In y xs
  pub first : (y : X) → In y ys → slice_index_or xs (first_like same xs y) y ≡ y
  pub every : (x : X) → In x xs → any (λ y. same y x) ys ≡ true
  pub apart : (d : X) (i j : ℕ) → i < j → j < length ys → same (slice_index_or ys i d) (slice_index_or ys j d) ≡ false
  pub ordered : (d : X) (i j : ℕ) → i < j → j < length ys → first_like same xs (slice_index_or ys i d) < first_like same xs (slice_index_or ys j d)
