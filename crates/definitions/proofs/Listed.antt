-- Elements of lists that are joined, kept or tested, and steps that are repeated.
use Rattle.std.proofs.Common.{◌≡◌, ℕ, zero, suc, ◌+◌, ◌<◌, ◌≤◌, Bool, true, false, cond, ◌⊎◌, List, [], ◌∷◌, ◌++◌, length, Decides, sym, refl, subst, inl, inr, arith}
use Rattle.std.proofs.lemmas.Bool.{false≢true, cases_lt, cond-true, cond_both}
use Rattle.std.proofs.lemmas.Bool.Decides.{Decides-like, Decides-and, Decides-or}
use Rattle.definitions.specs.Lists.{In, here, there, joined, keep, all, any, most, repeat}

pub in_either : {X : Type 0} {x y : X} {ys : List X} → (y ≡ x) ⊎ In x ys → In x (y ∷ ys)
in_either {x} {ys} (inl e) = subst (λ z. In x (z ∷ ys)) (sym e) here
in_either (inr i) = there i

pub either_in : {X : Type 0} {x y : X} {ys : List X} → In x (y ∷ ys) → (y ≡ x) ⊎ In x ys
either_in here = inl refl
either_in (there i) = inr i

pub in_left : {X : Type 0} {x : X} {xs : List X} → (ys : List X) → In x xs → In x (xs ++ ys)
in_left ys here = here
in_left ys (there i) = there (in_left ys i)

pub in_right : {X : Type 0} {x : X} → (xs : List X) {ys : List X} → In x ys → In x (xs ++ ys)
in_right [] i = i
in_right (y ∷ xs) i = there (in_right xs i)

pub in_append : {X : Type 0} {x : X} → (xs ys : List X) → In x (xs ++ ys) → In x xs ⊎ In x ys
in_append [] ys i = inr i
in_append (y ∷ xs) ys here = inl here
in_append (y ∷ xs) ys (there i) = elim (in_append xs ys i) [ inl j ↦ inl (there j) | inr j ↦ inr j ]

pub in_joined : {X Y : Type 0} (f : X → List Y) {x : X} {y : Y} {xs : List X} → In x xs → In y (f x) → In y (joined f xs)
in_joined f here j = in_left _ j
in_joined f (there {y = z} i) j = in_right (f z) (in_joined f i j)

pub joined_in : {X Y : Type 0} (f : X → List Y) {y : Y} → (xs : List X) → In y (joined f xs) → (x : X) × In x xs × In y (f x)
joined_in f [] i = elim i [ ]
joined_in f {y} (x ∷ xs) i = go (in_append (f x) (joined f xs) i) (joined_in f xs)
  where
    go : In y (f x) ⊎ In y (joined f xs) → (In y (joined f xs) → (z : _) × In z xs × In y (f z)) → (z : _) × In z (x ∷ xs) × In y (f z)
    go (inl j) on = (x, here, j)
    go (inr j) on = let r = on j in (r.0, there r.1, r.2)

pub in_keep : {X : Type 0} (f : X → Bool) {x : X} {xs : List X} → In x xs → f x ≡ true → In x (keep f xs)
in_keep f here e = rw (cond-true _ _ _ e) here
in_keep f {x} (there {y = y} {xs} i) e = cond_both (f y) (y ∷ keep f xs) (keep f xs) (In x) (λ k. there (in_keep f i e)) (λ k. in_keep f i e)

pub keep_in : {X : Type 0} (f : X → Bool) {x : X} → (xs : List X) → In x (keep f xs) → In x xs × (f x ≡ true)
keep_in f [] i = elim i [ ]
keep_in {X} f {x} (y ∷ xs) i =
    let on = keep_in f xs in
    cond_both (f y) (y ∷ keep f xs) (keep f xs) (λ l. In x l → In x (y ∷ xs) × (f x ≡ true)) (λ e j. go e on (either_in j)) (λ e j. let r = on j in (there r.0, r.1)) i
  where
    go : f y ≡ true → (In x (keep f xs) → In x xs × (f x ≡ true)) → (y ≡ x) ⊎ In x (keep f xs) → In x (y ∷ xs) × (f x ≡ true)
    go e on (inl same) = (in_either (inl same), subst (λ z. f z ≡ true) same e)
    go e on (inr j) = let r = on j in (there r.0, r.1)

module _ {X : Type 0} (f : X → Bool) (P : X → Type 0) (each : (x : X) → Decides (f x) (P x)) where
  pub any_decides : (xs : List X) → Decides (any f xs) ((x : X) × In x xs × P x)
  any_decides [] = (λ e. absurd (false≢true e), λ r. elim r.1 [ ])
  any_decides (y ∷ xs) = Decides-like _ one first_or (Decides-or _ _ (each y) (any_decides xs))
    where
      one : P y ⊎ ((x : X) × In x xs × P x) → (x : X) × In x (y ∷ xs) × P x
      one (inl p) = (y, here, p)
      one (inr r) = (r.0, there r.1, r.2)

      split : (x : X) → P x → (y ≡ x) ⊎ In x xs → P y ⊎ ((z : X) × In z xs × P z)
      split x p (inl e) = inl (subst P (sym e) p)
      split x p (inr i) = inr (x, i, p)

      first_or : (x : X) × In x (y ∷ xs) × P x → P y ⊎ ((z : X) × In z xs × P z)
      first_or r = split r.0 r.2 (either_in r.1)

  pub all_decides : (xs : List X) → Decides (all f xs) ((x : X) → In x xs → P x)
  all_decides [] = (λ e x i. elim i [ ], λ h. refl)
  all_decides (y ∷ xs) = Decides-like _ (λ p x i. split p x (either_in i)) (λ h. (h y here, λ x i. h x (there i))) (Decides-and _ _ (each y) (all_decides xs))
    where
      split : P y × ((x : X) → In x xs → P x) → (x : X) → (y ≡ x) ⊎ In x xs → P x
      split p x (inl e) = subst P e p.0
      split p x (inr i) = p.1 x i

pub true_itself : (b : Bool) → Decides b (b ≡ true)
true_itself b = (λ e. e, λ e. e)

pub any_true : {X : Type 0} (f : X → Bool) (xs : List X) → Decides (any f xs) ((x : X) × In x xs × (f x ≡ true))
any_true f xs = any_decides f (λ x. f x ≡ true) (λ x. true_itself (f x)) xs

pub all_true : {X : Type 0} (f : X → Bool) (xs : List X) → Decides (all f xs) ((x : X) → In x xs → f x ≡ true)
all_true f xs = all_decides f (λ x. f x ≡ true) (λ x. true_itself (f x)) xs

pub most_above : {X : Type 0} (f : X → ℕ) {x : X} {xs : List X} → In x xs → f x ≤ most f xs
most_above f here = omega arith
most_above f (there i) = omega (arith, most_above f i)

pub most_below : {X : Type 0} (f : X → ℕ) (n : ℕ) (xs : List X) → ((x : X) → In x xs → f x ≤ n) → most f xs ≤ n
most_below f n [] h = omega arith
most_below f n (y ∷ xs) h = omega (arith, h y here, most_below f n xs (λ x i. h x (there i)))

-- the sum of the values of a list
abbrev pub total : {X : Type 0} → (X → ℕ) → List X → ℕ
total f [] = 0
total f (x ∷ xs) = f x + total f xs

pub total_grows : {X : Type 0} (f g : X → ℕ) (xs : List X) → ((x : X) → In x xs → f x ≤ g x) → total f xs ≤ total g xs
total_grows f g [] h = omega arith
total_grows f g (y ∷ xs) h = omega (arith, h y here, total_grows f g xs (λ x i. h x (there i)))

pub total_rises : {X : Type 0} (f g : X → ℕ) (xs : List X) → ((x : X) → In x xs → f x ≤ g x) → (total f xs < total g xs) ⊎ ((x : X) → In x xs → g x ≤ f x)
total_rises f g [] h = inr (λ x i. elim i [ ])
total_rises {X} f g (y ∷ xs) h = go (cases_lt (f y) (g y)) (total_rises f g xs (λ x i. h x (there i)))
  where
    go : (f y < g y) ⊎ (g y ≤ f y) → (total f xs < total g xs) ⊎ ((x : X) → In x xs → g x ≤ f x) → (total f (y ∷ xs) < total g (y ∷ xs)) ⊎ ((x : X) → In x (y ∷ xs) → g x ≤ f x)
    go (inl up) on = inl (omega (arith, total_grows f g xs (λ x i. h x (there i))))
    go (inr same) (inl up) = inl (omega (arith, h y here))
    go (inr same) (inr on) = inr (λ x i. elim (either_in i) [ inl e ↦ subst (λ z. g z ≤ f z) e same | inr k ↦ on x k ])

-- how many elements pass a test
abbrev pub count : {X : Type 0} → (X → Bool) → List X → ℕ
count f xs = total (λ x. cond (f x) 1 0) xs

pub count_length : {X : Type 0} (f : X → Bool) (xs : List X) → count f xs ≤ length xs
count_length f [] = omega arith
count_length f (y ∷ xs) = let on = count_length f xs in cond_both (f y) 1 0 (λ n. n + count f xs ≤ suc (length xs)) (λ e. omega arith) (λ e. omega arith)

tells_le : (b c : Bool) → (b ≡ true → c ≡ true) → ◌≤◌ (cond b 1 0) (cond c 1 0)
tells_le true c h = rw (h refl) (omega arith)
tells_le false c h = omega arith

le_tells : (b c : Bool) → ◌≤◌ (cond b 1 0) (cond c 1 0) → b ≡ true → c ≡ true
le_tells b true h e = refl
le_tells true false h e = absurd (omega arith)
le_tells false false h e = e

module _ {X : Type 0} (f g : X → Bool) (xs : List X) (h : (x : X) → In x xs → f x ≡ true → g x ≡ true) where
  pub count_grows : count f xs ≤ count g xs
  count_grows = total_grows _ _ xs (λ x i. tells_le (f x) (g x) (h x i))

  pub count_rises : (count f xs < count g xs) ⊎ ((x : X) → In x xs → g x ≡ true → f x ≡ true)
  count_rises = elim (total_rises (λ x. cond (f x) 1 0) (λ x. cond (g x) 1 0) xs (λ x i. tells_le (f x) (g x) (h x i))) [ inl up ↦ inl up | inr on ↦ inr (λ x i. le_tells (g x) (f x) (on x i)) ]

pub repeat_keeps : {X : Type 0} (step : X → X) (P : X → Type 0) → ((x : X) → P x → P (step x)) → (n : ℕ) (x : X) → P x → P (repeat n step x)
repeat_keeps step P keeps zero x p = p
repeat_keeps step P keeps (suc n) x p = repeat_keeps step P keeps n (step x) (keeps x p)

-- a step that is at P already or raises a bounded size is at P after as many turns as the bound
module _ {X : Type 0} (step : X → X) (Q P : X → Type 0) (keeps : (x : X) → Q x → Q (step x)) (stays : (x : X) → P x → P (step x)) (size : X → ℕ) (bound : ℕ) (small : (x : X) → Q x → size x ≤ bound) (moves : (x : X) → Q x → P x ⊎ (size x < size (step x))) where
  pub repeat_settles : (n : ℕ) (x : X) → Q x → bound ≤ n + size x → P (repeat n step x)
  repeat_settles zero x q far = elim (moves x q) [ inl p ↦ p | inr up ↦ absurd (omega (arith, small (step x) (keeps x q))) ]
  repeat_settles (suc n) x q far =
      let on : size x < size (step x) → P (repeat n step (step x)) = λ up. repeat_settles n (step x) (keeps x q) (omega arith) in
      elim (moves x q) [ inl p ↦ repeat_keeps step P stays n (step x) (stays x p) | inr up ↦ on up ]
