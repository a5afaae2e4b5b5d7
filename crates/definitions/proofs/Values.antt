-- A word is a value exactly if it is the decimal numeral of a number up to 100.
use Rattle.std.proofs.Common.{◌≡◌, ℕ, ◌+◌, ◌-◌, ◌*◌, ◌/◌, ◌%◌, ◌<◌, ◌≤◌, Bool, true, not, ◌&&◌, eqb, leb, ◌↔◌, List, [], ◌∷◌, ◌++◌, Some, decimal, sym, ap, ◌∙◌, subst, ⊎_elim, arith}
use Rattle.std.proofs.lemmas.Fmt.{decimal_digit, decimal_step}
use Rattle.std.proofs.lemmas.Bool.{cases_lt, and_parts, and_from, leb-true, le-leb, eqb-true, eqb-false, ne_eqb, not-true, not_from_false}
use Rattle.std.proofs.lemmas.Option.{cond_some}
use Rattle.definitions.specs.Term.{Tree}
use Rattle.definitions.specs.Form.{when, digit, value}

decimal_two : (a b : ℕ) → 0 < a → a < 10 → b < 10 → decimal (10 * a + b) ≡ (48 + a) ∷ (48 + b) ∷ []
decimal_two a b h k l =
    let tens : (10 * a + b) / 10 ≡ a = omega arith in
    let ones : (10 * a + b) % 10 ≡ b = omega arith in
    decimal_step (10 * a + b) (omega arith) (omega arith) ∙ rw (tens, ones, decimal_digit a k)

decimal_hundred : decimal 100 ≡ 49 ∷ 48 ∷ 48 ∷ []
decimal_hundred = decimal_step 100 (omega arith) (omega arith) ∙ ap (λ ds. ds ++ 48 ∷ []) (decimal_two 1 0 (omega arith) (omega arith) (omega arith))

some_when : {X : Type 0} (b : Bool) (x y : X) → b ≡ true → x ≡ y → when b x ≡ Some y
some_when b x y e f = rw (e, f)

digit_bounds : (c : ℕ) → digit c ≡ true → (48 ≤ c) × (c < 58)
digit_bounds c e = let r = and_parts (leb 48 c) (leb c 57) e in (leb-true 48 c r.0, omega (arith, leb-true c 57 r.1))

digit_from : (a : ℕ) → a < 10 → digit (48 + a) ≡ true
digit_from a h = and_from _ _ (le-leb 48 (48 + a) (omega arith)) (le-leb (48 + a) 57 (omega arith))

value_is_decimal : (w : List ℕ) (n : ℕ) → value (Tree.word tt w) ≡ Some n → (n ≤ 100) × (w ≡ decimal n)
value_is_decimal [] n e = cc
value_is_decimal (c ∷ []) n e =
    let (t, is) = cond_some (digit c) (c - 48) n e in
    let (low, high) = digit_bounds c t in
    let same : 48 + n ≡ c = omega arith in
    (omega arith, sym (decimal_digit n (omega arith) ∙ ap (λ x. x ∷ []) same))
value_is_decimal (c ∷ d ∷ []) n e =
    let (t, is) = cond_some (digit c && digit d && not (eqb c 48)) (10 * (c - 48) + (d - 48)) n e in
    let (both, more) = and_parts (digit c && digit d) (not (eqb c 48)) t in
    let (tc, td) = and_parts (digit c) (digit d) both in
    let (c_low, c_high) = digit_bounds c tc in
    let (d_low, d_high) = digit_bounds d td in
    let some = eqb-false c 48 (not-true _ more) in
    let same_c : c ≡ 48 + (c - 48) = omega arith in
    let same_d : d ≡ 48 + (d - 48) = omega arith in
    (omega arith, (λ i. same_c i ∷ same_d i ∷ []) ∙ sym (decimal_two (c - 48) (d - 48) (omega arith) (omega arith) (omega arith)) ∙ ap decimal is)
value_is_decimal (c ∷ d ∷ g ∷ []) n e =
    let (t, is) = cond_some (eqb c 49 && eqb d 48 && eqb g 48) 100 n e in
    let (both, third) = and_parts (eqb c 49 && eqb d 48) (eqb g 48) t in
    let (first, second) = and_parts (eqb c 49) (eqb d 48) both in
    (omega arith, (λ i. eqb-true c 49 first i ∷ eqb-true d 48 second i ∷ eqb-true g 48 third i ∷ []) ∙ sym decimal_hundred ∙ ap decimal is)
value_is_decimal (c ∷ d ∷ g ∷ f ∷ w) n e = cc

-- the numeral of n has the value n
abbrev Returns : ℕ → Type 0
Returns n = value (Tree.word tt (decimal n)) ≡ Some n

two_is_value : (a b : ℕ) → 0 < a → a < 10 → b < 10 → Returns (10 * a + b)
two_is_value a b h k l =
    rw (decimal_two a b h k l)
    (some_when _ _ _ (and_from _ _ (and_from _ _ (digit_from a k) (digit_from b l)) (not_from_false _ (ne_eqb (48 + a) 48 (omega arith)))) (omega arith))

decimal_is_value : (n : ℕ) → n ≤ 100 → Returns n
decimal_is_value n h = ⊎_elim one (λ k. ⊎_elim (two k) three (cases_lt n 100)) (cases_lt n 10)
  where
    one : n < 10 → Returns n
    one k = rw (decimal_digit n k) (some_when _ _ _ (digit_from n k) (omega arith))

    two : 10 ≤ n → n < 100 → Returns n
    two k l =
        let parts : 10 * (n / 10) + n % 10 ≡ n = omega arith in
        subst Returns parts (two_is_value (n / 10) (n % 10) (omega arith) (omega arith) (omega arith))

    three : 100 ≤ n → Returns n
    three k =
        let full : 100 ≡ n = omega arith in
        subst Returns full (ap (λ w. value (Tree.word tt w)) decimal_hundred)

pub value_decimal : (w : List ℕ) (n : ℕ) → (value (Tree.word tt w) ≡ Some n) ↔ ((n ≤ 100) × (w ≡ decimal n))
value_decimal w n = (value_is_decimal w n, λ h. ap (λ v. value (Tree.word tt v)) h.1 ∙ decimal_is_value n h.0)
