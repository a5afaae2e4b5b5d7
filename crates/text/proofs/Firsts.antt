-- The term that tokens begin with.
use Rattle.std.proofs.Common.{◌≡◌, ℕ, zero, suc, ◌+◌, ◌-◌, ◌<◌, ◌≤◌, List, [], ◌∷◌, ◌++◌, map, length, take, drop, Some, None, sym, refl, ap, ◌∙◌, subst, append_assoc, arith, length-append}
use Rattle.std.proofs.lemmas.List.{take_at, length-take-le, take-append-drop, take-map, length-map}
use Rattle.std.proofs.lemmas.Option.{same_Some}
use Rattle.std.proofs.lemmas.Bool.{cond-false, ne_eqb}
use Rattle.definitions.specs.Term.{Tree, none, ◌&◌, Placed}
use Rattle.definitions.specs.Text.{Token, flat, flats}
use Rattle.text.specs.declared.token.Token as src
use Rattle.text.specs.Span.{first_span}
use Rattle.text.specs.Spelt.{terms, AreTerms, IsTerm}
use Rattle.text.specs.View.{token}
use Rattle.text.proofs.Balance.{Balanced, are_balanced}
use Rattle.text.proofs.Spelt.{is_term}

past_word : (n d at : ℕ) (w : List ℕ) (ts : List Token) → first_span n (suc d) (Token.word at w ∷ ts) ≡ first_span (suc n) (suc d) ts
past_word n d at w ts = cond-false _ _ _ (ne_eqb (suc d) 0 (λ e. omega arith))

past_opening : (n d at : ℕ) (ts : List Token) → first_span n d (Token.opening at ∷ ts) ≡ first_span (suc n) (suc d) ts
past_opening n d at ts = cond-false _ _ _ (ne_eqb (suc d) 0 (λ e. omega arith))

-- a closing bracket under d + 2 others
past_closing : (n d : ℕ) (ts : List Token) → first_span n (suc (suc d)) (Token.closing ∷ ts) ≡ first_span (suc n) (suc d) ts
past_closing n d ts =
    let less : suc (suc d) - 1 ≡ suc d = omega arith in
    cond-false _ _ _ (ne_eqb (suc (suc d)) 0 (λ e. omega arith)) ∙ cond-false _ _ _ (ne_eqb (suc (suc d) - 1) 0 (λ e. omega arith)) ∙ ap (λ k. first_span (suc n) k ts) less

mutual
  -- under d + 1 brackets a term is passed over
  past_flat : (t : Tree ℕ) (n d : ℕ) (rest : List Token) → first_span n (suc d) (flat t ++ rest) ≡ first_span (n + length (flat t)) (suc d) rest
  past_flat (Tree.word at w) n d rest =
      let one : suc n ≡ n + 1 = omega arith in
      past_word n d at w rest ∙ ap (λ k. first_span k (suc d) rest) one
  past_flat (Tree.pair at ts) n d rest =
      let all : suc (suc n + length (flats ts)) ≡ n + length (flat (Tree.pair at ts)) = omega (arith, length-append (flats ts) (Token.closing ∷ [])) in
      past_opening n (suc d) at ((flats ts ++ Token.closing ∷ []) ++ rest)
      ∙ ap (first_span (suc n) (suc (suc d))) (append_assoc (flats ts) (Token.closing ∷ []) rest)
      ∙ past_flats ts (suc n) (suc d) (Token.closing ∷ rest)
      ∙ past_closing (suc n + length (flats ts)) d rest
      ∙ ap (λ k. first_span k (suc d) rest) all

  past_flats : (ts : Placed) (n d : ℕ) (rest : List Token) → first_span n (suc d) (flats ts ++ rest) ≡ first_span (n + length (flats ts)) (suc d) rest
  past_flats none n d rest =
      let same : n ≡ n + 0 = omega arith in
      ap (λ k. first_span k (suc d) rest) same
  past_flats (t & ts) n d rest =
      let all : n + length (flat t) + length (flats ts) ≡ n + length (flat t ++ flats ts) = omega (arith, length-append (flat t) (flats ts)) in
      ap (first_span n (suc d)) (append_assoc (flat t) (flats ts) rest)
      ∙ past_flat t n d (flats ts ++ rest)
      ∙ past_flats ts (n + length (flat t)) d rest
      ∙ ap (λ k. first_span k (suc d) rest) all

-- a term is found, whatever follows
found : (t : Tree ℕ) (rest : List Token) → first_span 0 0 (flat t ++ rest) ≡ Some (length (flat t))
found (Tree.word at w) rest = refl
found (Tree.pair at ts) rest =
    let all : suc (1 + length (flats ts)) ≡ length (flat (Tree.pair at ts)) = omega (arith, length-append (flats ts) (Token.closing ∷ [])) in
    past_opening 0 0 at ((flats ts ++ Token.closing ∷ []) ++ rest)
    ∙ ap (first_span 1 1) (append_assoc (flats ts) (Token.closing ∷ []) rest)
    ∙ past_flats ts 1 0 (Token.closing ∷ rest)
    ∙ ap Some all

-- what is found has a token, and its brackets match
pub record Closed (d n m : ℕ) (xs : List Token) : Type 0 where
  pub count : ℕ
  pub more : m ≡ n + count
  pub some : 0 < count
  pub within : count ≤ length xs
  pub balanced : Balanced d (take count xs)

one : (d n m : ℕ) (t : Token) (ts : List Token) → Some (suc n) ≡ Some m → Balanced d (t ∷ []) → Closed d n m (t ∷ ts)
one d n m t ts e h = record {
  count = 1;
  more = sym (same_Some (suc n) m e) ∙ omega arith;
  some = omega arith;
  within = omega arith;
  balanced = h;
}

on : (d c n m : ℕ) (t : Token) (ts : List Token) → Closed c (suc n) m ts → ((ys : List Token) → Balanced c ys → Balanced d (t ∷ ys)) → Closed d n m (t ∷ ts)
on d c n m t ts h b = record {
  count = suc h.count;
  more = omega (arith, h.more);
  some = omega arith;
  within = omega (arith, h.within);
  balanced = b (take h.count ts) h.balanced;
}

closed : (xs : List Token) (d n m : ℕ) → first_span n d xs ≡ Some m → Closed d n m xs
closed [] d n m e = cc
closed (Token.word at w ∷ ts) zero n m e = one zero n m (Token.word at w) ts e refl
closed (Token.word at w ∷ ts) (suc d) n m e = on (suc d) (suc d) n m (Token.word at w) ts (closed ts (suc d) (suc n) m (sym (past_word n d at w ts) ∙ e)) (λ ys h. h)
closed (Token.opening at ∷ ts) d n m e = on d (suc d) n m (Token.opening at) ts (closed ts (suc d) (suc n) m (sym (past_opening n d at ts) ∙ e)) (λ ys h. h)
closed (Token.closing ∷ ts) zero n m e = cc
closed (Token.closing ∷ ts) (suc zero) n m e = one (suc zero) n m Token.closing ts e refl
closed (Token.closing ∷ ts) (suc (suc d)) n m e = on (suc (suc d)) (suc d) n m Token.closing ts (closed ts (suc d) (suc n) m (sym (past_closing n d ts) ∙ e)) (λ ys h. h)

-- the tokens found are those of one term
pub starts : (xs : List Token) (n : ℕ) → first_span 0 0 xs ≡ Some n → (n ≤ length xs) × IsTerm (take n xs)
starts xs n e = (within, go (terms (take n xs)) (are_balanced (take n xs) (subst (λ k. Balanced 0 (take k xs)) (sym counted) c.balanced)) refl)
  where
    c : Closed 0 0 n xs
    c = closed xs 0 0 n e

    counted : n ≡ c.count
    counted = omega (arith, c.more)

    within : n ≤ length xs
    within = omega (arith, c.within, counted)

    go : (ts : Placed) → AreTerms (take n xs) → terms (take n xs) ≡ ts → IsTerm (take n xs)
    go none same from = absurd (omega (arith, c.some, counted, length-take-le n xs within, ap length (same ∙ ap flats from)))
    go (t & ts) same from =
        let whole : xs ≡ flat t ++ (flats ts ++ drop n xs) = sym (take-append-drop n xs) ∙ ap (λ ys. ys ++ drop n xs) (same ∙ ap flats from) ∙ append_assoc (flat t) (flats ts) (drop n xs) in
        let long : length (flat t) ≡ n = same_Some _ _ (sym (found t (flats ts ++ drop n xs)) ∙ ap (first_span 0 0) (sym whole) ∙ e) in
        is_term (take n xs) t (ap (take n) whole ∙ take_at (flat t) (flats ts ++ drop n xs) n long)

-- with no term found, none is there
pub no_start : (xs : List Token) (t : Tree ℕ) (rest : List Token) → first_span 0 0 xs ≡ None → xs ≡ flat t ++ rest → ⊥
no_start xs t rest e same = let z : Some (length (flat t)) ≡ None = sym (found t rest) ∙ ap (first_span 0 0) (sym same) ∙ e in cc

pub first_within : (xs : List src.Token) (n : ℕ) → Some n ≡ first_span 0 0 (map token xs) → n ≤ length xs
first_within xs n e = omega (arith, (starts (map token xs) n (sym e)).0, length-map xs token)

pub first_is_term : (xs front : List src.Token) (n : ℕ) → Some n ≡ first_span 0 0 (map token xs) → front ≡ take n xs → IsTerm (map token front)
first_is_term xs front n e is = rw (is, sym (take-map token n xs)) (starts (map token xs) n (sym e)).1
