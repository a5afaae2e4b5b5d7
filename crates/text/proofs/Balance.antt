-- Brackets that match, token by token.
use Rattle.std.proofs.Common.{◌≡◌, ℕ, zero, suc, ◌-◌, true, false, List, [], ◌∷◌, ◌++◌, sym, refl, ap, ◌∙◌, subst, append_assoc, append-nil, arith, rules, tests, Decides, ◌==◌}
use Rattle.std.proofs.lemmas.Bool.{false≢true, ne_eqb}
use Rattle.definitions.specs.Term.{Tree, none, ◌&◌, Placed}
use Rattle.definitions.specs.Text.{Token, flat, flats, Levels, outer, inner, spread, open_brackets}
use Rattle.definitions.specs.Reading.{add}
use Rattle.definitions.proofs.Levels.{spread_add, open_add}
use Rattle.text.specs.Span.{balanced}
use Rattle.text.specs.Spelt.{after, terms, AreTerms}
use Rattle.text.proofs.Spelt.{are_terms}

-- each closing bracket closes one, where d are open before, and none is left open
abbrev pub Balanced : ℕ → List Token → Type 0
Balanced d [] = d ≡ 0
Balanced d (Token.word at w ∷ ts) = Balanced d ts
Balanced d (Token.opening at ∷ ts) = Balanced (suc d) ts
Balanced zero (Token.closing ∷ ts) = ⊥
Balanced (suc d) (Token.closing ∷ ts) = Balanced d ts

-- what is read leaves no bracket open, and is spelt as it was
balanced_spread : (ts : List Token) (ls : Levels) → Balanced (open_brackets ls) ts → (us : Placed) × (after ls ts ≡ outer us) × (spread ls ++ ts ≡ flats us)
balanced_spread [] (outer us) h = (us, refl, append-nil (flats us))
balanced_spread [] (inner ls at us) h = absurd (omega (arith, h))
balanced_spread (Token.word at w ∷ ts) ls h =
    let p = balanced_spread ts (add ls (Tree.word at w)) (subst (λ d. Balanced d ts) (sym (open_add ls _)) h) in
    (p.0, p.1, sym (append_assoc (spread ls) (Token.word at w ∷ []) ts) ∙ ap (λ xs. xs ++ ts) (sym (spread_add ls (Tree.word at w))) ∙ p.2)
balanced_spread (Token.opening at ∷ ts) ls h =
    let p = balanced_spread ts (inner ls at none) h in
    (p.0, p.1, sym (append_assoc (spread ls) (Token.opening at ∷ []) ts) ∙ p.2)
balanced_spread (Token.closing ∷ ts) (outer us) h = absurd h
balanced_spread (Token.closing ∷ ts) (inner ls at us) h =
    let q : Tree ℕ = Tree.pair at us in
    let p = balanced_spread ts (add ls q) (subst (λ d. Balanced d ts) (sym (open_add ls q)) h) in
    let grown : (spread ls ++ Token.opening at ∷ flats us) ++ Token.closing ∷ ts ≡ spread (add ls q) ++ ts = append_assoc (spread ls) (Token.opening at ∷ flats us) (Token.closing ∷ ts) ∙ ap (λ xs. spread ls ++ Token.opening at ∷ xs) (sym (append_assoc (flats us) (Token.closing ∷ []) ts)) ∙ sym (append_assoc (spread ls) (flat q) ts) ∙ ap (λ xs. xs ++ ts) (sym (spread_add ls q)) in
    (p.0, p.1, grown ∙ p.2)

mutual
  balanced_flat : (t : Tree ℕ) (d : ℕ) (rest : List Token) → Balanced d rest → Balanced d (flat t ++ rest)
  balanced_flat (Tree.word at w) d rest h = h
  balanced_flat (Tree.pair at ts) d rest h =
      subst (Balanced (suc d)) (sym (append_assoc (flats ts) (Token.closing ∷ []) rest)) (balanced_flats ts (suc d) (Token.closing ∷ rest) h)

  balanced_flats : (ts : Placed) (d : ℕ) (rest : List Token) → Balanced d rest → Balanced d (flats ts ++ rest)
  balanced_flats none d rest h = h
  balanced_flats (t & ts) d rest h =
      subst (Balanced d) (sym (append_assoc (flat t) (flats ts) rest)) (balanced_flat t d (flats ts ++ rest) (balanced_flats ts d rest h))

balanced_decides : (d : ℕ) (ts : List Token) → Decides (balanced d ts) (Balanced d ts)
balanced_decides d [] = search (rules, tests)
balanced_decides d (Token.word at w ∷ ts) = balanced_decides d ts
balanced_decides d (Token.opening at ∷ ts) = balanced_decides (suc d) ts
balanced_decides zero (Token.closing ∷ ts) = (λ e. absurd (false≢true e), λ h. absurd h)
balanced_decides (suc d) (Token.closing ∷ ts) =
    let some : (suc d == 0) ≡ false = ne_eqb (suc d) 0 (λ e. omega arith) in
    let less : suc d - 1 ≡ d = omega arith in
    rw (some, less) (balanced_decides d ts)

pub are_balanced : (xs : List Token) → Balanced 0 xs → AreTerms xs
are_balanced xs h = let p = balanced_spread xs (outer none) h in are_terms xs p.0 p.2

pub terms_if_balanced : (xs : List Token) → balanced 0 xs ≡ true → AreTerms xs
terms_if_balanced xs e = are_balanced xs ((balanced_decides 0 xs).0 e)

pub balanced_if_terms : (xs : List Token) → AreTerms xs → balanced 0 xs ≡ true
balanced_if_terms xs h = (balanced_decides 0 xs).1 (subst (Balanced 0) (append-nil (flats (terms xs)) ∙ sym h) (balanced_flats (terms xs) 0 [] refl))
