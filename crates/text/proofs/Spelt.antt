-- The terms that words and brackets spell, and the words and brackets of these terms.
use Rattle.std.proofs.Common.{◌≡◌, ℕ, ◌-◌, ◌<◌, ◌≤◌, List, [], ◌∷◌, ◌++◌, map, length, get_or, take, drop, sym, refl, ap, ◌∙◌, append_assoc, append-nil, arith, false, ◌==◌, false-eqb, subst, Bor}
use Rattle.std.proofs.lemmas.List.{take-map, drop-map, take_all, take_at, drop_at, length-map, length_push}
use Rattle.definitions.specs.Term.{Tree, none, ◌&◌, Placed}
use Rattle.definitions.specs.Text.{Token, flat, flats, Levels, outer, inner}
use Rattle.definitions.specs.Reading.{add}
use Rattle.definitions.proofs.Levels.{adds, adds_none, adds_first}
use Rattle.text.proofs.Spans.{spans}
use Rattle.text.specs.declared.token.Token as src
use Rattle.text.specs.Span.{span}
use Rattle.text.specs.View.{token}
use Rattle.text.specs.Spelt.{put, after, levels, outside, terms, first, term, AreTerms, IsTerm}
use Rattle.text.specs.Terms.{listed}

mutual
  after_flat : (t : Tree ℕ) (ls : Levels) (rest : List Token) → after ls (flat t ++ rest) ≡ after (add ls t) rest
  after_flat (Tree.word at w) ls rest = refl
  after_flat (Tree.pair at ts) ls rest =
      ap (after (inner ls at none)) (append_assoc (flats ts) (Token.closing ∷ []) rest)
      ∙ after_flats ts (inner ls at none) (Token.closing ∷ rest)

  after_flats : (ts : Placed) (ls : Levels) (rest : List Token) → after ls (flats ts ++ rest) ≡ after (adds ls ts) rest
  after_flats none ls rest = ap (λ ks. after ks rest) (sym (adds_none ls))
  after_flats (t & ts) ls rest =
      ap (after ls) (append_assoc (flat t) (flats ts) rest)
      ∙ after_flat t ls (flats ts ++ rest)
      ∙ after_flats ts (add ls t) rest
      ∙ ap (λ ks. after ks rest) (adds_first ls t ts)

-- the words and brackets of terms spell them
pub terms_flats : (ts : Placed) → terms (flats ts) ≡ ts
terms_flats ts =
    ap terms (sym (append-nil (flats ts))) ∙ ap outside (after_flats ts (outer none) [])

pub are_terms : (xs : List Token) (ts : Placed) → xs ≡ flats ts → AreTerms xs
are_terms xs ts is = is ∙ ap flats (sym (ap terms is ∙ terms_flats ts))

pub term_flat : (t : Tree ℕ) → term (flat t) ≡ t
term_flat t = ap (λ xs. first (terms xs)) (sym (append-nil (flat t))) ∙ ap first (terms_flats (t & none))

pub is_term : (xs : List Token) (t : Tree ℕ) → xs ≡ flat t → IsTerm xs
is_term xs t is = is ∙ ap flat (sym (ap term is ∙ term_flat t))

pub after_more : (ls : Levels) (ts us : List Token) → after ls (ts ++ us) ≡ after (after ls ts) us
after_more ls [] us = refl
after_more ls (t ∷ ts) us = after_more (put ls t) ts us

pub levels_push : (ts : List Token) (t : Token) → levels (ts ++ t ∷ []) ≡ put (levels ts) t
levels_push ts t = after_more (outer none) ts (t ∷ [])

-- terms that are not none are a term and the others
pub record Parted (xs front back : List Token) : Type 0 where
  pub one : IsTerm front
  pub others : AreTerms back
  pub split : listed (terms xs) ≡ term front ∷ listed (terms back)

parted : (xs : List Token) (n : ℕ) → AreTerms xs → 0 < length xs → n ≡ span 0 xs → Parted xs (take n xs) (drop n xs)
parted xs n h some is = go (terms xs) h refl
  where
    go : (ts : Placed) → xs ≡ flats ts → terms xs ≡ ts → Parted xs (take n xs) (drop n xs)
    go none same from = absurd (omega (arith, ap length same))
    go (t & ts) same from =
        let long : length (flat t) ≡ n = sym (spans t (flats ts)) ∙ ap (span 0) (sym same) ∙ sym is in
        let here : take n xs ≡ flat t = ap (take n) same ∙ take_at (flat t) (flats ts) n long in
        let rest : drop n xs ≡ flats ts = ap (drop n) same ∙ drop_at (flat t) (flats ts) n long in
        record {
          one = is_term _ t here;
          others = are_terms _ ts rest;
          split = ap listed from ∙ ap (λ u. u ∷ listed ts) (sym (ap term here ∙ term_flat t)) ∙ ap (λ us. term (take n xs) ∷ listed us) (sym (ap terms rest ∙ terms_flats ts));
        }

pub tokens_parted : (xs front back : List src.Token) (n : ℕ) → AreTerms (map token xs) → false ≡ (length xs == 0) → n ≡ span 0 (map token xs) → front ≡ take n xs → back ≡ drop n xs → Parted (map token xs) (map token front) (map token back)
tokens_parted xs front back n h some is here rest =
    rw (here, rest, sym (take-map token n xs), sym (drop-map token n xs)) (parted (map token xs) n h (omega (arith, length-map xs token, false-eqb (length xs) 0 some)) is)

-- a term has a word or bracket, and does not start with a closing one
pub starts : (xs : List src.Token) (t : Tree ℕ) → map token xs ≡ flat t → 0 < length xs
starts [] (Tree.word at w) is = absurd (omega (arith, ap length is))
starts [] (Tree.pair at ts) is = absurd (omega (arith, ap length is))
starts (x ∷ xs) t is = omega arith

pub no_close_first : (xs : List src.Token) (t : Tree ℕ) (d : src.Token) → map token xs ≡ flat t → get_or xs 0 d ≡ src.Token.Close → ⊥
no_close_first [] t d is e = absurd (omega (arith, starts [] t is))
no_close_first (x ∷ xs) (Tree.word at w) d is e =
    let z : Token.closing ≡ Token.word at w = ap token (sym e) ∙ ap (λ ts. get_or ts 0 Token.closing) is in
    cc
no_close_first (x ∷ xs) (Tree.pair at ts) d is e =
    let z : Token.closing ≡ Token.opening at = ap token (sym e) ∙ ap (λ ts. get_or ts 0 Token.closing) is in
    cc

-- what a bracket pair has inside
pub inside : (xs front : List src.Token) (t : Tree ℕ) → map token xs ≡ flat t → 2 ≤ length xs → front ≡ take (length xs - 1 - 1) (drop 1 xs) → (at : ℕ) × (t ≡ Tree.pair at (terms (map token front))) × AreTerms (map token front)
inside xs front (Tree.word at w) is long cut = absurd (omega (arith, ap length is, length-map xs token))
inside xs front (Tree.pair at ts) is long cut =
    let some : length (flats ts) ≡ length xs - 1 - 1 = omega (arith, sym (length-map xs token) ∙ ap length is, length_push (flats ts) Token.closing) in
    let here : map token front ≡ flats ts = ap (map token) cut ∙ sym (take-map token _ (drop 1 xs)) ∙ ap (take (length xs - 1 - 1)) (sym (drop-map token 1 xs) ∙ ap (drop 1) is) ∙ take_at (flats ts) (Token.closing ∷ []) _ some in
    (at, ap (Tree.pair at) (sym (ap terms here ∙ terms_flats ts)), are_terms _ ts here)

-- terms that begin with a word are that word and the others
record Worded (at : ℕ) (w : List ℕ) (xs back : List Token) : Type 0 where
  others : AreTerms back
  split : terms xs ≡ Tree.word at w & terms back

worded : (at : ℕ) (w : List ℕ) (back : List Token) → AreTerms (Token.word at w ∷ back) → Worded at w (Token.word at w ∷ back) back
worded at w back h = go (terms (Token.word at w ∷ back)) h refl
  where
    go : (ts : Placed) → Token.word at w ∷ back ≡ flats ts → terms (Token.word at w ∷ back) ≡ ts → Worded at w (Token.word at w ∷ back) back
    go none same from = absurd (omega (arith, ap length same))
    go (Tree.word p v & us) same from =
        let rest : back ≡ flats us = ap (drop 1) same in
        let one : Tree.word p v ≡ Tree.word at w = ap (λ xs. term (get_or xs 0 Token.closing ∷ [])) (sym same) in
        let more : us ≡ terms back = sym (ap terms rest ∙ terms_flats us) in
        record {
          others = are_terms back us rest;
          split = from ∙ (λ i. one i & more i);
        }
    go (Tree.pair p ts & us) same from =
        let z : Token.word at w ≡ Token.opening p = ap (λ xs. get_or xs 0 Token.closing) same in
        cc

word_and_others : (xs : List src.Token) (at : ℕ) (w : Bor (List ℕ)) → AreTerms (map token xs) → 1 ≤ length xs → get_or xs 0 (src.Token.Open 0) ≡ src.Token.Word at w → Worded at w.now (map token xs) (map token (take (length xs - 1) (drop 1 xs)))
word_and_others [] at w h some is = absurd (omega arith)
word_and_others (x ∷ xs) at w h some is =
    let whole : take (length (x ∷ xs) - 1) xs ≡ xs = take_all (length (x ∷ xs) - 1) xs (omega arith) in
    rw (whole, is) (worded at w.now (map token xs) (subst (λ y. AreTerms (token y ∷ map token xs)) is h))

pub word_others : (xs : List src.Token) (at : ℕ) (w : Bor (List ℕ)) → AreTerms (map token xs) → 1 ≤ length xs → get_or xs 0 (src.Token.Open 0) ≡ src.Token.Word at w → AreTerms (map token (take (length xs - 1) (drop 1 xs)))
word_others xs at w h some is = (word_and_others xs at w h some is).others

pub word_split : (xs : List src.Token) (at : ℕ) (w : Bor (List ℕ)) → AreTerms (map token xs) → 1 ≤ length xs → get_or xs 0 (src.Token.Open 0) ≡ src.Token.Word at w → terms (map token xs) ≡ Tree.word at w.now & terms (map token (take (length xs - 1) (drop 1 xs)))
word_split xs at w h some is = (word_and_others xs at w h some is).split
