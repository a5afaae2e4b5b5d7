-- Tokens that differ in their places only, one by one and in a row.
use Rattle.std.proofs.Common.{◌≡◌, ℕ, false, ◌==◌, ◌&&◌, eqb, List, [], ◌∷◌, ◌++◌, map, length, refl, sym, ap, ◌∙◌, append_assoc, append-nil, arith}
use Rattle.std.proofs.Math.Bool.{and_assoc, and-true}
use Rattle.std.proofs.lemmas.List.{length-map}
use Rattle.std.specs.List.{list_all, zip}
use Rattle.std.specs.Cmp.Lexicographic.{pointwise, unequal}
use Rattle.definitions.specs.Form.{same_word, same_term, same_terms}
use Rattle.definitions.specs.Term.{Tree, Trees, none, ◌&◌, bare as bared, bares}
use Rattle.definitions.specs.Text as text
use Rattle.definitions.specs.Text.{flat, flats}
use Rattle.text.specs.declared.token.Token.{Token}
use Rattle.text.specs.contracts.token.BarePartialEq.TheImpl.{eq-value}
use Rattle.text.specs.Spelt.{alike}
use Rattle.text.specs.View.{token, bare}

same_words : (v w : List ℕ) → pointwise eqb v w ≡ same_word v w
same_words [] [] = refl
same_words [] (c ∷ w) = refl
same_words (b ∷ v) [] = refl
same_words (b ∷ v) (c ∷ w) = ap (λ r. b == c && r) (same_words v w)

pub like : (t u : Token) → (eq-value).it (bare t) (bare u) ≡ alike (token t) (token u)
like (Token.Word p v) (Token.Word q w) = same_words v.now w.now
like (Token.Word p v) (Token.Open q) = refl
like (Token.Word p v) Token.Close = refl
like (Token.Open p) (Token.Word q w) = refl
like (Token.Open p) (Token.Open q) = refl
like (Token.Open p) Token.Close = refl
like Token.Close (Token.Word q w) = refl
like Token.Close (Token.Open q) = refl
like Token.Close Token.Close = refl

-- pair by pair, where both are as long
pub zipped : (xs ys : List Token) → length xs ≡ length ys → list_all (λ p. alike (token p.0) (token p.1)) (zip xs ys) ≡ pointwise alike (map token xs) (map token ys)
zipped [] [] long = refl
zipped [] (y ∷ ys) long = absurd (omega (arith, long))
zipped (x ∷ xs) [] long = absurd (omega (arith, long))
zipped (x ∷ xs) (y ∷ ys) long = ap (λ b. alike (token x) (token y) && b) (zipped xs ys (omega (arith, long)))

pub of_two_lengths : (xs ys : List Token) → (length xs ≡ length ys → ⊥) → false ≡ pointwise alike (map token xs) (map token ys)
of_two_lengths xs ys ne = sym (unequal alike (map token xs) (map token ys) (λ e. ne (sym (length-map xs token) ∙ e ∙ length-map ys token)))

-- the end of a pair is not where another goes on
ends_first : (t : Tree ℕ) (rest xs : List text.Token) → pointwise alike (text.Token.closing ∷ xs) (flat t ++ rest) ≡ false
ends_first (Tree.word p w) rest xs = refl
ends_first (Tree.pair p ts) rest xs = refl

goes_on : (t : Tree ℕ) (rest xs : List text.Token) → pointwise alike (flat t ++ rest) (text.Token.closing ∷ xs) ≡ false
goes_on (Tree.word p w) rest xs = refl
goes_on (Tree.pair p ts) rest xs = refl

mutual
  alike_flat : (t u : Tree ℕ) (xs ys : List text.Token) → pointwise alike (flat t ++ xs) (flat u ++ ys) ≡ (same_term (bared t) (bared u) && pointwise alike xs ys)
  alike_flat (Tree.word p v) (Tree.word q w) xs ys = refl
  alike_flat (Tree.word p v) (Tree.pair q us) xs ys = refl
  alike_flat (Tree.pair p ts) (Tree.word q w) xs ys = refl
  alike_flat (Tree.pair p ts) (Tree.pair q us) xs ys =
      (λ i. pointwise alike (append_assoc (flats ts) (text.Token.closing ∷ []) xs i) (append_assoc (flats us) (text.Token.closing ∷ []) ys i)) ∙ alike_flats ts us xs ys

  alike_flats : (ts us : Trees ℕ) (xs ys : List text.Token) → pointwise alike (flats ts ++ text.Token.closing ∷ xs) (flats us ++ text.Token.closing ∷ ys) ≡ (same_terms (bares ts) (bares us) && pointwise alike xs ys)
  alike_flats none none xs ys = refl
  alike_flats none (u & us) xs ys = ap (pointwise alike (text.Token.closing ∷ xs)) (append_assoc (flat u) (flats us) (text.Token.closing ∷ ys)) ∙ ends_first u (flats us ++ text.Token.closing ∷ ys) xs
  alike_flats (t & ts) none xs ys = ap (λ zs. pointwise alike zs (text.Token.closing ∷ ys)) (append_assoc (flat t) (flats ts) (text.Token.closing ∷ xs)) ∙ goes_on t (flats ts ++ text.Token.closing ∷ xs) ys
  alike_flats (t & ts) (u & us) xs ys =
      (λ i. pointwise alike (append_assoc (flat t) (flats ts) (text.Token.closing ∷ xs) i) (append_assoc (flat u) (flats us) (text.Token.closing ∷ ys) i))
      ∙ alike_flat t u (flats ts ++ text.Token.closing ∷ xs) (flats us ++ text.Token.closing ∷ ys)
      ∙ ap (λ b. same_term (bared t) (bared u) && b) (alike_flats ts us xs ys)
      ∙ sym (and_assoc (same_term (bared t) (bared u)) (same_terms (bares ts) (bares us)) (pointwise alike xs ys))

pub same_alike : (xs ys : List text.Token) (t u : Tree ℕ) → xs ≡ flat t → ys ≡ flat u → pointwise alike xs ys ≡ same_term (bared t) (bared u)
same_alike xs ys t u e f =
    (λ i. pointwise alike ((e ∙ sym (append-nil (flat t))) i) ((f ∙ sym (append-nil (flat u))) i)) ∙ alike_flat t u [] [] ∙ and-true (same_term (bared t) (bared u))
