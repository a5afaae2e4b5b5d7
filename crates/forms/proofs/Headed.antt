-- A term is told by its opening brackets.
use Rattle.std.proofs.Common.{◌≡◌, ℕ, ◌&&◌, List, [], ◌∷◌, ◌++◌, sym, refl, ap, ◌∙◌, append_assoc, append-nil}
use Rattle.std.proofs.Math.Bool.{and_assoc, and-true}
use Rattle.definitions.specs.Form.{headed, is_term, are_terms}
use Rattle.definitions.specs.Term.{Tree, Placed, none, ◌&◌, bare, bares}
use Rattle.definitions.specs.Text.{Token, flat, flats}
use Rattle.forms.specs.Headed.{first_headed, all_headed}

pair_headed : (p : ℕ) (ts : Placed) (rest : List Token) → first_headed (Token.opening p ∷ (flats ts ++ Token.closing ∷ rest)) ≡ headed (bares ts)
pair_headed p none rest = refl
pair_headed p (Tree.pair q us & ts) rest = refl
pair_headed p (Tree.word q w & none) rest = refl
pair_headed p (Tree.word q w & (Tree.word r v & ts)) rest = refl
pair_headed p (Tree.word q w & (Tree.pair r us & ts)) rest = refl

mutual
  headed_flat : (t : Tree ℕ) (rest : List Token) → all_headed (flat t ++ rest) ≡ (is_term (bare t) && all_headed rest)
  headed_flat (Tree.word p w) rest = refl
  headed_flat (Tree.pair p ts) rest =
      ap (λ xs. all_headed (Token.opening p ∷ xs)) (append_assoc (flats ts) (Token.closing ∷ []) rest)
      ∙ ap (λ b. b && all_headed (flats ts ++ Token.closing ∷ rest)) (pair_headed p ts rest)
      ∙ ap (λ b. headed (bares ts) && b) (headed_flats ts (Token.closing ∷ rest))
      ∙ sym (and_assoc (headed (bares ts)) (are_terms (bares ts)) (all_headed rest))

  headed_flats : (ts : Placed) (rest : List Token) → all_headed (flats ts ++ rest) ≡ (are_terms (bares ts) && all_headed rest)
  headed_flats none rest = refl
  headed_flats (t & ts) rest =
      ap all_headed (append_assoc (flat t) (flats ts) rest)
      ∙ headed_flat t (flats ts ++ rest)
      ∙ ap (λ b. is_term (bare t) && b) (headed_flats ts rest)
      ∙ sym (and_assoc (is_term (bare t)) (are_terms (bares ts)) (all_headed rest))

pub term_headed : (xs : List Token) (t : Tree ℕ) → xs ≡ flat t → all_headed xs ≡ is_term (bare t)
term_headed xs t is = ap all_headed (is ∙ sym (append-nil (flat t))) ∙ headed_flat t [] ∙ and-true (is_term (bare t))
