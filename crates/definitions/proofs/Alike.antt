-- Tokens that are alike but for their places spell terms that are the same but for their places.
use Rattle.std.proofs.Common.{◌≡◌, ℕ, suc, List, [], ◌∷◌, ◌++◌, refl, ap, ◌∙◌, append_assoc}
use Rattle.definitions.specs.Term.{Tree, Trees, none, ◌&◌, Placed, bares, Filled, Fits}
use Rattle.definitions.specs.Text.{Token, flats}

pub data Alike : List Token → List Token → Type 0 where
  both_end : Alike [] []
  both_word : {at from : ℕ} {w : List ℕ} {xs ys : List Token} → Alike xs ys → Alike (Token.word at w ∷ xs) (Token.word from w ∷ ys)
  both_opening : {at from : ℕ} {xs ys : List Token} → Alike xs ys → Alike (Token.opening at ∷ xs) (Token.opening from ∷ ys)
  both_closing : {xs ys : List Token} → Alike xs ys → Alike (Token.closing ∷ xs) (Token.closing ∷ ys)

-- the front of xs spells the terms again, and what is left is alike to rest
pub record Again (ts : Placed) (rest xs : List Token) : Type 0 where
  pub terms : Placed
  pub left : List Token
  pub spells : xs ≡ flats terms ++ left
  pub alike : Alike left rest
  pub same : bares terms ≡ bares ts
  pub fits : (d : ℕ) → Fits d ts → Fits d terms

filled_again : (us ts : Placed) → bares us ≡ bares ts → Filled ts → Filled us
filled_again none none e h = h
filled_again none (t & ts) e h = cc
filled_again (u & us) ts e h = tt

pub none_left : (xs : List Token) → Alike xs [] → xs ≡ []
none_left xs both_end = refl

after_closing : {xs ys : List Token} → Alike xs (Token.closing ∷ ys) → (zs : List Token) × (xs ≡ Token.closing ∷ zs) × Alike zs ys
after_closing (both_closing {xs} h) = (xs, refl, h)

regrouped : (vs ws left ends zs ys : List Token) → ys ≡ vs ++ ends → ends ≡ Token.closing ∷ zs → zs ≡ ws ++ left → ys ≡ ((vs ++ Token.closing ∷ []) ++ ws) ++ left
regrouped vs ws left ends zs ys e f g = e ∙ ap (λ l. vs ++ l) (f ∙ ap (λ l. Token.closing ∷ l) g) ∙ simp append_assoc

pair_again : (at p : ℕ) (us ts : Placed) (rest ys : List Token) → Again us (Token.closing ∷ flats ts ++ rest) ys → ((zs : List Token) → Alike zs (flats ts ++ rest) → Again ts rest zs) → Again (Tree.pair at us & ts) rest (Token.opening p ∷ ys)
pair_again at p us ts rest ys inside others =
    let (zs, shut, more) = after_closing inside.alike in
    let on = others zs more in
    record {
      terms = Tree.pair p inside.terms & on.terms;
      left = on.left;
      spells = ap (λ vs. Token.opening p ∷ vs) (regrouped (flats inside.terms) (flats on.terms) on.left inside.left zs ys inside.spells shut on.spells);
      alike = on.alike;
      same = λ i. Tree.pair tt (inside.same i) & on.same i;
      fits = λ d k. ((k.0.0, filled_again _ us inside.same k.0.1, inside.fits (suc d) k.0.2), on.fits d k.1);
    }

mutual
  first_again : (t : Tree ℕ) (ts : Placed) (rest xs : List Token) → ((zs : List Token) → Alike zs (flats ts ++ rest) → Again ts rest zs) → Alike xs (flats (t & ts) ++ rest) → Again (t & ts) rest xs
  first_again (Tree.word at w) ts rest xs others (both_word {at = p} {xs = ys} h) =
      let on = others ys h in
      record {
        terms = Tree.word p w & on.terms;
        left = on.left;
        spells = ap (λ zs. Token.word p w ∷ zs) on.spells;
        alike = on.alike;
        same = ap (λ us. Tree.word tt w & us) on.same;
        fits = λ d k. (tt, on.fits d k.1);
      }
  first_again (Tree.pair at us) ts rest xs others (both_opening {at = p} {xs = ys} h) =
      pair_again at p us ts rest ys (again us (Token.closing ∷ flats ts ++ rest) ys (simp append_assoc at h)) others

  pub again : (ts : Trees ℕ) (rest xs : List Token) → Alike xs (flats ts ++ rest) → Again ts rest xs
  again none rest xs h = record { terms = none; left = xs; spells = refl; alike = h; same = refl; fits = λ d k. tt }
  again (t & ts) rest xs h = first_again t ts rest xs (λ zs k. again ts rest zs k) h
