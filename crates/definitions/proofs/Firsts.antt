-- The list of first appearances, and the place of the first element that is like another.
use Rattle.std.proofs.Common.{◌≡◌, suc, ◌<◌, Bool, true, false, not, eqb, List, [], ◌∷◌, length, get_or, Decides, refl, ap, ◌∙◌, subst, inl, ⊎_elim, arith}
use Rattle.std.proofs.lemmas.Bool.{cases_Bool, false_from_ne_true, cond-true, cond-false, cond_both, not-true, not_from_false, or_left, or_right, eqb-true, eq-eqb, false≢true}
use Rattle.std.proofs.lemmas.Bool.Decides.{same_from_decides}
use Rattle.definitions.specs.Lists.{In, there, keep, any, firsts, first_like, Same, FirstAppearance}
use Rattle.definitions.proofs.Listed.{in_either, either_in, in_keep, keep_in, any_true}
use Rattle.definitions.proofs.Elements.{in_any}
use Rattle.definitions.proofs.Pairwise.{Pairwise, pairwise_keep, pairwise_like, pairwise_places}

-- the place is in the list, and what is there is like x
pub like_place : {X : Type 0} (same : X → X → Bool) (ys : List X) (x : X) → any (λ y. same y x) ys ≡ true → (first_like same ys x < length ys) × ((d : X) → same (get_or ys (first_like same ys x) d) x ≡ true)
like_place same [] x h = absurd (false≢true h)
like_place {X} same (y ∷ ys) x h =
    cond_both (same y x) 0 (suc (first_like same ys x)) (λ n. (n < suc (length ys)) × ((d : X) → same (get_or (y ∷ ys) n d) x ≡ true))
    (λ e. (omega arith, λ d. e))
    (λ e. let r = like_place same ys x (rw e at h) in (omega (arith, r.0), r.1))

from_list : {X : Type 0} (same : X → X → Bool) (xs : List X) (y : X) → In y (firsts same xs) → In y xs
from_list same [] y h = elim h [ ]
from_list same (x ∷ xs) y h = ⊎_elim (λ e. in_either (inl e)) (λ k. there (from_list same xs y (keep_in _ (firsts same xs) k).0)) (either_in h)

module _ {X : Type 0} (same : X → X → Bool) (laws : Same same) where
  same_alike : (x z y : X) → same x z ≡ true → same y x ≡ same y z
  same_alike x z y e =
      same_from_decides {P = same y x ≡ true} (same y x) (same y z) ((λ h. h), λ h. h)
      ((λ h. laws.onward y z x h (laws.turned x z e)), λ h. laws.onward y x z h e)

  pub like_same : (ys : List X) (x z : X) → same x z ≡ true → first_like same ys x ≡ first_like same ys z
  like_same [] x z e = refl
  like_same (y ∷ ys) x z e = rw (same_alike x z y e, like_same ys x z e)

  -- places among ys tell apart what is not the same
  pub like_tells : (ys : List X) (x z : X) → any (λ y. same y x) ys ≡ true → any (λ y. same y z) ys ≡ true → Decides (eqb (first_like same ys x) (first_like same ys z)) (same x z ≡ true)
  like_tells ys x z h k = (
    (λ e. laws.onward x _ z
        (laws.turned _ x ((like_place same ys x h).1 x))
        (rw (eqb-true (first_like same ys x) (first_like same ys z) e) ((like_place same ys z k).1 x))),
    λ e. eq-eqb _ _ (like_same ys x z e),
  )

  pub every_found : (xs : List X) (x : X) → In x xs → any (λ y. same y x) (firsts same xs) ≡ true
  every_found [] x h = elim h [ ]
  every_found (y ∷ ys) x h = ⊎_elim
      (λ e. or_left (same y x) _ (rw e (laws.itself x)))
      (λ k. ⊎_elim (or_left (same y x) _) (λ e. or_right (same y x) _ (later e ((any_true _ (firsts same ys)).0 (every_found ys x k)))) (cases_Bool (same y x)))
      (either_in h)
    where
      later : same y x ≡ false → (z : X) × In z (firsts same ys) × (same z x ≡ true) → any (λ z. same z x) (keep (λ z. not (same y z)) (firsts same ys)) ≡ true
      later e (z, k, f) = in_any (λ u. same u x) (in_keep _ k (not_from_false _ (same_alike z x y f ∙ e))) f

  in_order : (xs : List X) → Pairwise (λ y z. first_like same xs y < first_like same xs z) (firsts same xs)
  in_order [] = tt
  in_order (x ∷ xs) = (
    (λ y k. rw (laws.itself x, unlike y k) (omega arith)),
    pairwise_like (λ y z. first_like same xs y < first_like same xs z) _ _ (λ y z k l h. rw (unlike y k, unlike z l) (omega arith)) (pairwise_keep _ (λ y. not (same x y)) (firsts same xs) (in_order xs)),
  )
    where
      unlike : (y : X) → In y (keep (λ y. not (same x y)) (firsts same xs)) → same x y ≡ false
      unlike y k = not-true _ (keep_in _ (firsts same xs) k).1

  -- an element of the list of first appearances stands where it comes first
  stands_first : (xs : List X) (y : X) → In y (firsts same xs) → get_or xs (first_like same xs y) y ≡ y
  stands_first [] y h = elim h [ ]
  stands_first (x ∷ xs) y h = ⊎_elim
      (λ e. subst (λ z. get_or (x ∷ xs) (first_like same (x ∷ xs) z) z ≡ z) e (ap (λ n. get_or (x ∷ xs) n x) (cond-true _ _ _ (laws.itself x))))
      (λ k. let r = keep_in _ (firsts same xs) k in ap (λ n. get_or (x ∷ xs) n y) (cond-false _ _ _ (not-true _ r.1)) ∙ stands_first xs y r.0)
      (either_in h)

  pub firsts_are_first : (xs : List X) → FirstAppearance same xs (firsts same xs)
  firsts_are_first xs =
      let ordered = pairwise_places _ (firsts same xs) (in_order xs) in
      record {
        from = from_list same xs;
        first = stands_first xs;
        every = every_found xs;
        apart = λ d i j l m. false_from_ne_true _ (λ e. omega (arith, ordered d i j l m, like_same xs _ _ e));
        ordered = ordered;
      }
