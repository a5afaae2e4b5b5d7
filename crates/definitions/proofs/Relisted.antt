-- Two lists of first appearances of one list are equal.
use Rattle.std.proofs.Common.{◌≡◌, ◌<◌, Bool, List, [], ◌∷◌, get_or, sym, refl, ap, ◌∙◌, subst, ⊎_elim, arith}
use Rattle.std.proofs.lemmas.List.{get_or_default}
use Rattle.definitions.specs.Lists.{In, here, there, first_like, Same, FirstAppearance}
use Rattle.definitions.proofs.Listed.{either_in, any_true}
use Rattle.definitions.proofs.Elements.{in_any}
use Rattle.definitions.proofs.Firsts.{like_place, like_same}
use Rattle.definitions.proofs.Pairwise.{Pairwise, places_pairwise}

module _ {X : Type 0} (R : X → X → Type 0) (one_way : (x y : X) → R x y → R y x → ⊥) where
  same_first : (y z : X) (ys zs : List X) → Pairwise R (y ∷ ys) → Pairwise R (z ∷ zs) → In y (z ∷ zs) → In z (y ∷ ys) → y ≡ z
  same_first y z ys zs p q h k =
      ⊎_elim sym (λ l. ⊎_elim (λ e. e) (λ m. absurd (one_way y z (p.0 z m) (q.0 y l))) (either_in k)) (either_in h)

  -- the rest of one list is in the rest of the other
  rest_in : (y z : X) (ys zs : List X) → Pairwise R (y ∷ ys) → y ≡ z → (x : X) → In x ys → In x (z ∷ zs) → In x zs
  rest_in y z ys zs p e x h k =
      ⊎_elim (λ f. let r = subst (R y) (sym (e ∙ f)) (p.0 x h) in absurd (one_way y y r r)) (λ l. l) (either_in k)

  same_ordered : (ys zs : List X) → Pairwise R ys → Pairwise R zs → ((x : X) → In x ys → In x zs) → ((x : X) → In x zs → In x ys) → ys ≡ zs
  same_ordered [] [] p q f g = refl
  same_ordered [] (z ∷ zs) p q f g = absurd (elim (g z here) [ ])
  same_ordered (y ∷ ys) [] p q f g = absurd (elim (f y here) [ ])
  same_ordered (y ∷ ys) (z ∷ zs) p q f g =
      let e = same_first y z ys zs p q (f y here) (g z here) in
      let rest = same_ordered ys zs p.1 q.1
      (λ x h. rest_in y z ys zs p e x h (f x (there h)))
      (λ x h. rest_in z y zs ys q (sym e) x h (g x (there h))) in
      λ i. e i ∷ rest i

module _ {X : Type 0} (same : X → X → Bool) (laws : Same same) where
  all_in : (xs ys zs : List X) → FirstAppearance same xs ys → FirstAppearance same xs zs → (x : X) → In x ys → In x zs
  all_in xs ys zs h k x l =
      let r = (any_true _ zs).0 (k.every x (h.from x l)) in
      let n = first_like same xs x in
      let at_x = h.first x l in
      let inside = (like_place same xs x (in_any _ (h.from x l) (laws.itself x))).0 in
      let same_place = ap (λ i. get_or xs i r.0) (like_same same laws xs r.0 x r.2) in
      subst (λ z. In z zs) (sym (k.first r.0 r.1) ∙ same_place ∙ get_or_default xs n r.0 x inside ∙ at_x) r.1

  pub one_first_list : (xs ys zs : List X) → FirstAppearance same xs ys → FirstAppearance same xs zs → ys ≡ zs
  one_first_list xs ys zs h k =
      same_ordered (λ y z. first_like same xs y < first_like same xs z) (λ x y l m. omega arith) ys zs
      (places_pairwise _ ys h.ordered) (places_pairwise _ zs k.ordered) (all_in xs ys zs h k) (all_in xs zs ys k h)
