-- Plays and knowledge sets side by side.
use Rattle.std.proofs.Common.{◌≡◌, ℕ, zero, suc, ◌<◌, List, [], ◌∷◌, length, get_or, sym, subst, ⊎_elim, arith}
use Rattle.definitions.specs.Form.{Atom}
use Rattle.definitions.specs.Lists.{In, here, there}
use Rattle.definitions.specs.Ruleset.{Game}
use Rattle.definitions.specs.Play.{Play, no_play, nth, each_with}
use Rattle.definitions.proofs.Listed.{either_in}
use Rattle.definitions.proofs.Elements.{get_or_in}
use Rattle.definitions.proofs.Pairwise.{Pairwise}

module _ (g : Game) {X : Type 0} (f : Play → List (Atom ℕ) → X) where
  pub each_in : {x : X} (ps : List Play) (Ks : List (List (Atom ℕ))) → In x (each_with g f ps Ks) → (i : ℕ) × (i < length ps) × (x ≡ f (nth ps i) (get_or Ks i []))
  each_in [] Ks i = elim i [ ]
  each_in (p ∷ ps) [] i = elim i [ ]
  each_in {x} (p ∷ ps) (K ∷ Ks) i = ⊎_elim (λ e. (0, omega arith, sym e)) (λ j. further (each_in ps Ks j)) (either_in i)
    where
      further : (i : ℕ) × (i < length ps) × (x ≡ f (nth ps i) (get_or Ks i [])) → (i : ℕ) × (i < suc (length ps)) × (x ≡ f (nth (p ∷ ps) i) (get_or (K ∷ Ks) i []))
      further r = (suc r.0, omega (arith, r.1), r.2)

  pub in_each : (ps : List Play) (Ks : List (List (Atom ℕ))) (i : ℕ) → i < length ps → i < length Ks → In (f (nth ps i) (get_or Ks i [])) (each_with g f ps Ks)
  in_each [] Ks i low few = absurd (omega arith)
  in_each (p ∷ ps) [] i low few = absurd (omega arith)
  in_each (p ∷ ps) (K ∷ Ks) zero low few = here
  in_each (p ∷ ps) (K ∷ Ks) (suc i) low few = there (in_each ps Ks i (omega arith) (omega arith))

  pub pairwise_each : (R : Play → Play → Type 0) (S : X → X → Type 0) → ((p q : Play) (K J : List (Atom ℕ)) → R p q → S (f p K) (f q J)) → (ps : List Play) (Ks : List (List (Atom ℕ))) → Pairwise R ps → Pairwise S (each_with g f ps Ks)
  pairwise_each R S step [] Ks h = tt
  pairwise_each R S step (p ∷ ps) [] h = tt
  pairwise_each R S step (p ∷ ps) (K ∷ Ks) h = (
    (λ x i. let r = each_in ps Ks i in subst (S (f p K)) (sym r.2) (step p _ K _ (h.0 _ (get_or_in ps r.0 no_play r.1)))),
    pairwise_each R S step ps Ks h.1,
  )
