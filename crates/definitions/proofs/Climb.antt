-- What is derived at each level is settled there, and is no more than any closed set has.
use Rattle.std.proofs.Common.{◌≡◌, ℕ, zero, suc, ◌<◌, ◌≤◌, true, false, ◌||◌, ◌⊎◌, List, ◌∷◌, length, sym, refl, ap, ◌∙◌, inl, inr, ⊎_elim, arith}
use Rattle.std.proofs.lemmas.Bool.{or_cases, or_left, or_right, both_ways, cases_eq, cases_lt}
use Rattle.definitions.specs.Form.{Atom, Rule}
use Rattle.definitions.specs.Level.{same_atom, member, Respects}
use Rattle.definitions.specs.Holds.{Atoms, Includes, ClosedAt, with_derived, derive, climb}
use Rattle.definitions.proofs.Listed.{in_left, repeat_keeps}
use Rattle.definitions.proofs.Atoms.{same_atom_decides}
use Rattle.definitions.proofs.Fires.{fires_more}
use Rattle.definitions.proofs.Derive.{derive_keeps, derive_other}

derived_more : (G : Atoms) (h : Atom ℕ) (set : List (Atom ℕ)) (a : Atom ℕ) → with_derived G set a ≡ true → with_derived G (h ∷ set) a ≡ true
derived_more G h set a e = ⊎_elim (or_left _ _) (λ has. or_right (G a) _ (or_right _ _ has)) (or_cases (G a) (member set a) e)

derived_either : (G : Atoms) (h : Atom ℕ) (set : List (Atom ℕ)) (a : Atom ℕ) → with_derived G (h ∷ set) a ≡ true → (h ≡ a) ⊎ (with_derived G set a ≡ true)
derived_either G h set a e =
    ⊎_elim (λ given. inr (or_left _ _ given))
    (λ has. ⊎_elim (λ same. inl ((same_atom_decides h a).0 same)) (λ old. inr (or_right (G a) _ old)) (or_cases (same_atom h a) (member set a) has))
    (or_cases (G a) (same_atom h a || member set a) e)

module _ (level : Atom ℕ → ℕ) (G : Atoms) (rules : List (Rule ℕ)) where
  climb_other : (k : ℕ) (a : Atom ℕ) → (level a ≡ k → ⊥) → member (climb level G rules (suc k)) a ≡ member (climb level G rules k) a
  climb_other k a off = repeat_keeps (derive level G k rules) (λ set. member set a ≡ _) (derive_other level G k rules a off _) (length rules) (climb level G rules k) refl

  climb_above : (n : ℕ) (a : Atom ℕ) → n ≤ level a → member (climb level G rules n) a ≡ false
  climb_above zero a high = refl
  climb_above (suc n) a high = climb_other n a (λ e. omega arith) ∙ climb_above n a (omega arith)

  pub given_above : (n : ℕ) (a : Atom ℕ) → n ≤ level a → with_derived G (climb level G rules n) a ≡ true → G a ≡ true
  given_above n a high e = ⊎_elim (λ given. given) (λ in_set. absurd (both_ways _ (climb_above n a high) in_set)) (or_cases (G a) _ e)

  pub climb_settled : (n : ℕ) (a : Atom ℕ) → level a < n → member (climb level G rules n) a ≡ member (climb level G rules (suc (level a))) a
  climb_settled zero a low = absurd (omega arith)
  climb_settled (suc n) a low =
      ⊎_elim (λ e. ap (λ m. member (climb level G rules (suc m)) a) (sym e)) (λ off. climb_other n a off ∙ climb_settled n a (omega arith)) (cases_eq (level a) n)

  module _ (fits : Respects level rules) (k : ℕ) (X : Atoms) (has : Includes G X) (closed : ClosedAt level rules k X) (below : (a : Atom ℕ) → level a < k → with_derived G (climb level G rules k) a ≡ X a) where
    abbrev Within : List (Atom ℕ) → Type 0
    Within set = ((a : Atom ℕ) → level a ≤ k → with_derived G set a ≡ true → X a ≡ true) × ((a : Atom ℕ) → level a < k → X a ≡ true → with_derived G set a ≡ true)

    start_within : Within (climb level G rules k)
    start_within = (
      λ a l e. ⊎_elim (λ low. sym (below a low) ∙ e) (λ high. has a (given_above k a high e)) (cases_lt (level a) k),
      λ a low e. below a low ∙ e,
    )

    turn_within : (set : List (Atom ℕ)) → Within set → Within (derive level G k rules set)
    turn_within =
        derive_keeps level G k Within rules λ r set i e new fire h.
        let fires_in = fires_more (with_derived G set) X r (λ b j. h.0 b (omega (arith, (fits r i).0 b (in_left _ j)))) (λ b j. h.1 b (omega (arith, (fits r i).1 b (in_left _ j)))) fire in (
          λ a l x. ⊎_elim (λ same. rw (← same) (closed r i e fires_in)) (h.0 a l) (derived_either G r.head set a x),
          λ a l x. derived_more G r.head set a (h.1 a l x),
        )

    pub climb_within : (a : Atom ℕ) → level a ≡ k → with_derived G (climb level G rules (suc k)) a ≡ true → X a ≡ true
    climb_within a e = (repeat_keeps (derive level G k rules) Within turn_within (length rules) (climb level G rules k) start_within).0 a (omega arith)
