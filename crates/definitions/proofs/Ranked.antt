-- Levels fit exactly where no head comes back to itself through something that must lie below it.
use Rattle.std.proofs.Common.{◌≡◌, ℕ, ◌<◌, ◌≤◌, Bool, true, false, ◌||◌, ◌⊎◌, List, Decides, refl, subst, inl, inr, arith}
use Rattle.std.proofs.lemmas.Bool.Decides.{Decides-or, not_from_Decides}
use Rattle.definitions.specs.Form.{Atom, Rule}
use Rattle.definitions.specs.Lists.{In, joined, any}
use Rattle.definitions.specs.Level.{same_atom, under_not, body, uses, strict_uses, Depends, by_rule, onward, Respects, reaches, comes_back, LevelsLeast, NoLevels}
use Rattle.definitions.proofs.Listed.{in_left, in_right, in_append, any_decides, count, count_grows, count_rises}
use Rattle.definitions.proofs.Atoms.{same_atom_decides}
use Rattle.definitions.proofs.Reach.{depends_in, reaches_decides}
use Rattle.definitions.proofs.Fires.{negated_in_body}
use Rattle.definitions.proofs.Judged.{coming_back_decided}
use Rattle.definitions.proofs.Least.{least_levels}

pub strict_used : (r : Rule ℕ) {a : Atom ℕ} → In a (strict_uses r) → In a (uses r)
strict_used r {a} i = elim (in_append (joined under_not (body r)) _ i) [ inl j ↦ in_left _ (negated_in_body r j) | inr j ↦ in_right _ j ]

module _ (rules : List (Rule ℕ)) where
  -- an atom is the head of a rule or depends on it
  abbrev leads : Atom ℕ → Rule ℕ → Bool
  leads a r = same_atom a r.head || reaches rules a r.head

  abbrev Leads : Atom ℕ → Rule ℕ → Type 0
  Leads a r = (a ≡ r.head) ⊎ Depends rules a r.head

  leads_decides : (a : Atom ℕ) (r : Rule ℕ) → Decides (leads a r) (Leads a r)
  leads_decides a r = Decides-or _ _ (same_atom_decides a r.head) (reaches_decides rules a r.head)

  abbrev ComesBack : Rule ℕ → Type 0
  ComesBack r = (a : Atom ℕ) × In a (strict_uses r) × Leads a r

  comes_back_decides : Decides (any (comes_back rules) rules) ((r : Rule ℕ) × In r rules × ComesBack r)
  comes_back_decides = any_decides (comes_back rules) ComesBack (coming_back_decided rules) rules

  depends_lower : (l : Atom ℕ → ℕ) → Respects l rules → {a b : Atom ℕ} → Depends rules a b → l b ≤ l a
  depends_lower l fits {a} d = depends_in (λ c. l c ≤ l a) (λ r i low b j. omega (arith, (fits r i).0 b j)) d (omega arith)

  -- the number of rules that an atom leads to
  abbrev height : Atom ℕ → ℕ
  height a = count (leads a) rules

  leads_up : {r : Rule ℕ} {a : Atom ℕ} → In r rules → In a (uses r) → (q : Rule ℕ) → Leads a q → Leads r.head q
  leads_up {r} i j q (inl e) = inr (subst (Depends rules r.head) e (by_rule i j))
  leads_up i j q (inr d) = inr (onward (by_rule i j) d)

  height_fits : any (comes_back rules) rules ≡ false → Respects height rules
  height_fits apart r i = (λ a j. count_grows _ _ rules (up a j), λ a j. go a j (count_rises _ _ rules (up a (strict_used r j))))
    where
      up : (a : Atom ℕ) → In a (uses r) → (q : Rule ℕ) → In q rules → leads a q ≡ true → leads r.head q ≡ true
      up a j q k e = (leads_decides r.head q).1 (leads_up i j q ((leads_decides a q).0 e))

      go : (a : Atom ℕ) → In a (strict_uses r) → (height a < height r.head) ⊎ ((q : Rule ℕ) → In q rules → leads r.head q ≡ true → leads a q ≡ true) → height a < height r.head
      go a j (inl low) = low
      go a j (inr same) =
          let back = (leads_decides a r).0 (same r i ((leads_decides r.head r).1 (inl refl))) in
          absurd (not_from_Decides _ comes_back_decides apart (r, i, (a, j, back)))

pub levels_least : LevelsLeast
levels_least rules apart = least_levels rules (height rules) (height_fits rules apart)

pub no_levels : NoLevels
no_levels rules back l fits = go ((comes_back_decides rules).0 back)
  where
    level_down : (r : Rule ℕ) (a : Atom ℕ) → Leads rules a r → l r.head ≤ l a
    level_down r a (inl e) = subst (λ b. l b ≤ l a) e (omega arith)
    level_down r a (inr d) = depends_lower rules l fits d

    go : (r : Rule ℕ) × In r rules × ComesBack rules r → ⊥
    go u = let c = u.2 in omega (arith, level_down u.0 c.0 c.2, (fits u.0 u.1).1 c.0 c.1)
