-- Levels that are raised never fall, meet what the rules ask, and stay below any levels that fit.
use Rattle.std.proofs.Common.{ℕ, suc, ◌<◌, ◌≤◌, cond, ltb, List, [], ◌∷◌, refl, subst, arith}
use Rattle.std.proofs.lemmas.Bool.{cond_both, cond-true, ltb-true, ltb-false}
use Rattle.definitions.specs.Form.{Atom, Rule}
use Rattle.definitions.specs.Lists.{In, here, there}
use Rattle.definitions.specs.Level.{same_atom, uses, strict_uses, Respects, level_in, asked, raise}
use Rattle.definitions.proofs.Listed.{most_above, most_below}
use Rattle.definitions.proofs.Atoms.{same_atom_decides}

abbrev pub Ranks : Type 0
Ranks = List (Atom ℕ × ℕ)

-- levels that are nowhere higher than others
abbrev pub Under : (Atom ℕ → ℕ) → (Atom ℕ → ℕ) → Type 0
Under low high = (a : Atom ℕ) → low a ≤ high a

-- what one rule asks of levels
abbrev Fits : (Atom ℕ → ℕ) → Rule ℕ → Type 0
Fits level r = ((a : Atom ℕ) → In a (uses r) → level a ≤ level r.head) × ((a : Atom ℕ) → In a (strict_uses r) → level a < level r.head)

-- one rule raises the level of its head
abbrev raise_one : Rule ℕ → Ranks → Ranks
raise_one r ls = cond (ltb (level_in ls r.head) (asked ls r)) ((r.head, asked ls r) ∷ ls) ls

asked_below : (ls : Ranks) (r : Rule ℕ) (n : ℕ) → ((a : Atom ℕ) → In a (uses r) → level_in ls a ≤ n) → ((a : Atom ℕ) → In a (strict_uses r) → level_in ls a < n) → asked ls r ≤ n
asked_below ls r n h k = omega (arith, most_below (level_in ls) n (uses r) h, most_below (λ a. suc (level_in ls a)) n (strict_uses r) k)

module _ (ls : Ranks) (r : Rule ℕ) where
  pub asked_use : (a : Atom ℕ) → In a (uses r) → level_in ls a ≤ asked ls r
  asked_use a i = omega (arith, most_above (level_in ls) i)

  pub asked_strict : (a : Atom ℕ) → In a (strict_uses r) → level_in ls a < asked ls r
  asked_strict a i = omega (arith, most_above (λ b. suc (level_in ls b)) i)

  one_grows : Under (level_in ls) (level_in (raise_one r ls))
  one_grows a =
      cond_both (ltb (level_in ls r.head) (asked ls r)) ((r.head, asked ls r) ∷ ls) ls (λ ks. level_in ls a ≤ level_in ks a)
      (λ low. cond_both (same_atom r.head a) (asked ls r) (level_in ls a) (λ n. level_in ls a ≤ n) (λ e. subst (λ b. level_in ls b ≤ asked ls r) ((same_atom_decides r.head a).0 e) (omega (arith, ltb-true _ _ low))) (λ e. omega arith))
      (λ high. omega arith)

  one_asks : asked ls r ≤ level_in (raise_one r ls) r.head
  one_asks =
      cond_both (ltb (level_in ls r.head) (asked ls r)) ((r.head, asked ls r) ∷ ls) ls (λ ks. asked ls r ≤ level_in ks r.head)
      (λ low. rw (cond-true _ (asked ls r) (level_in ls r.head) ((same_atom_decides r.head r.head).1 refl)) (omega arith))
      (λ high. ltb-false _ _ high)

  one_under : (other : Atom ℕ → ℕ) → Fits other r → Under (level_in ls) other → Under (level_in (raise_one r ls)) other
  one_under other fits under a =
      cond_both (ltb (level_in ls r.head) (asked ls r)) ((r.head, asked ls r) ∷ ls) ls (λ ks. level_in ks a ≤ other a)
      (λ low. cond_both (same_atom r.head a) (asked ls r) (level_in ls a) (λ n. n ≤ other a) (λ e. subst (λ b. asked ls r ≤ other b) ((same_atom_decides r.head a).0 e) needed) (λ e. under a))
      (λ high. under a)
    where
      needed : asked ls r ≤ other r.head
      needed = asked_below ls r _ (λ b i. omega (arith, under b, fits.0 b i)) (λ b i. omega (arith, under b, fits.1 b i))

asked_grows : (ls ks : Ranks) (r : Rule ℕ) → Under (level_in ls) (level_in ks) → asked ls r ≤ asked ks r
asked_grows ls ks r up = asked_below ls r (asked ks r) (λ a i. omega (arith, up a, asked_use ks r a i)) (λ a i. omega (arith, up a, asked_strict ks r a i))

pub raise_grows : (rules : List (Rule ℕ)) (ls : Ranks) → Under (level_in ls) (level_in (raise rules ls))
raise_grows [] ls a = omega arith
raise_grows (r ∷ rs) ls a = omega (arith, one_grows ls r a, raise_grows rs (raise_one r ls) a)

pub raise_asks : {r : Rule ℕ} {rules : List (Rule ℕ)} → In r rules → (ls : Ranks) → asked ls r ≤ level_in (raise rules ls) r.head
raise_asks {r} (here {xs = rs}) ls = omega (arith, one_asks ls r, raise_grows rs (raise_one r ls) r.head)
raise_asks {r} (there {y = q} i) ls = omega (arith, asked_grows ls (raise_one q ls) r (one_grows ls q), raise_asks i (raise_one q ls))

pub raise_under : (rules : List (Rule ℕ)) (other : Atom ℕ → ℕ) → Respects other rules → (ls : Ranks) → Under (level_in ls) other → Under (level_in (raise rules ls)) other
raise_under [] other fits ls under = under
raise_under (r ∷ rs) other fits ls under = raise_under rs other (λ q i. fits q (there i)) (raise_one r ls) (one_under ls r other (fits r here) under)
