-- What the rules of one level add, until nothing more can come.
use Rattle.std.proofs.Common.{◌≡◌, ℕ, suc, ◌<◌, ◌≤◌, Bool, true, false, cond, not, ◌&&◌, eqb, ◌⊎◌, List, [], ◌∷◌, length, refl, ap, subst, inl, inr, ⊎_elim, arith}
use Rattle.std.proofs.lemmas.Bool.{false_from_ne_true, and_parts, and_from, or_left, or_right, not-true, not_from_false, eqb-true, eq-eqb, cond_both, both_ways, cases_Bool}
use Rattle.definitions.specs.Form.{Atom, Rule}
use Rattle.definitions.specs.Lists.{In, here, there, repeat}
use Rattle.definitions.specs.Level.{same_atom, member}
use Rattle.definitions.specs.Holds.{Atoms, fires, with_derived, derive, climb}
use Rattle.definitions.proofs.Listed.{count, count_length, count_rises, repeat_settles}
use Rattle.definitions.proofs.Atoms.{same_atom_decides}

pub not_same : (a b : Atom ℕ) → (a ≡ b → ⊥) → same_atom a b ≡ false
not_same a b apart = false_from_ne_true _ (λ e. apart ((same_atom_decides a b).0 e))

-- how many of the rules have their heads in a set
abbrev headed : List (Rule ℕ) → List (Atom ℕ) → ℕ
headed rules set = count (λ r. member set r.head) rules

headed_more : {r : Rule ℕ} {rules : List (Rule ℕ)} (set : List (Atom ℕ)) → In r rules → member set r.head ≡ false → headed rules set < headed rules (r.head ∷ set)
headed_more {r} {rules} set i new =
    ⊎_elim (λ up. up) (λ same. absurd (both_ways _ new (same r i (or_left _ _ ((same_atom_decides r.head r.head).1 refl)))))
    (count_rises (λ q. member set q.head) (λ q. member (r.head ∷ set) q.head) rules (λ q j. or_right _ _))

module _ (level : Atom ℕ → ℕ) (G : Atoms) (k : ℕ) where
  -- whether a rule adds its head to a set
  abbrev pub adding : List (Atom ℕ) → Rule ℕ → Bool
  adding set r = eqb (level r.head) k && not (member set r.head) && fires (with_derived G set) r

  -- what is kept when a rule's head is added is kept by all of them
  pub derive_keeps : (P : List (Atom ℕ) → Type 0) (rs : List (Rule ℕ)) → ((r : Rule ℕ) (set : List (Atom ℕ)) → In r rs → level r.head ≡ k → member set r.head ≡ false → fires (with_derived G set) r ≡ true → P set → P (r.head ∷ set)) → (set : List (Atom ℕ)) → P set → P (derive level G k rs set)
  derive_keeps P [] add set h = h
  derive_keeps P (r ∷ rs) add set h =
      derive_keeps P rs (λ q s i. add q s (there i)) _
      (cond_both (adding set r) (r.head ∷ set) set P
      (λ e. let last = and_parts _ _ e in
      let first = and_parts (eqb (level r.head) k) (not (member set r.head)) last.0 in
      add r set here (eqb-true _ _ first.0) (not-true _ first.1) last.1 h)
      (λ e. h))

  pub derive_other : (rs : List (Rule ℕ)) (a : Atom ℕ) → (level a ≡ k → ⊥) → (b : Bool) (set : List (Atom ℕ)) → member set a ≡ b → member (derive level G k rs set) a ≡ b
  derive_other rs a off b =
      derive_keeps (λ set. member set a ≡ b) rs λ r set i e new fire h. rw (not_same r.head a λ same. off (rw (← same) e)) h

  derive_longer : (rs : List (Rule ℕ)) (set : List (Atom ℕ)) → length set ≤ length (derive level G k rs set)
  derive_longer rs set = derive_keeps (λ s. length set ≤ length s) rs (λ r s i e new fire h. omega arith) set (omega arith)

  not_adding : (r : Rule ℕ) (rs : List (Rule ℕ)) (set : List (Atom ℕ)) (b : Bool) → length (derive level G k rs (cond b (r.head ∷ set) set)) ≤ length set → b ≡ false
  not_adding r rs set true few = absurd (omega (arith, derive_longer rs (r.head ∷ set)))
  not_adding r rs set false few = refl

  -- where nothing more comes, the set is closed under the rules
  derive_still : {r : Rule ℕ} {rs : List (Rule ℕ)} (set : List (Atom ℕ)) → In r rs → length (derive level G k rs set) ≤ length set → level r.head ≡ k → fires (with_derived G set) r ≡ true → member set r.head ≡ true
  derive_still {r} set (here {xs}) few e fire =
      ⊎_elim (λ has. has)
      (λ new. absurd (both_ways _ (not_adding r xs set (adding set r) few) (and_from _ _ (and_from _ _ (eq-eqb _ _ e) (not_from_false _ new)) fire)))
      (cases_Bool (member set r.head))
  derive_still set (there {y} {xs} i) few e fire =
      derive_still set i (subst (λ b. length (derive level G k xs (cond b (y.head ∷ set) set)) ≤ length set) (not_adding y xs set (adding set y) few) few) e fire

  derive_rises : (rules : List (Rule ℕ)) (set : List (Atom ℕ)) → (derive level G k rules set ≡ set) ⊎ (headed rules set < headed rules (derive level G k rules set))
  derive_rises rules set =
      derive_keeps (λ s. (s ≡ set) ⊎ (headed rules set < headed rules s)) rules
      (λ r s i e new fire h. let more = headed_more s i new in inr (⊎_elim (λ same. rw (← same) more) (λ rose. omega arith) h))
      set (inl refl)

  derive_settles : (rules : List (Rule ℕ)) (set : List (Atom ℕ)) → derive level G k rules (repeat (length rules) (derive level G k rules) set) ≡ repeat (length rules) (derive level G k rules) set
  derive_settles rules set =
      repeat_settles step (λ s. Unit {0}) (λ s. step s ≡ s) (λ s u. u) (λ s. ap step) (headed rules) (length rules) (λ s u. count_length _ rules) (λ s u. derive_rises rules s) (length rules) set tt (omega arith)
    where
      step : List (Atom ℕ) → List (Atom ℕ)
      step = derive level G k rules

pub climb_closed : (level : Atom ℕ → ℕ) (G : Atoms) (rules : List (Rule ℕ)) (k : ℕ) (r : Rule ℕ) → In r rules → level r.head ≡ k → fires (with_derived G (climb level G rules (suc k))) r ≡ true → member (climb level G rules (suc k)) r.head ≡ true
climb_closed level G rules k r i = derive_still level G k (climb level G rules (suc k)) i (rw (derive_settles level G k rules (climb level G rules k)) (omega arith))
