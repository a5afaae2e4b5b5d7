-- What is computed to lie below an atom is what it depends on.
use Rattle.std.proofs.Common.{ℕ, ◌<◌, Bool, ◌&&◌, ◌⊎◌, List, [], ◌∷◌, length, Decides, sym, refl, subst, inl, inr, arith}
use Rattle.std.proofs.lemmas.Bool.{cond_both, cond-true}
use Rattle.std.proofs.lemmas.Bool.Decides.{Decides-like, Decides-and}
use Rattle.definitions.specs.Form.{Atom, Rule}
use Rattle.definitions.specs.Lists.{In, here, there, joined, keep, all}
use Rattle.definitions.specs.Level.{same_atom, member, uses, Depends, by_rule, onward, with_all, widen, below, ReachesDecides}
use Rattle.definitions.proofs.Listed.{either_in, in_joined, joined_in, in_keep, keep_in, all_decides, count, count_length, count_rises, repeat_keeps, repeat_settles}
use Rattle.definitions.proofs.Atoms.{same_atom_decides, member_decides}

-- what holds of the atoms of a set and of those that are added holds of all
with_all_keeps : (P : Atom ℕ → Type 0) (more set : List (Atom ℕ)) → ((a : Atom ℕ) → In a more → P a) → ((a : Atom ℕ) → In a set → P a) → (a : Atom ℕ) → In a (with_all more set) → P a
with_all_keeps P [] set new old = old
with_all_keeps P (b ∷ more) set new old =
    with_all_keeps P more _ (λ a i. new a (there i))
    (cond_both (member set b) set (b ∷ set) (λ s. (a : Atom ℕ) → In a s → P a) (λ e. old) (λ e a i. elim (either_in i) [ inl same ↦ subst P same (new b here) | inr j ↦ old a j ]))

with_all_grows : (more set : List (Atom ℕ)) {a : Atom ℕ} → In a set → In a (with_all more set)
with_all_grows [] set i = i
with_all_grows (b ∷ more) set {a} i = with_all_grows more _ (cond_both (member set b) set (b ∷ set) (In a) (λ e. i) (λ e. there i))

with_all_has : {a : Atom ℕ} {more : List (Atom ℕ)} (set : List (Atom ℕ)) → In a more → In a (with_all more set)
with_all_has {a} set (here {xs = more}) = with_all_grows more _ (cond_both (member set a) set (a ∷ set) (In a) (member_decides set a).0 (λ e. here))
with_all_has set (there i) = with_all_has _ i

-- P passes from the heads of rules to what they use
abbrev pub Closed : List (Rule ℕ) → (Atom ℕ → Type 0) → Type 0
Closed rules P = (r : Rule ℕ) → In r rules → P r.head → (a : Atom ℕ) → In a (uses r) → P a

widen_keeps : (P : Atom ℕ → Type 0) (rules : List (Rule ℕ)) → Closed rules P → (set : List (Atom ℕ)) → ((a : Atom ℕ) → In a set → P a) → (a : Atom ℕ) → In a (widen rules set) → P a
widen_keeps P [] closed set old = old
widen_keeps P (r ∷ rs) closed set old =
    widen_keeps P rs (λ q i. closed q (there i)) _
    (cond_both (member set r.head) (with_all (uses r) set) set (λ s. (a : Atom ℕ) → In a s → P a)
    (λ e. with_all_keeps P (uses r) set (closed r here (old r.head ((member_decides set r.head).0 e))) old)
    (λ e. old))

widen_grows : (rules : List (Rule ℕ)) (set : List (Atom ℕ)) {a : Atom ℕ} → In a set → In a (widen rules set)
widen_grows [] set i = i
widen_grows (r ∷ rs) set {a} i =
    widen_grows rs _ (cond_both (member set r.head) (with_all (uses r) set) set (In a) (λ e. with_all_grows (uses r) set i) (λ e. i))

widen_has : {r : Rule ℕ} {a : Atom ℕ} {rules : List (Rule ℕ)} (set : List (Atom ℕ)) → In r rules → In r.head set → In a (uses r) → In a (widen rules set)
widen_has {r} {a} set (here {xs = rs}) h i =
    widen_grows rs _ (subst (In a) (sym (cond-true (member set r.head) (with_all (uses r) set) set ((member_decides set r.head).1 h))) (with_all_has set i))
widen_has {r} {a} set (there {y = q} j) h i =
    widen_has _ j (cond_both (member set q.head) (with_all (uses q) set) set (In r.head) (λ e. with_all_grows (uses q) set h) (λ e. h)) i

pub depends_in : {rules : List (Rule ℕ)} (P : Atom ℕ → Type 0) → Closed rules P → {a b : Atom ℕ} → Depends rules a b → P a → P b
depends_in P closed (by_rule {r = r} {b} i j) p = closed r i p b j
depends_in P closed (onward d e) p = depends_in P closed e (depends_in P closed d p)

module _ (rules : List (Rule ℕ)) where
  -- the head of a rule is in the set, and so is all that it uses
  abbrev fired : List (Atom ℕ) → Rule ℕ → Bool
  fired set r = member set r.head && all (member set) (uses r)

  abbrev Fired : List (Atom ℕ) → Rule ℕ → Type 0
  Fired set r = In r.head set × ((a : Atom ℕ) → In a (uses r) → In a set)

  fired_decides : (set : List (Atom ℕ)) (r : Rule ℕ) → Decides (fired set r) (Fired set r)
  fired_decides set r = Decides-and _ _ (member_decides set r.head) (all_decides (member set) (λ a. In a set) (member_decides set) (uses r))

  abbrev Done : List (Atom ℕ) → Type 0
  Done set = Closed rules (λ a. In a set)

  done_stays : (set : List (Atom ℕ)) → Done set → Done (widen rules set)
  done_stays set done r i h a j = widen_grows rules set (done r i (widen_keeps (λ b. In b set) rules done set (λ b k. k) r.head h) a j)

  done_or_more : (set : List (Atom ℕ)) → Done set ⊎ (count (fired set) rules < count (fired (widen rules set)) rules)
  done_or_more set =
      elim (count_rises (fired set) (fired (widen rules set)) rules (λ r i e. (fired_decides (widen rules set) r).1 (later r ((fired_decides set r).0 e))))
      [ inl up ↦ inr up | inr same ↦ inl (λ r i h. ((fired_decides set r).0 (same r i ((fired_decides (widen rules set) r).1 (widen_grows rules set h, λ a j. widen_has set i h j)))).1) ]
    where
      later : (r : Rule ℕ) → Fired set r → Fired (widen rules set) r
      later r f = (widen_grows rules set f.0, λ a i. widen_grows rules set (f.1 a i))

  closed_below : (a : Atom ℕ) → Done (below rules a)
  closed_below a =
      repeat_settles (widen rules) (λ set. Unit {0}) Done (λ set u. tt) done_stays (λ set. count (fired set) rules) (length rules) (λ set u. count_length (fired set) rules) (λ set u. done_or_more set)
      (length rules) _ tt (omega arith)

  pub depends_below : {a b : Atom ℕ} → Depends rules a b → In b (below rules a)
  depends_below (by_rule {r = r} {b} i j) =
      repeat_keeps (widen rules) (In b) (λ set k. widen_grows rules set k) (length rules) _
      (with_all_has [] (in_joined uses (in_keep (λ q. same_atom q.head r.head) i ((same_atom_decides r.head r.head).1 refl)) j))
  depends_below (onward {a} d e) = depends_in (λ c. In c (below rules a)) (closed_below a) e (depends_below d)

  pub below_depends : (a b : Atom ℕ) → In b (below rules a) → Depends rules a b
  below_depends a =
      repeat_keeps (widen rules) (λ set. (b : Atom ℕ) → In b set → Depends rules a b)
      (widen_keeps (Depends rules a) rules (λ r i d b j. onward d (by_rule i j)))
      (length rules) _ (with_all_keeps (Depends rules a) _ [] start (λ b i. elim i [ ]))
    where
      is_head : Rule ℕ → Bool
      is_head r = same_atom r.head a

      start : (b : Atom ℕ) → In b (joined uses (keep is_head rules)) → Depends rules a b
      start b i =
          let r = joined_in uses (keep is_head rules) i in
          let k = keep_in is_head rules r.1 in
          subst (λ c. Depends rules c b) ((same_atom_decides r.0.head a).0 k.1) (by_rule k.0 r.2)

pub reaches_decides : ReachesDecides
reaches_decides rules a b = Decides-like _ (below_depends rules a b) (depends_below rules) (member_decides (below rules a) b)
