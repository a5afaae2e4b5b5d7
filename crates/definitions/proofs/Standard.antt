-- What holds is the standard model, and there is one only.
use Rattle.std.proofs.Common.{◌≡◌, ℕ, zero, suc, ◌<◌, ◌≤◌, true, ◌||◌, List, sym, ap, ◌∙◌, ⊎_elim, arith}
use Rattle.std.proofs.lemmas.Bool.{or_left, or_right, cases_eq, cases_lt}
use Rattle.std.proofs.lemmas.Bool.Decides.{same_from_decides}
use Rattle.definitions.specs.Form.{Atom, Rule}
use Rattle.definitions.specs.Lists.{In}
use Rattle.definitions.specs.Level.{Respects, level, highest}
use Rattle.definitions.specs.Holds.{Atoms, SameBelow, Standard, with_derived, climb, given, StandardOne, HoldsStandard}
use Rattle.definitions.proofs.Listed.{in_left, true_itself, most_above}
use Rattle.definitions.proofs.Fires.{fires_same}
use Rattle.definitions.proofs.Derive.{climb_closed}
use Rattle.definitions.proofs.Climb.{given_above, climb_settled, climb_within}

module _ (l : Atom ℕ → ℕ) (rules : List (Rule ℕ)) (G S X : Atoms) (s : Standard l rules G S) (x : Standard l rules G X) where
  same_below : (n : ℕ) → SameBelow l n S X
  same_below zero a low = absurd (omega arith)
  same_below (suc n) a low =
      let below = same_below n in
      ⊎_elim
      (λ e. same_from_decides {P = X a ≡ true} _ _ (s.least n X below x.has (x.closed n) a e, x.least n S (λ b h. sym (below b h)) s.has (s.closed n) a e) (true_itself _))
      (λ off. below a (omega arith)) (cases_eq (l a) n)

pub standard_one : StandardOne
standard_one l rules G S X s x a = same_below l rules G S X s x (suc (l a)) a (omega arith)

module _ (level : Atom ℕ → ℕ) (G : Atoms) (rules : List (Rule ℕ)) (fits : Respects level rules) (top : ℕ) (low : (r : Rule ℕ) → In r rules → level r.head ≤ top) where
  abbrev model : Atoms
  model = with_derived G (climb level G rules (suc top))

  model_up_to : (n : ℕ) (a : Atom ℕ) → level a < n → n ≤ suc top → model a ≡ with_derived G (climb level G rules n) a
  model_up_to n a under l = ap (λ b. G a || b) (climb_settled level G rules (suc top) a (omega arith) ∙ sym (climb_settled level G rules n a under))

  climb_standard : Standard level rules G model
  climb_standard = record {
    has = λ a. or_left _ _;
    closed = λ k r i e fire.
        let high = low r i in
        let same = fires_same model (with_derived G (climb level G rules (suc k))) r (λ a j. let under = (fits r i).0 a (in_left _ j) in model_up_to (suc k) a (omega arith) (omega arith)) in
        model_up_to (suc k) r.head (omega arith) (omega arith) ∙ or_right (G r.head) _ (climb_closed level G rules k r i e (sym same ∙ fire));
    least = λ k X same has closed a e s. ⊎_elim
        (λ under. climb_within level G rules fits k X has closed (λ b l. sym (model_up_to k b l (omega arith)) ∙ same b l) a e (sym (model_up_to (suc k) a (omega arith) (omega arith)) ∙ s))
        (λ above. has a (given_above level G rules (suc top) a above s))
        (cases_lt (level a) (suc top));
  }

pub holds_standard : HoldsStandard
holds_standard rules fits p = climb_standard (level rules) (given p) rules fits (highest rules) (λ r i. most_above _ i)
