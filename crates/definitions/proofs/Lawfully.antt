-- A hint that is accepted over a lawful deal is lawful.
use Rattle.std.proofs.Common.{◌≡◌, ℕ, ◌≤◌, Bool, true, false, cond, not, ltb, List, length, refl, subst, arith}
use Rattle.std.proofs.lemmas.Bool.{false_from_ne_true}
use Rattle.definitions.specs.Refusal.{Refusal, accepted, refused}
use Rattle.definitions.specs.Lists.{keep, upto}
use Rattle.definitions.specs.Ruleset.{Game}
use Rattle.definitions.specs.Deal.{Deal, Lawful, standing, among, in_deal}
use Rattle.definitions.specs.Knowledge.{in_deal_holds, hinted, in_match, HintsLawful}
use Rattle.definitions.proofs.Listed.{in_keep, keep_in}
use Rattle.definitions.proofs.Upto.{upto_in, among_decides}
use Rattle.definitions.proofs.Plain.{real_stands}

third_passes : {X : Type 0} (a b c : Bool) (r s t : Refusal) (x h : X) → cond a (refused r) (cond b (refused s) (cond c (accepted x) (refused t))) ≡ accepted h → (x ≡ h) × (c ≡ true)
third_passes true b c r s t x h e = cc
third_passes false true c r s t x h e = cc
third_passes false false true r s t x h e = (cc, refl)
third_passes false false false r s t x h e = cc

module _ (g : Game) (d : Deal) (p : ℕ) where
  hinted_lawful : Lawful d → in_deal_holds g d p d.seats.real ≡ true → Lawful (hinted g d p)
  hinted_lawful law e = record {
    some = law.some;
    few = law.few;
    states = law.states;
    classes = law.classes;
    within = law.within;
    stands = (among_decides kept d.seats.real).1 (in_keep (in_deal_holds g d p) (real_stands d law) e);
    past = λ w far. (fallen w far, (law.past w far).1, (law.past w far).2);
    unseated = law.unseated;
  }
    where
      kept : List ℕ
      kept = keep (in_deal_holds g d p) (standing d)

      fallen : (w : ℕ) → d.deck.size ≤ w → among kept w ≡ false
      fallen w far =
          false_from_ne_true (among kept w) λ t.
          let i = (keep_in (in_deal_holds g d p) (standing d) ((among_decides kept w).0 t)).0 in
          omega (arith, upto_in d.deck.size (keep_in d.deck.stands (upto d.deck.size) i).0)

pub hints_lawful : HintsLawful
hints_lawful g d h p row law e =
    let (same, true_there) = third_passes (not (ltb p (length g.names.facts))) (ltb row d.deck.size) (in_deal_holds g d p d.seats.real) (in_match 14 0) (in_deal 22 0) (in_deal 21 0) (hinted g d p) h e in
    subst Lawful same (hinted_lawful g d p law true_there)
