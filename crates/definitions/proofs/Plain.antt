-- Hints of facts that rest on no knowledge: which worlds they leave, and that they are accepted.
use Rattle.std.proofs.Common.{◌≡◌, ℕ, ◌<◌, ◌≤◌, Bool, true, false, ◌&&◌, eqb, List, [], length, get_or, None, sym, refl, ap, ◌∙◌, subst}
use Rattle.std.proofs.Math.Bool.{and_comm}
use Rattle.std.proofs.lemmas.List.Elements.{filter_agree}
use Rattle.std.proofs.lemmas.Bool.{cond-true, cond-false, eqb-true, eq-eqb, lt-ltb, le-ltb, not_from_true, and_parts}
use Rattle.definitions.specs.Refusal.{accepted}
use Rattle.definitions.specs.Form.{Atom}
use Rattle.definitions.specs.Lists.{In, keep, upto}
use Rattle.definitions.specs.Level.{rests_on_knowledge}
use Rattle.definitions.specs.Holds.{Position, holds}
use Rattle.definitions.specs.Ruleset.{Game}
use Rattle.definitions.specs.Deal.{Deal, Lawful, standing, among}
use Rattle.definitions.specs.Knowledge.{Frame, position, knowing, deal_frame, index, in_deal_holds, hinted, hint_verdict}
use Rattle.definitions.proofs.Listed.{in_keep, keep_in}
use Rattle.definitions.proofs.Elements.{in_any}
use Rattle.definitions.proofs.Firsts.{like_place}
use Rattle.definitions.proofs.Upto.{in_upto}
use Rattle.definitions.proofs.Local.{without_knowledge}
use Rattle.definitions.proofs.Kept.{keep_same, keep_twice, kept_again}

pub index_place : {w : ℕ} (ws : List ℕ) → In w ws → (index ws w < length ws) × (get_or ws (index ws w) 0 ≡ w)
index_place {w} ws i = let r = like_place eqb ws w (in_any (λ v. eqb v w) i (eq-eqb w w refl)) in (r.0, eqb-true _ w (r.1 0))

-- a state in which nothing is known, and whether a fact holds in it
abbrev unaware : ℕ → Position
unaware s = record { state = s; moves = None; knowledge = [] }

abbrev pub plainly : Game → ℕ → ℕ → Bool
plainly g p s = holds g.rules (unaware s) (Atom.fact p)

pub real_stands : (d : Deal) → Lawful d → In d.seats.real (standing d)
real_stands d law = in_keep d.deck.stands (in_upto law.within) law.stands

module _ (g : Game) where
  pub hinted_standing : (d : Deal) (p : ℕ) → standing (hinted g d p) ≡ keep (in_deal_holds g d p) (standing d)
  hinted_standing d p =
      let once = keep_twice d.deck.stands (in_deal_holds g d p) (upto d.deck.size) in
      rw once (kept_again _ (upto d.deck.size))

  pub hint_accepted : (d : Deal) (p row : ℕ) → p < length g.names.facts → d.deck.size ≤ row → in_deal_holds g d p d.seats.real ≡ true → hint_verdict g d p row ≡ accepted (hinted g d p)
  hint_accepted d p row small fits e = cond-false _ _ _ (not_from_true _ (lt-ltb _ _ small)) ∙ cond-false _ _ _ (le-ltb _ _ fits) ∙ cond-true _ _ _ e

  module _ (p : ℕ) (free : rests_on_knowledge g.rules p ≡ false) where
    pub in_frame_plainly : (f : Frame) (K : ℕ → List (Atom ℕ)) (i : ℕ) → holds g.rules (position f K i) (Atom.fact p) ≡ plainly g p (f.state i)
    in_frame_plainly f K i = without_knowledge g.rules p free (position f K i) (unaware (f.state i)) refl refl

    pub in_deal_plainly : (d : Deal) (w : ℕ) → In w (standing d) → in_deal_holds g d p w ≡ plainly g p (d.deck.state w)
    in_deal_plainly d w i = in_frame_plainly (deal_frame d) (λ j. get_or (knowing g (deal_frame d)) j []) (index (standing d) w) ∙ ap (λ v. plainly g p (d.deck.state v)) (index_place (standing d) i).1

    -- in a world that a hint leaves
    pub still_holds : (d : Deal) (q w : ℕ) → In w (standing (hinted g d q)) → in_deal_holds g (hinted g d q) p w ≡ in_deal_holds g d p w
    still_holds d q w i =
        let before = (keep_in (in_deal_holds g d q) (standing d) (subst (In w) (hinted_standing d q) i)).0 in
        in_deal_plainly (hinted g d q) w i ∙ sym (in_deal_plainly d w before)

  abbrev pub both_hold : Deal → ℕ → ℕ → List ℕ
  both_hold d p q = keep (λ w. in_deal_holds g d p w && in_deal_holds g d q w) (standing d)

  module _ (d : Deal) (p q : ℕ) (free : rests_on_knowledge g.rules q ≡ false) where
    second_keeps : keep (in_deal_holds g (hinted g d p) q) (standing (hinted g d p)) ≡ both_hold d p q
    second_keeps =
        keep_same _ (in_deal_holds g d q) (standing (hinted g d p)) (still_holds q free d p)
        ∙ ap (keep (in_deal_holds g d q)) (hinted_standing d p)
        ∙ keep_twice (in_deal_holds g d p) (in_deal_holds g d q) (standing d)

    pub second_leaves : standing (hinted g (hinted g d p) q) ≡ both_hold d p q
    second_leaves = hinted_standing (hinted g d p) q ∙ second_keeps

    pub left_shows : (w : ℕ) → In w (standing (hinted g (hinted g d p) q)) → In w (standing d) × (in_deal_holds g d p w ≡ true) × (in_deal_holds g d q w ≡ true)
    left_shows w i =
        let (stood, both) = keep_in (λ v. in_deal_holds g d p v && in_deal_holds g d q v) (standing d) (subst (In w) second_leaves i) in
        let (one, other) = and_parts _ _ both in
        (stood, one, other)

  -- the deal is the same in either order
  pub either_deal : (d : Deal) (p q : ℕ) → rests_on_knowledge g.rules p ≡ false → rests_on_knowledge g.rules q ≡ false → hinted g (hinted g d p) q ≡ hinted g (hinted g d q) p
  either_deal d p q p_free q_free =
      let with_worlds : List ℕ → Deal = λ ws. record { deck = record { size = d.deck.size; stands = among ws; state = d.deck.state }; seats = d.seats } in
      ap with_worlds (second_keeps d p q q_free ∙ filter_agree _ _ (λ w. and_comm (in_deal_holds g d p w) (in_deal_holds g d q w)) (standing d) ∙ sym (second_keeps d q p p_free))
