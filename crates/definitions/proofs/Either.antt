-- Two facts that rest on no knowledge can be hinted in either order, and are common knowledge until a round closes.
use Rattle.std.proofs.Common.{◌≡◌, ℕ, ◌<◌, ◌≤◌, Bool, true, false, cond, ◌&&◌, leb, [], length, get_or, Some, None, Option, sym, refl, ap, ◌∙◌, subst, ap₂, arith}
use Rattle.std.proofs.lemmas.List.{length-map}
use Rattle.std.proofs.lemmas.Bool.{and_from, lt-ltb}
use Rattle.definitions.specs.Refusal.{Verdict, accepted, refused}
use Rattle.definitions.specs.Form.{Atom}
use Rattle.definitions.specs.Lists.{In}
use Rattle.definitions.specs.Level.{member, rests_on_knowledge}
use Rattle.definitions.specs.Ruleset.{Game}
use Rattle.definitions.specs.Deal.{Deal, Lawful, standing}
use Rattle.definitions.specs.Knowledge.{index, knowing, in_match, in_deal_holds, hinted}
use Rattle.definitions.specs.Play.{no_play, nth, frame, start, knowledge, book, uneven}
use Rattle.definitions.specs.Match.{Table, State, Answer, real_knowledge, first_state, even_state, deal_match, asked_of}
use Rattle.definitions.specs.Law.{IsGame, end, on, BothAnswer, CommonFirst, Hinted, EitherOrder}
use Rattle.definitions.proofs.Listed.{in_keep}
use Rattle.definitions.proofs.Elements.{get_or_in}
use Rattle.definitions.proofs.Upto.{map_in}
use Rattle.definitions.proofs.Chains.{chain_below}
use Rattle.definitions.proofs.Knowing.{knowing_knows}
use Rattle.definitions.proofs.Accepted.{accepted_sound}
use Rattle.definitions.proofs.Hints.{hint_leaves}
use Rattle.definitions.proofs.Plain.{index_place, plainly, real_stands, hinted_standing, hint_accepted, in_frame_plainly, in_deal_plainly, still_holds, second_leaves, left_shows, either_deal}
use Rattle.definitions.proofs.Features.{accepted_features, holds_short}
use Rattle.definitions.proofs.Unclosed.{unclosed_plays}

-- a fact that holds in every world that stands is common knowledge until a round closes
module _ (g : Game) (is : IsGame g) (p : ℕ) (small : p < length g.names.facts) (free : rests_on_knowledge g.rules p ≡ false) (d : Deal) (real : In d.seats.real (standing d)) (shown : (w : ℕ) → In w (standing d) → plainly g p (d.deck.state w) ≡ true) where
  play_shows : (i : ℕ) → i < length (book g d 0) → plainly g p (nth (book g d 0) i).state ≡ true
  play_shows i low =
      let (w, stands, same) = map_in (start g d) (standing d) (get_or_in (book g d 0) i no_play low) in
      ap (λ q. plainly g p q.state) same ∙ holds_short g (accepted_features is.0 g is.1) (d.deck.state w) None [] p ∙ shown w stands

  first_common : member (get_or (knowledge g d (book g d 0)) (index (standing d) d.seats.real) []) (Atom.common p) ≡ true
  first_common =
      let f = frame d (book g d 0) in
      let i = index (standing d) d.seats.real in
      let low : i < length (book g d 0) = omega (arith, (index_place (standing d) real).0, length-map (standing d) (start g d)) in
      ((knowing_knows g f (accepted_sound is.0 g is.1)).shared i p low small).1 λ v c. in_frame_plainly g p free f (λ w. get_or (knowing g f) w []) v ∙ play_shows v (chain_below low c)

  common_first : (places : ℕ) → CommonFirst (on g places d) p (deal_match (on g places d))
  common_first places = go (leb (length (book g d 0)) places) (uneven g d (book g d 0))
    where
      t : Table
      t = on g places d

      go : (b : Bool) (o : Option ℕ) → CommonFirst t p (cond b (even_state t o (first_state t)) (refused (in_match 12 0)))
      go true None = λ xs none.
          let (plays, at_real) = unclosed_plays t (first_state t) xs none in
          ap (λ b. asked_of t b (Answer.flag (member (real_knowledge t (end t (first_state t) xs)) (Atom.common p)))) (lt-ltb p (length g.names.facts) small)
          ∙ ap (λ K. Answer.flag (member K (Atom.common p))) (ap₂ (λ ps i. get_or (knowledge g d ps) i []) plays at_real)
          ∙ ap Answer.flag first_common
      go true (Some r) = tt
      go false o = tt

both_answer : (t : Table) (v : Verdict State) → BothAnswer t t v v
both_answer t (accepted s) = λ cs. refl
both_answer t (refused r) = refl

module _ (g : Game) (d : Deal) (law : Lawful d) (p q : ℕ) (q_free : rests_on_knowledge g.rules q ≡ false) (p_holds : in_deal_holds g d p d.seats.real ≡ true) (q_holds : in_deal_holds g d q d.seats.real ≡ true) where
  twice_hinted : (p_row q_row : ℕ) → p < length g.names.facts → q < length g.names.facts → d.deck.size ≤ p_row → d.deck.size ≤ q_row → Hinted g d p q p_row q_row (hinted g (hinted g d p) q)
  twice_hinted p_row q_row p_small q_small p_fits q_fits =
      let left : In d.seats.real (standing (hinted g d p)) = subst (In d.seats.real) (sym (hinted_standing g d p)) (in_keep (in_deal_holds g d p) (real_stands d law) p_holds) in
      record {
        one = hinted g d p;
        first = hint_accepted g d p p_row p_small p_fits p_holds;
        first_leaves = hint_leaves g d p;
        second = hint_accepted g (hinted g d p) q q_row q_small q_fits (still_holds g q q_free d p d.seats.real left ∙ q_holds);
        second_leaves = hint_leaves g (hinted g d p) q;
        left = second_leaves g d p q q_free;
      }

  real_left : In d.seats.real (standing (hinted g (hinted g d p) q))
  real_left = subst (In d.seats.real) (sym (second_leaves g d p q q_free)) (in_keep (λ w. in_deal_holds g d p w && in_deal_holds g d q w) (real_stands d law) (and_from _ _ p_holds q_holds))

pub either_order : EitherOrder
either_order g d p q p_row q_row places is law p_small q_small p_free q_free p_holds q_holds p_fits q_fits =
    let h = hinted g (hinted g d p) q in
    let k = hinted g (hinted g d q) p in
    let real = real_left g d law p q q_free p_holds q_holds in
    let shows = left_shows g d p q q_free in (
      h,
      k,
      twice_hinted g d law p q q_free p_holds q_holds p_row q_row p_small q_small p_fits q_fits,
      twice_hinted g d law q p p_free q_holds p_holds q_row p_row q_small p_small q_fits p_fits,
      subst (λ e. BothAnswer (on g places h) (on g places e) (deal_match (on g places h)) (deal_match (on g places e))) (either_deal g d p q p_free q_free) (both_answer (on g places h) (deal_match (on g places h))),
      common_first g is p p_small p_free h real (λ w i. let s = shows w i in sym (in_deal_plainly g p p_free d w s.0) ∙ s.1) places,
      common_first g is q q_small q_free h real (λ w i. let s = shows w i in sym (in_deal_plainly g q q_free d w s.0) ∙ s.2) places,
    )
