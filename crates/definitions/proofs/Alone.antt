-- A seat's answers hang on its own play alone: two runs of one match, from real plays that it can't tell apart.
use Rattle.std.proofs.Common.{◌≡◌, ℕ, zero, suc, ◌<◌, ◌≤◌, true, ◌⊎◌, List, [], ◌∷◌, length, get_or, sym, ap, ◌∙◌, subst₂, inl, inr, ⊎_elim, arith}
use Rattle.std.proofs.lemmas.Bool.{cases_eq}
use Rattle.definitions.specs.Ruleset.{roles, SoundGame}
use Rattle.definitions.specs.Play.{Turn, alike, is_player}
use Rattle.definitions.specs.Match.{Table, State, committed, real_knowledge, real_play}
use Rattle.definitions.specs.Law.{Request, Event, AllProper, trace, end, calls_of, answers_of, saw}
use Rattle.definitions.proofs.Reached.{Reached}
use Rattle.definitions.proofs.Views.{view, answers_from, own_after}
use Rattle.definitions.proofs.Onward.{end_extends, none_past}
use Rattle.definitions.proofs.Cuts.{calls_in, answers_in, by_round, Goes, Cut, cut}
use Rattle.definitions.proofs.Sameview.{view_same, no_turn, alike_after}

quiet_both : (es fs : List Event) → es ≡ [] → calls_in es ≡ calls_in fs → answers_in es ≡ answers_in fs
quiet_both es [] e f = ap answers_in e
quiet_both es (x ∷ fs) e f = let g = ap calls_in e in cc

module _ (t : Table) (r : ℕ) where
  pub record Pair (s v : State) (xs ys : List Request) : Type 0 where
    pub first : Reached t s
    pub second : Reached t v
    pub rounds : s.closed ≡ v.closed
    pub alike_plays : alike t.deal r (real_play t s) (real_play t v) ≡ true
    pub own : committed t s r ≡ committed t v r
    pub proper : AllProper xs
    pub proper_too : AllProper ys
    pub calls : (n : ℕ) → calls_of r n (trace t s xs) ≡ calls_of r n (trace t v ys)
    pub sights : (n : ℕ) → n < (end t s xs).closed → n < (end t v ys).closed → saw t (end t s xs) r n ≡ saw t (end t v ys) r n

  module _ (sound : SoundGame t.game) (few : r < roles t.game) (player : is_player t.game r ≡ true) where
    abbrev CutOf : State → List Request → Type 0
    CutOf s xs = Cut t r s (committed t s r) (by_round r (trace t s xs)) (end t s xs) (length xs)

    abbrev GoesOf : State → List Request → Type 0
    GoesOf s xs = Goes t r s (committed t s r) (by_round r (trace t s xs)) (end t s xs) (length xs)

    module _ (s v : State) (xs ys : List Request) (h : Pair s v xs ys) where
      abbrev E : ℕ → List Event
      E = by_round r (trace t s xs)

      abbrev F : ℕ → List Event
      F = by_round r (trace t v ys)

      views : view t r s ≡ view t r v
      views = view_same t sound r few player s v h.first h.second h.rounds h.alike_plays

      calls_now : calls_in (E s.closed) ≡ calls_in (F v.closed)
      calls_now = h.calls s.closed ∙ ap (λ n. calls_in (F n)) h.rounds

      answers_now : CutOf s xs → CutOf v ys → answers_in (E s.closed) ≡ answers_in (F s.closed)
      answers_now a b = a.told ∙ (λ i. answers_from t r (views i) (h.own i) (calls_now i)) ∙ sym b.told ∙ ap (λ n. answers_in (F n)) (sym h.rounds)

      module _ (a : GoesOf s xs) (b : GoesOf v ys) where
        abbrev s' : State
        s' = a.next.later

        abbrev v' : State
        v' = b.next.later

        move_same : get_or a.next.joint r 0 ≡ get_or b.next.joint r 0
        move_same =
            let after_calls : own_after t r (view t r s) (committed t s r) (calls_in (E s.closed)) ≡ own_after t r (view t r v) (committed t v r) (calls_in (F v.closed)) = λ i. own_after t r (views i) (h.own i) (calls_now i) in
            let one = a.own in
            let other = b.own in
            cc

        sights_left : (n : ℕ) → n < (end t s' a.next.left).closed → n < (end t v' b.next.left).closed → saw t (end t s' a.next.left) r n ≡ saw t (end t v' b.next.left) r n
        sights_left n = subst₂ (λ x y. n < x.closed → n < y.closed → saw t x r n ≡ saw t y r n) a.next.ended b.next.ended (h.sights n)

        seen_same : saw t s' r s.closed ≡ saw t v' r s.closed
        seen_same =
            let n = s.closed in
            let x = end_extends t a.next.left a.next.proper s' a.next.reached in
            let y = end_extends t b.next.left b.next.proper v' b.next.reached in
            let low : n < s'.closed = omega (arith, a.next.more) in
            let below : n < v'.closed = omega (arith, b.next.more, h.rounds) in
            let seen : Turn → ℕ = λ u. get_or u.seen r 0 in
            sym (ap seen (x.same n no_turn low)) ∙ sights_left n (omega (arith, x.later)) (omega (arith, y.later)) ∙ ap seen (y.same n no_turn below)

        alike_next : alike t.deal r (real_play t s') (real_play t v') ≡ true
        alike_next =
            subst₂ (λ x y. alike t.deal r x y ≡ true) (sym a.next.play) (sym b.next.play)
            (alike_after t.game t.deal r (real_play t s) (real_play t v) (real_knowledge t s) (real_knowledge t v) a.next.joint b.next.joint s.closed
            h.first.rounds (h.second.rounds ∙ sym h.rounds) h.alike_plays move_same
            (subst₂ (λ x y. get_or (get_or x.turns s.closed no_turn).seen r 0 ≡ get_or (get_or y.turns s.closed no_turn).seen r 0) a.next.play b.next.play seen_same))

        calls_left : (n : ℕ) → calls_of r n (trace t s' a.next.left) ≡ calls_of r n (trace t v' b.next.left)
        calls_left n =
            ⊎_elim
            (λ e.
            ap calls_in (none_past t r n a.next.left a.next.proper s' a.next.reached (omega (arith, a.next.more)))
            ∙ sym (ap calls_in (none_past t r n b.next.left b.next.proper v' b.next.reached (omega (arith, b.next.more, h.rounds)))))
            (λ apart. sym (ap calls_in (a.onward n apart)) ∙ h.calls n ∙ ap calls_in (b.onward n (λ e. apart (e ∙ sym h.rounds))))
            (cases_eq n s.closed)

        pair_next : Pair s' v' a.next.left b.next.left
        pair_next = record {
          first = a.next.reached;
          second = b.next.reached;
          rounds = omega (arith, a.next.more, b.next.more, h.rounds);
          alike_plays = alike_next;
          own = a.next.fresh ∙ sym b.next.fresh;
          proper = a.next.proper;
          proper_too = b.next.proper;
          calls = calls_left;
          sights = sights_left;
        }

      abbrev AnsweredLater : Type 0
      AnsweredLater = (a : GoesOf s xs) (b : GoesOf v ys) (n : ℕ) → answers_of r n (trace t a.next.later a.next.left) ≡ answers_of r n (trace t b.next.later b.next.left)

      answers_then : CutOf s xs → CutOf v ys → AnsweredLater → (n : ℕ) → (n ≡ s.closed → ⊥) → answers_in (E n) ≡ answers_in (F n)
      answers_then a b further n apart =
          ⊎_elim (λ stays. quiet_both (E n) (F n) (stays n apart) (h.calls n))
          (λ goes. ⊎_elim
          (λ stays. sym (quiet_both (F n) (E n) (stays n apart_too) (sym (h.calls n))))
          (λ gone. ap answers_in (goes.onward n apart) ∙ further goes gone n ∙ sym (ap answers_in (gone.onward n apart_too))) b.way) a.way
        where
          apart_too : n ≡ v.closed → ⊥
          apart_too e = apart (e ∙ sym h.rounds)

      answers_all : CutOf s xs → CutOf v ys → AnsweredLater → (n : ℕ) → answers_in (E n) ≡ answers_in (F n)
      answers_all a b further n = go (cases_eq n s.closed)
        where
          now : n ≡ s.closed → answers_in (E n) ≡ answers_in (F n)
          now e = rw e (answers_now a b)

          go : (n ≡ s.closed) ⊎ (n ≡ s.closed → ⊥) → answers_in (E n) ≡ answers_in (F n)
          go (inl e) = now e
          go (inr apart) = answers_then a b further n apart

    cut_of : (s : State) → Reached t s → (xs : List Request) → AllProper xs → CutOf s xs
    cut_of s h xs proper = cut t r s few sound.few_roles xs proper s.commits s.untold h

    pub answers_both : (k : ℕ) (s v : State) (xs ys : List Request) → length xs ≤ k → Pair s v xs ys → (n : ℕ) → answers_of r n (trace t s xs) ≡ answers_of r n (trace t v ys)
    answers_both zero s v xs ys short h =
        answers_all s v xs ys h (cut_of s h.first xs h.proper) (cut_of v h.second ys h.proper_too) (λ a b n. absurd (omega (arith, a.fewer)))
    answers_both (suc k) s v xs ys short h =
        answers_all s v xs ys h (cut_of s h.first xs h.proper) (cut_of v h.second ys h.proper_too)
        (λ a b. answers_both k _ _ _ _ (omega (arith, a.fewer)) (pair_next s v xs ys h a b))
