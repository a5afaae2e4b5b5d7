-- What holds in every state that a run reaches.
use Rattle.std.proofs.Common.{◌≡◌, ℕ, zero, suc, ◌+◌, ◌<◌, ◌⊎◌, List, [], ◌∷◌, length, get_or, set, replicate, Some, None, Option, sym, refl, ap, ◌∙◌, subst₂, inl, inr, ⊎_elim, add-one, arith}
use Rattle.std.proofs.lemmas.List.{length-map, length-set, length_push, set_past, get_or-map, get_or-set_same, get_or-set_other}
use Rattle.std.proofs.lemmas.List.FromFn.{length-map-range_with_len}
use Rattle.std.proofs.lemmas.Bool.{cases_eq, cases_lt}
use Rattle.definitions.specs.Lists.{In, upto}
use Rattle.definitions.specs.Ruleset.{Game, roles}
use Rattle.definitions.specs.Play.{Play, no_play, frame, after, joint_moves, successors, knowledge, next_book, book, LegalIn, uneven}
use Rattle.definitions.specs.Match.{Table, State, Call, commit, retract, close, tell, moves, known, common, rounds, holds, terminal, goal, plays, real_knowledge, real_play, own_moves, committed, missing, chosen, next_real, closed_with, step}
use Rattle.definitions.specs.Law.{Request, call, end}
use Rattle.definitions.proofs.Listed.{either_in}
use Rattle.definitions.proofs.Upto.{in_upto, get_or_map_upto, among_decides}
use Rattle.definitions.proofs.Joint.{legal_joint}
use Rattle.definitions.proofs.Evenness.{knowing_length}
use Rattle.definitions.proofs.Positions.{HoldsAt, position_at, follow_at}
use Rattle.definitions.proofs.Calls.{commit_cases, retract_cases, close_cases}

pub record Reached (t : Table) (s : State) : Type 0 where
  pub booked : s.plays ≡ book t.game t.deal s.closed
  pub low : s.real < length s.plays
  pub eight : length s.commits ≡ 8
  pub legal : (r m : ℕ) → r < roles t.game → committed t s r ≡ Some m → In m (own_moves t s r)
  pub even : uneven t.game t.deal s.plays ≡ None
  pub rounds : length (real_play t s).turns ≡ s.closed

-- commits
pub none_noted : (n r : ℕ) → get_or (replicate {A = Option ℕ} n None) r None ≡ None
none_noted zero r = refl
none_noted (suc n) zero = refl
none_noted (suc n) (suc r) = none_noted n r

set_some : (cs : List (Option ℕ)) (r q m : ℕ) (c : Option ℕ) → get_or (set cs r c) q None ≡ Some m → ((q ≡ r) × (c ≡ Some m)) ⊎ (get_or cs q None ≡ Some m)
set_some cs r q m c e =
    ⊎_elim
    (λ same. ⊎_elim
    (λ few. inl (same, sym (get_or-set_same cs r c None few) ∙ ap (λ k. get_or (set cs r c) k None) (sym same) ∙ e))
    (λ past. inr (ap (λ l. get_or l q None) (sym (set_past cs r c past)) ∙ e)) (cases_lt r (length cs)))
    (λ apart. inr (sym (get_or-set_other cs r q c None apart) ∙ e)) (cases_eq q r)

pub noted : (t : Table) (s : State) (rs : List ℕ) → missing t s rs ≡ None → (r : ℕ) → In r rs → (m : ℕ) × (committed t s r ≡ Some m)
noted t s [] e r i = elim i [ ]
noted t s (q ∷ rs) e r i = go (committed t s q) refl e (λ h j. noted t s rs h r j)
  where
    go : (o : Option ℕ) → committed t s q ≡ o → ◌≡◌ {A = Option ℕ} (elim o [ None ↦ Some q | Some m ↦ missing t s rs ]) None
        → (missing t s rs ≡ None → In r rs → (m : ℕ) × (committed t s r ≡ Some m)) → (m : ℕ) × (committed t s r ≡ Some m)
    go None f h further = cc
    go (Some m) f h further = ⊎_elim (λ same. (m, ap (committed t s) (sym same) ∙ f)) (further h) (either_in i)

-- the real play goes on
abbrev pub next_plays : Table → State → List Play
next_plays t s = next_book t.game t.deal s.plays

module _ (t : Table) (s : State) where
  abbrev g : Game
  g = t.game

  abbrev move_of : Option ℕ → ℕ
  move_of o = elim o [ None ↦ 0 | Some m ↦ m ]

  pub chosen_move : (r m : ℕ) → r < roles g → committed t s r ≡ Some m → get_or (chosen t s) r 0 ≡ m
  chosen_move r m few e = get_or_map_upto (λ q. move_of (committed t s q)) (roles g) r 0 few ∙ ap move_of e

  module _ (h : Reached t s) (full : missing t s (upto (roles g)) ≡ None) where
    chosen_legal : LegalIn g (real_play t s) (real_knowledge t s) (chosen t s)
    chosen_legal = (
      length-map-range_with_len _ 0 (roles g),
      λ r few. let (m, e) = noted t s (upto (roles g)) full r (in_upto few) in rw (chosen_move r m few e) (h.legal r m few e),
    )

    next_at : HoldsAt (next_plays t s) (next_real t s) (after g (real_play t s) (real_knowledge t s) (chosen t s))
    next_at =
        let p = real_play t s in
        let K = real_knowledge t s in
        let ks = joint_moves g p K in
        let ps = s.plays in
        let place = position_at t ks (chosen t s) (legal_joint g p K (chosen t s) chosen_legal) in
        follow_at g (successors g) ps (knowledge g t.deal ps) s.real _ _ h.low (omega (arith, h.low, knowing_length g (frame t.deal ps)))
        (record { below = omega (arith, place.below, length-map ks (after g p K)); is = λ d. get_or-map (after g p K) ks _ [] d place.below ∙ ap (after g p K) (place.is []) })

    pub next_play : real_play t (closed_with t s (next_plays t s)) ≡ after g (real_play t s) (real_knowledge t s) (chosen t s)
    next_play = next_at.is no_play

    pub close_reached : uneven g t.deal (next_plays t s) ≡ None → Reached t (closed_with t s (next_plays t s))
    close_reached even = record {
      booked = rw add-one (ap (next_book g t.deal) h.booked);
      low = next_at.below;
      eight = refl;
      legal = λ r m few e. let f = none_noted 8 r in cc;
      even = even;
      rounds = ap (λ p. length p.turns) next_play ∙ length_push (real_play t s).turns _ ∙ ap (λ n. n + 1) h.rounds;
    }

  pub step_reached : Reached t s → (c : Call) → Reached t (step t s c).0
  step_reached h (commit r m) =
      commit_cases t s (λ x. Reached t x.0) (λ a. h) r m
      (λ e f. record {
        booked = h.booked;
        low = h.low;
        eight = length-set s.commits r (Some m) ∙ h.eight;
        legal = λ q k few n. ⊎_elim (λ w. let same : m ≡ k = cc w.1 in subst₂ (λ a b. In a (own_moves t s b)) same (sym w.0) ((among_decides (own_moves t s r) m).0 f)) (h.legal q k few) (set_some s.commits r q k (Some m) n);
        even = h.even;
        rounds = h.rounds;
      })
  step_reached h (retract r) =
      retract_cases t s (λ x. Reached t x.0) (λ a. h) r
      (λ e. record {
        booked = h.booked;
        low = h.low;
        eight = length-set s.commits r None ∙ h.eight;
        legal = λ q k few n. ⊎_elim (λ w. let f = w.1 in cc) (h.legal q k few) (set_some s.commits r q k None n);
        even = h.even;
        rounds = h.rounds;
      })
  step_reached h close = close_cases t s (λ x. Reached t x.0) (λ a. h) (close_reached h)
  step_reached h tell = record { booked = h.booked; low = h.low; eight = h.eight; legal = h.legal; even = h.even; rounds = h.rounds }
  step_reached h (moves r) = h
  step_reached h (known r p) = h
  step_reached h (common p) = h
  step_reached h rounds = h
  step_reached h (holds p) = h
  step_reached h terminal = h
  step_reached h (goal r) = h
  step_reached h plays = h

pub end_reached : (t : Table) (s : State) (xs : List Request) → Reached t s → Reached t (end t s xs)
end_reached t s [] h = h
end_reached t s (x ∷ xs) h = end_reached t (step t s (call x)).0 xs (step_reached t s h (call x))
