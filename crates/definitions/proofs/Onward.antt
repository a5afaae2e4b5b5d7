-- What a proper request leaves: the same round, or the next one.
use Rattle.std.proofs.Common.{◌≡◌, ℕ, ◌<◌, ◌≤◌, Bool, true, false, ◌⊎◌, List, [], ◌∷◌, get_or, set, Some, None, Option, sym, refl, ap, ◌∙◌, subst, inl, inr, ⊎_elim, arith}
use Rattle.std.proofs.lemmas.List.{get_or-set_other, get_or_append_left}
use Rattle.std.proofs.lemmas.Bool.{eqb-true, eqb-false, ne_eqb, and_right, cond-false, false≢true}
use Rattle.definitions.specs.Lists.{here, there, upto}
use Rattle.definitions.specs.Ruleset.{roles}
use Rattle.definitions.specs.Play.{Turn, uneven}
use Rattle.definitions.specs.Match.{Table, State, Call, commit, retract, close, tell, moves, known, common, rounds, holds, terminal, goal, plays, real_play, committed, missing, closed_with, step}
use Rattle.definitions.specs.Law.{Request, call, SeatCall, HostCall, Proper, AllProper, trace, end, by_seat, events_of}
use Rattle.definitions.proofs.Calls.{commit_cases, retract_cases, close_cases}
use Rattle.definitions.proofs.Reached.{Reached, next_plays, next_play, step_reached}

-- a state with other commits and slips, in the same round
abbrev pub noted_as : State → List (Option ℕ) → Bool → State
noted_as s cs b = record { closed = s.closed; plays = s.plays; real = s.real; commits = cs; untold = b }

pub record Within (s v : State) : Type 0 where
  pub commits : List (Option ℕ)
  pub untold : Bool
  pub is : v ≡ noted_as s commits untold

-- a state in which the next round begins
pub record Closing (t : Table) (s v : State) : Type 0 where
  pub full : missing t s (upto (roles t.game)) ≡ None
  pub even : uneven t.game t.deal (next_plays t s) ≡ None
  pub is : v ≡ closed_with t s (next_plays t s)

within_itself : (s : State) → Within s s
within_itself s = record { commits = s.commits; untold = s.untold; is = refl }

pub own_call : (r : ℕ) (x : Request) → Proper x → by_seat r x ≡ true → SeatCall r (call x)
own_call r (Request.seat q c) proper e = subst (λ k. SeatCall k c) (eqb-true q r e) proper
own_call r (Request.host c) proper e = absurd (false≢true e)

module _ (t : Table) (s : State) where
  pub seat_within : (r : ℕ) (c : Call) → SeatCall r c → Within s (step t s c).0
  seat_within r (commit q m) e = commit_cases t s (λ x. Within s x.0) (λ a. within_itself s) q m (λ e f. record { commits = set s.commits q (Some m); untold = s.untold; is = refl })
  seat_within r (retract q) e = retract_cases t s (λ x. Within s x.0) (λ a. within_itself s) q (λ e. record { commits = set s.commits q None; untold = s.untold; is = refl })
  seat_within r close e = absurd e
  seat_within r tell e = absurd e
  seat_within r (moves q) e = within_itself s
  seat_within r (known q p) e = within_itself s
  seat_within r (common p) e = within_itself s
  seat_within r rounds e = within_itself s
  seat_within r (holds p) e = absurd e
  seat_within r terminal e = absurd e
  seat_within r (goal q) e = absurd e
  seat_within r plays e = absurd e

  -- the commit of another seat stays
  seat_other : (q r : ℕ) → (r ≡ q → ⊥) → (c : Call) → SeatCall q c → committed t (step t s c).0 r ≡ committed t s r
  seat_other q r apart (commit k m) e = commit_cases t s (λ x. committed t x.0 r ≡ committed t s r) (λ a. refl) k m (λ f h. get_or-set_other s.commits k r (Some m) None (λ same. apart (same ∙ e)))
  seat_other q r apart (retract k) e = retract_cases t s (λ x. committed t x.0 r ≡ committed t s r) (λ a. refl) k (λ f. get_or-set_other s.commits k r None None (λ same. apart (same ∙ e)))
  seat_other q r apart close e = absurd e
  seat_other q r apart tell e = absurd e
  seat_other q r apart (moves k) e = refl
  seat_other q r apart (known k p) e = refl
  seat_other q r apart (common p) e = refl
  seat_other q r apart rounds e = refl
  seat_other q r apart (holds p) e = absurd e
  seat_other q r apart terminal e = absurd e
  seat_other q r apart (goal k) e = absurd e
  seat_other q r apart plays e = absurd e

  -- the same round with the same commit of a role, or the next round
  abbrev pub Quiet : ℕ → State → Type 0
  Quiet r v = Within s v × (committed t v r ≡ committed t s r)

  quiet_itself : (r : ℕ) → Quiet r s
  quiet_itself r = (within_itself s, refl)

  host_way : (r : ℕ) (c : Call) → HostCall c → Quiet r (step t s c).0 ⊎ Closing t s (step t s c).0
  host_way r (commit q m) e = absurd e
  host_way r (retract q) e = absurd e
  host_way r close e =
      close_cases t s (λ x. Quiet r x.0 ⊎ Closing t s x.0) (λ a. inl (quiet_itself r))
      (λ full even. inr (record { full = full; even = even; is = refl }))
  host_way r tell e = inl (record { commits = s.commits; untold = false; is = refl }, refl)
  host_way r (moves q) e = absurd e
  host_way r (known q p) e = absurd e
  host_way r (common p) e = absurd e
  host_way r rounds e = absurd e
  host_way r (holds p) e = inl (quiet_itself r)
  host_way r terminal e = inl (quiet_itself r)
  host_way r (goal q) e = inl (quiet_itself r)
  host_way r plays e = inl (quiet_itself r)

  pub other_way : (r : ℕ) (x : Request) → Proper x → by_seat r x ≡ false → Quiet r (step t s (call x)).0 ⊎ Closing t s (step t s (call x)).0
  other_way r (Request.seat q c) proper e = inl (seat_within q c proper, seat_other q r (λ same. eqb-false q r e (sym same)) c proper)
  other_way r (Request.host c) proper e = host_way r c proper

  proper_way : (x : Request) → Proper x → Within s (step t s (call x)).0 ⊎ Closing t s (step t s (call x)).0
  proper_way (Request.seat q c) proper = inl (seat_within q c proper)
  proper_way (Request.host c) proper = ⊎_elim (λ h. inl h.0) inr (host_way 0 c proper)

-- rounds stay closed, and what was played in them stays
abbrev pub turn_at : Table → State → ℕ → Turn → Turn
turn_at t s n d = get_or (real_play t s).turns n d

module _ (t : Table) where
  pub record Extends (s v : State) : Type 0 where
    pub later : s.closed ≤ v.closed
    pub same : (n : ℕ) (d : Turn) → n < s.closed → turn_at t v n d ≡ turn_at t s n d

  step_extends : (s : State) → Reached t s → (x : Request) → Proper x → Extends s (step t s (call x)).0
  step_extends s h x proper =
      ⊎_elim
      (λ w. subst (Extends s) (sym w.is) (record { later = omega arith; same = λ n d low. refl }))
      (λ w. subst (Extends s) (sym w.is) (record {
        later = omega arith;
        same = λ n d low. ap (λ p. get_or p.turns n d) (next_play t s h w.full) ∙ get_or_append_left (real_play t s).turns _ d n (omega (arith, h.rounds));
      }))
      (proper_way t s x proper)

  pub end_extends : (xs : List Request) → AllProper xs → (s : State) → Reached t s → Extends s (end t s xs)
  end_extends [] proper s h = record { later = omega arith; same = λ n d low. refl }
  end_extends (x ∷ xs) proper s h =
      let first = step_extends s h x (proper x here) in
      let rest = end_extends xs (λ y i. proper y (there i)) _ (step_reached t s h (call x)) in
      record { later = omega (arith, first.later, rest.later); same = λ n d low. rest.same n d (omega (arith, first.later)) ∙ first.same n d low }

  pub none_past : (r n : ℕ) (xs : List Request) → AllProper xs → (s : State) → Reached t s → n < s.closed → events_of r n (trace t s xs) ≡ []
  none_past r n [] proper s h low = refl
  none_past r n (x ∷ xs) proper s h low =
      let first = step_extends s h x (proper x here) in
      cond-false _ _ _ (and_right (by_seat r x) _ (ne_eqb s.closed n (λ e. omega arith)))
      ∙ none_past r n xs (λ y i. proper y (there i)) _ (step_reached t s h (call x)) (omega (arith, first.later))
