-- The real play of a run has the real world and the moves committed at its accepted closes.
use Rattle.std.proofs.Common.{◌≡◌, ℕ, Bool, true, false, cond, ◌&&◌, List, [], ◌∷◌, ◌++◌, map, length, sym, refl, ap, ◌∙◌, append_assoc, append-nil}
use Rattle.std.proofs.lemmas.List.{length-map, map_push}
use Rattle.definitions.specs.Play.{Turn, Play, start}
use Rattle.definitions.specs.Match.{Table, State, Call, Answer, chosen, real_play, step}
use Rattle.definitions.specs.Law.{Request, Event, call, trace, end, is_close, is_done, closing_moves, RealAsCommitted}
use Rattle.definitions.proofs.Calls.{commit_cases, retract_cases, close_cases}
use Rattle.definitions.proofs.Plain.{real_stands}
use Rattle.definitions.proofs.Reached.{Reached, next_play, step_reached, end_reached}
use Rattle.definitions.proofs.Begun.{begun_play, dealt, dealt_reached}

abbrev played : Play → List (List ℕ)
played p = map (λ u. u.moves) p.turns

-- q goes on from p with the joint moves js
record GoesOn (p q : Play) (js : List (List ℕ)) : Type 0 where
  pub world : q.world ≡ p.world
  pub moves : played q ≡ played p ++ js

stays : (p : Play) → GoesOn p p []
stays p = record { world = refl; moves = sym (append-nil (played p)) }

further : (p q r : Play) (js ks : List (List ℕ)) → GoesOn p q js → GoesOn q r ks → GoesOn p r (js ++ ks)
further p q r js ks a b = record { world = b.world ∙ a.world; moves = b.moves ∙ ap (λ l. l ++ ks) a.moves ∙ append_assoc (played p) js ks }

module _ (t : Table) where
  -- the joint move of one event, where it closes a round
  abbrev closes : State → Call → Answer → List (List ℕ)
  closes s c a = cond (is_close c && is_done a) (chosen t s ∷ []) []

  closing_more : (e : Event) (b : Bool) (es : List Event) → map (λ f. chosen t f.met) (cond b (e ∷ es) es) ≡ cond b (chosen t e.met ∷ []) [] ++ map (λ f. chosen t f.met) es
  closing_more e true es = refl
  closing_more e false es = refl

  module _ (s : State) (h : Reached t s) where
    abbrev Leaves : Call → State × Answer → Type 0
    Leaves c x = GoesOn (real_play t s) (real_play t x.0) (closes s c x.1)

    step_goes : (c : Call) → Leaves c (step t s c)
    step_goes (Call.commit r m) = commit_cases t s (Leaves (Call.commit r m)) (λ a. stays _) r m (λ e f. stays _)
    step_goes (Call.retract r) = retract_cases t s (Leaves (Call.retract r)) (λ a. stays _) r (λ e. stays _)
    step_goes Call.close =
        close_cases t s (Leaves Call.close) (λ a. stays _)
        (λ full even. let e = next_play t s h full in record { world = ap (λ p. p.world) e; moves = ap played e ∙ map_push (λ (u : Turn). u.moves) (real_play t s).turns _ })
    step_goes Call.tell = stays _
    step_goes (Call.moves r) = stays _
    step_goes (Call.known r p) = stays _
    step_goes (Call.common p) = stays _
    step_goes Call.rounds = stays _
    step_goes (Call.holds p) = stays _
    step_goes Call.terminal = stays _
    step_goes (Call.goal r) = stays _
    step_goes Call.plays = stays _

  end_goes : (s : State) (xs : List Request) → Reached t s → GoesOn (real_play t s) (real_play t (end t s xs)) (closing_moves t (trace t s xs))
  end_goes s [] h = stays _
  end_goes s (x ∷ xs) h =
      let next = step t s (call x) in
      rw closing_more (further (real_play t s) (real_play t next.0) (real_play t (end t next.0 xs)) _ _ (step_goes s h (call x)) (end_goes next.0 xs (step_reached t s h (call x))))

pub real_as_committed : RealAsCommitted
real_as_committed t good lawful s e xs =
    let h = dealt_reached t s lawful e in
    let begins : real_play t s ≡ start t.game t.deal t.deal.seats.real = ap (real_play t) (dealt t s e).0 ∙ begun_play t t.deal.seats.real (real_stands t.deal lawful) in
    let goes = end_goes t s xs h in
    let same : played (real_play t (end t s xs)) ≡ closing_moves t (trace t s xs) = goes.moves ∙ ap (λ p. played p ++ closing_moves t (trace t s xs)) begins in (
      goes.world ∙ ap (λ p. p.world) begins,
      same,
      sym (end_reached t s xs h).rounds ∙ sym (length-map (real_play t (end t s xs)).turns (λ u. u.moves)) ∙ ap length same,
    )
