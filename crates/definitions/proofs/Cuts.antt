-- A run is cut where its round closes: what a seat is answered in the round, and the run that is left.
use Rattle.std.proofs.Common.{◌≡◌, ℕ, suc, ◌+◌, ◌<◌, ◌≤◌, Bool, true, false, eqb, ◌⊎◌, List, [], ◌∷◌, map, length, get_or, Some, None, Option, sym, refl, ap, ◌∙◌, subst, inl, inr, ⊎_elim, arith}
use mathlib.Core.Path.{fun_ext}
use Rattle.std.proofs.lemmas.Bool.{cases_Bool, cond-true, cond-false, and_from, and_left, and_right, eq-eqb, ne_eqb}
use Rattle.definitions.specs.Lists.{here, there, upto}
use Rattle.definitions.specs.Ruleset.{roles}
use Rattle.definitions.specs.Play.{after}
use Rattle.definitions.specs.Match.{Table, State, Call, Answer, real_knowledge, real_play, committed, chosen, step}
use Rattle.definitions.specs.Law.{Request, Event, call, AllProper, trace, end, by_seat, events_of}
use Rattle.definitions.proofs.Upto.{in_upto}
use Rattle.definitions.proofs.Reached.{Reached, noted, none_noted, chosen_move, next_play, step_reached}
use Rattle.definitions.proofs.Views.{View, view, reply, answers_from, own_after, own_reply}
use Rattle.definitions.proofs.Onward.{Within, Closing, noted_as, seat_within, other_way, own_call, none_past}

abbrev pub calls_in : List Event → List Call
calls_in es = map (λ e. call e.request) es

abbrev pub answers_in : List Event → List Answer
answers_in es = map (λ e. e.answer) es

-- a seat's events by the number of rounds that are closed
abbrev pub by_round : ℕ → List Event → ℕ → List Event
by_round r es n = events_of r n es

other_events : (r : ℕ) (e : Event) (es : List Event) → by_seat r e.request ≡ false → by_round r (e ∷ es) ≡ by_round r es
other_events r e es h = fun_ext λ n. cond-false _ _ _ (and_left _ (eqb e.met.closed n) h)

own_event : (r : ℕ) (e : Event) (es : List Event) → by_seat r e.request ≡ true → by_round r (e ∷ es) e.met.closed ≡ e ∷ by_round r es e.met.closed
own_event r e es h = cond-true _ _ _ (and_from _ _ h (eq-eqb e.met.closed e.met.closed refl))

elsewhere : (r n : ℕ) (e : Event) (es : List Event) → (n ≡ e.met.closed → ⊥) → by_round r (e ∷ es) n ≡ by_round r es n
elsewhere r n e es apart = cond-false _ _ _ (and_right (by_seat r e.request) _ (ne_eqb e.met.closed n (λ same. apart (sym same))))

-- the round after that of s, with the run that is left
pub record Next (t : Table) (r : ℕ) (s final : State) : Type 0 where
  pub later : State
  pub left : List Request
  pub proper : AllProper left
  pub reached : Reached t later
  pub more : later.closed ≡ s.closed + 1
  pub fresh : committed t later r ≡ None
  pub joint : List ℕ
  pub play : real_play t later ≡ after t.game (real_play t s) (real_knowledge t s) joint
  pub ended : final ≡ end t later left

module _ (t : Table) (r : ℕ) (s : State) where
  abbrev V : View
  V = view t r s

  -- E has the seat's events in the run, and o is its commit where the run begins
  pub record Goes (o : Option ℕ) (E : ℕ → List Event) (final : State) (size : ℕ) : Type 0 where
    pub next : Next t r s final
    pub fewer : length next.left < size
    pub own : own_after t r V o (calls_in (E s.closed)) ≡ Some (get_or next.joint r 0)
    pub onward : (n : ℕ) → (n ≡ s.closed → ⊥) → E n ≡ by_round r (trace t next.later next.left) n

  abbrev pub Stays : (ℕ → List Event) → Type 0
  Stays E = (n : ℕ) → (n ≡ s.closed → ⊥) → E n ≡ []

  pub record Cut (o : Option ℕ) (E : ℕ → List Event) (final : State) (size : ℕ) : Type 0 where
    pub told : answers_in (E s.closed) ≡ answers_from t r V o (calls_in (E s.closed))
    pub way : Stays E ⊎ Goes o E final size

  cut_other : (o : Option ℕ) (E : ℕ → List Event) (final : State) (size : ℕ) → Cut o E final size → Cut o E final (suc size)
  cut_other o E final size h = record {
    told = h.told;
    way = ⊎_elim inl (λ k. inr (record { next = k.next; fewer = omega (arith, k.fewer); own = k.own; onward = k.onward })) h.way;
  }

  cut_own : (o p : Option ℕ) (E F : ℕ → List Event) (e : Event) (final : State) (size : ℕ)
      → F s.closed ≡ e ∷ E s.closed → ((n : ℕ) → (n ≡ s.closed → ⊥) → F n ≡ E n) → (p, e.answer) ≡ reply t r V o (call e.request)
      → Cut p E final size → Cut o F final (suc size)
  cut_own o p E F e final size here_more same replied h = record {
    told = rw here_more (rw (← replied) (ap (λ more. e.answer ∷ more) h.told));
    way =
        ⊎_elim (λ stays. inl (λ n apart. same n apart ∙ stays n apart))
        (λ k. inr (record { next = k.next; fewer = omega (arith, k.fewer); own = rw here_more (subst (λ y. own_after t r V y.0 (calls_in (E s.closed)) ≡ Some (get_or k.next.joint r 0)) replied k.own); onward = λ n apart. same n apart ∙ k.onward n apart })) h.way;
  }

  module _ (few : r < roles t.game) (eight : roles t.game ≤ 8) where
    cut_close : (x : Request) (xs : List Request) → AllProper xs → by_seat r x ≡ false → (cs : List (Option ℕ)) (b : Bool) → let v = noted_as s cs b in Reached t v → Closing t v (step t v (call x)).0 → Cut (committed t v r) (by_round r (trace t v (x ∷ xs))) (end t v (x ∷ xs)) (suc (length xs))
    cut_close x xs proper other cs b h w =
        let v = noted_as s cs b in
        let u = (step t v (call x)).0 in
        let reached = step_reached t v h (call x) in
        let more : u.closed ≡ s.closed + 1 = ap (λ z. z.closed) w.is in
        let E = by_round r (trace t v (x ∷ xs)) in
        let same : E ≡ by_round r (trace t u xs) = other_events r _ (trace t u xs) other in
        let nothing : E s.closed ≡ [] = ap (λ F. F s.closed) same ∙ none_past t r s.closed xs proper u reached (omega arith) in
        let (m, e) = noted t v (upto (roles t.game)) w.full r (in_upto few) in
        record {
          told = rw nothing refl;
          way = inr (record {
            next = record {
              later = u;
              left = xs;
              proper = proper;
              reached = reached;
              more = more;
              fresh = ap (λ z. committed t z r) w.is ∙ none_noted 8 r;
              joint = chosen t v;
              play = ap (real_play t) w.is ∙ next_play t v h w.full;
              ended = refl;
            };
            fewer = omega arith;
            own = rw nothing (e ∙ ap Some (sym (chosen_move t v r m few e)));
            onward = λ n apart. ap (λ F. F n) same;
          });
        }

    pub cut : (xs : List Request) → AllProper xs → (cs : List (Option ℕ)) (b : Bool) → let v = noted_as s cs b in Reached t v → Cut (committed t v r) (by_round r (trace t v xs)) (end t v xs) (length xs)
    cut [] proper cs b h = record { told = refl; way = inl (λ n apart. refl) }
    cut (x ∷ xs) proper cs b h =
        let v = noted_as s cs b in
        let u = (step t v (call x)).0 in
        let tail = trace t u xs in
        let further : AllProper xs = λ y i. proper y (there i) in
        let rest : Within v u → Cut (committed t u r) (by_round r tail) (end t u xs) (length xs) = λ w.
        subst (λ z. Cut (committed t z r) (by_round r (trace t z xs)) (end t z xs) (length xs)) (sym w.is)
        (cut xs further w.commits w.untold (subst (Reached t) w.is (step_reached t v h (call x)))) in
        ⊎_elim
        (λ own.
        let mine = own_call r x (proper x here) own in
        cut_own _ _ (by_round r tail) _ _ _ _ (own_event r _ tail own) (λ n apart. elsewhere r n _ tail apart) (own_reply t r v (omega (arith, h.eight)) (call x) mine) (rest (seat_within t v r (call x) mine)))
        (λ other. ⊎_elim
        (λ q. subst (λ E. Cut (committed t v r) E (end t u xs) (suc (length xs))) (sym (other_events r _ tail other))
        (cut_other _ _ _ _ (subst (λ o. Cut o (by_round r tail) (end t u xs) (length xs)) q.1 (rest q.0))))
        (cut_close x xs further other cs b h) (other_way t v r x (proper x here) other))
        (cases_Bool (by_seat r x))
