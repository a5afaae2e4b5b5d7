-- Matches whose real worlds differ, with the same deal otherwise: the law that a seat's answers hang on its own play alone.
use Rattle.std.proofs.Common.{◌≡◌, ℕ, ◌<◌, true, List, [], ◌∷◌, length, sym, refl, ap, ◌∙◌, subst, subst₂, arith}
use Rattle.std.proofs.lemmas.Bool.{and_from, eq-eqb}
use Rattle.definitions.specs.Refusal.{accepted}
use Rattle.definitions.specs.Lists.{In}
use Rattle.definitions.specs.Ruleset.{roles, SoundGame}
use Rattle.definitions.specs.Deal.{Lawful, standing}
use Rattle.definitions.specs.Play.{alike, is_player}
use Rattle.definitions.specs.Match.{Table, State, Call, commit, retract, close, tell, moves, known, common, rounds, holds, terminal, goal, plays, committed, real_play, step, deal_match}
use Rattle.definitions.specs.Law.{Request, call, AllProper, trace, end, calls_of, answers_of, saw, OwnPlayAlone}
use Rattle.definitions.proofs.Accepted.{accepted_sound}
use Rattle.definitions.proofs.Plain.{real_stands}
use Rattle.definitions.proofs.Reached.{Reached}
use Rattle.definitions.proofs.Begun.{begun, begun_play, begun_reached, dealt}
use Rattle.definitions.proofs.Alone.{Pair, answers_both}

-- a table with another real world
abbrev moved : Table → ℕ → Table
moved t w = record { game = t.game; deal = record { deck = t.deal.deck; seats = record { class = t.deal.seats.class; real = w } }; places = t.places }

-- no call looks at the real world
module _ (t : Table) (w : ℕ) where
  step_moved : (s : State) (c : Call) → step (moved t w) s c ≡ step t s c
  step_moved s (commit r m) = refl
  step_moved s (retract r) = refl
  step_moved s close = refl
  step_moved s tell = refl
  step_moved s (moves r) = refl
  step_moved s (known r p) = refl
  step_moved s (common p) = refl
  step_moved s rounds = refl
  step_moved s (holds p) = refl
  step_moved s terminal = refl
  step_moved s (goal r) = refl
  step_moved s plays = refl

  trace_moved : (xs : List Request) (s : State) → trace (moved t w) s xs ≡ trace t s xs
  trace_moved [] s = refl
  trace_moved (x ∷ xs) s =
      ap (λ es. record { met = s; request = x; answer = (step (moved t w) s (call x)).1 } ∷ es) (trace_moved xs (step (moved t w) s (call x)).0)
      ∙ (λ i. record { met = s; request = x; answer = (step_moved s (call x) i).1 } ∷ trace t (step_moved s (call x) i).0 xs)

  end_moved : (xs : List Request) (s : State) → end (moved t w) s xs ≡ end t s xs
  end_moved [] s = refl
  end_moved (x ∷ xs) s = end_moved xs (step (moved t w) s (call x)).0 ∙ ap (λ z. end t z.0 xs) (step_moved s (call x))

-- the law of two tables
abbrev Alone : ℕ → Table → Table → Type 0
Alone r t u =
    Lawful u.deal → t.deal.seats.class r t.deal.seats.real ≡ t.deal.seats.class r u.deal.seats.real
    → (s v : State) → deal_match t ≡ accepted s → deal_match u ≡ accepted v
    → (xs ys : List Request) → AllProper xs → AllProper ys
    → ((n : ℕ) → calls_of r n (trace t s xs) ≡ calls_of r n (trace u v ys))
    → ((n : ℕ) → n < (end t s xs).closed → n < (end u v ys).closed → saw t (end t s xs) r n ≡ saw u (end u v ys) r n)
    → (n : ℕ) → answers_of r n (trace t s xs) ≡ answers_of r n (trace u v ys)

moved_alone : (t : Table) (r w : ℕ) → SoundGame t.game → Lawful t.deal → r < roles t.game → is_player t.game r ≡ true → Alone r t (moved t w)
moved_alone t r w sound lawful few player lawful_too class s v deals deals_too xs ys proper proper_too calls sights n =
    answers_both t r sound few player (length xs) s v xs ys (omega arith) pair n ∙ ap (answers_of r n) (sym (trace_moved t w ys v))
  where
    real : ℕ
    real = t.deal.seats.real

    same : s ≡ begun t real
    same = (dealt t s deals).0

    same_too : v ≡ begun t w
    same_too = (dealt (moved t w) v deals_too).0

    stands : In real (standing t.deal)
    stands = real_stands t.deal lawful

    stands_too : In w (standing t.deal)
    stands_too = real_stands (moved t w).deal lawful_too

    pair : Pair t r s v xs ys
    pair = record {
      first = subst (Reached t) (sym same) (begun_reached t real stands (dealt t s deals).1);
      second = subst (Reached t) (sym same_too) (begun_reached t w stands_too (dealt t s deals).1);
      rounds = ap (λ z. z.closed) same ∙ sym (ap (λ z. z.closed) same_too);
      alike_plays =
          subst₂ (λ p q. alike t.deal r p q ≡ true) (sym (ap (real_play t) same ∙ begun_play t real stands)) (sym (ap (real_play t) same_too ∙ begun_play t w stands_too))
          (and_from _ _ (eq-eqb _ _ class) refl);
      own = ap (λ z. committed t z r) same ∙ sym (ap (λ z. committed t z r) same_too);
      proper = proper;
      proper_too = proper_too;
      calls = λ k. calls k ∙ ap (calls_of r k) (trace_moved t w ys v);
      sights = subst (λ z. (k : ℕ) → k < (end t s xs).closed → k < z.closed → saw t (end t s xs) r k ≡ saw t z r k) (end_moved t w ys v) sights;
    }

pub own_play_alone : OwnPlayAlone
own_play_alone t u r (text, e) lawful lawful_too few player twins =
    subst (Alone r t) same (moved_alone t r u.deal.seats.real (accepted_sound text t.game e) lawful few player) lawful_too twins.class
  where
    same : moved t u.deal.seats.real ≡ u
    same = λ i. record { game = twins.game i; deal = record { deck = twins.deck i; seats = record { class = twins.classes i; real = u.deal.seats.real } }; places = twins.places i }
