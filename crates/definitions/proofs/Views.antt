-- What a seat is answered in a round hangs on its view of the round, its commit and its calls.
use Rattle.std.proofs.Common.{◌≡◌, ℕ, ◌<◌, Bool, true, false, not, ◌&&◌, List, [], ◌∷◌, length, Some, None, Option, sym, refl, subst}
use Rattle.std.proofs.lemmas.List.{get_or-set_same}
use Rattle.definitions.specs.Refusal.{Refusal}
use Rattle.definitions.specs.Form.{Atom}
use Rattle.definitions.specs.Lists.{upto}
use Rattle.definitions.specs.Level.{member}
use Rattle.definitions.specs.Deal.{among, state_where}
use Rattle.definitions.specs.Knowledge.{in_match}
use Rattle.definitions.specs.Match.{Table, State, Call, commit, retract, close, tell, moves, known, common, rounds, holds, terminal, goal, plays, Answer, done, bits, flag, count, refusal, real_knowledge, own_moves, committed, with_commit, has_role, has_move, has_fact, is_some, unless, asked_of, after_commit, after_retract, step}
use Rattle.definitions.specs.Law.{SeatCall}

pub record View : Type 0 where
  pub moves : List ℕ
  pub knows : ℕ → Answer
  pub common : ℕ → Answer
  pub closed : ℕ

module _ (t : Table) (r : ℕ) where
  abbrev pub view : State → View
  view s = record {
    moves = own_moves t s r;
    knows = λ p. asked_of t (has_role t r && has_fact t p) (flag (member (real_knowledge t s) (Atom.knows r p)));
    common = λ p. asked_of t (has_fact t p) (flag (member (real_knowledge t s) (Atom.common p)));
    closed = s.closed;
  }

  abbrev check : Bool → Refusal → Option ℕ × Answer → Option ℕ → Option ℕ × Answer
  check true a next o = next
  check false a next o = (o, refusal a)

  -- the seat's commit after a call of its own, and the answer
  abbrev pub reply : View → Option ℕ → Call → Option ℕ × Answer
  reply V o (commit q m) =
      check (has_move t r m) (in_match 14 0)
      (check (not (is_some t o)) (in_match 15 0)
      (check (among V.moves m) (in_match 16 0) (Some m, done) o) o) o
  reply V o (retract q) = check (has_role t r) (in_match 14 0) (check (is_some t o) (in_match 17 0) (None, done) o) o
  reply V o close = (o, done)
  reply V o tell = (o, done)
  reply V o (moves q) = (o, asked_of t (has_role t r) (bits (state_where (among V.moves) (upto 32))))
  reply V o (known q p) = (o, V.knows p)
  reply V o (common p) = (o, V.common p)
  reply V o rounds = (o, count V.closed)
  reply V o (holds p) = (o, done)
  reply V o terminal = (o, done)
  reply V o (goal q) = (o, done)
  reply V o plays = (o, done)

  abbrev pub answers_from : View → Option ℕ → List Call → List Answer
  answers_from V o [] = []
  answers_from V o (c ∷ cs) = let next = reply V o c in next.1 ∷ answers_from V next.0 cs

  abbrev pub own_after : View → Option ℕ → List Call → Option ℕ
  own_after V o [] = o
  own_after V o (c ∷ cs) = own_after V (reply V o c).0 cs

  -- the seat's commit in what a call leaves, and the answer
  abbrev pub own_of : State × Answer → Option ℕ × Answer
  own_of x = (committed t x.0 r, x.1)

  own_unless : (s : State) (b : Bool) (a : Refusal) (next : State × Answer) (y : Option ℕ × Answer) → own_of next ≡ y → own_of (unless t b a next s) ≡ check b a y (committed t s r)
  own_unless s true a next y e = e
  own_unless s false a next y e = refl

  module _ (s : State) (few : r < length s.commits) where
    own_with : (o : Option ℕ) → own_of (with_commit t s r o, done) ≡ (o, done)
    own_with o i = (get_or-set_same s.commits r o None few i, done)

    own_commit : (m : ℕ) → own_of (after_commit t s r m) ≡ reply (view s) (committed t s r) (commit r m)
    own_commit m = own_unless s (has_move t r m) _ _ _ (own_unless s (not (is_some t (committed t s r))) _ _ _ (own_unless s (among (own_moves t s r) m) _ _ _ (own_with (Some m))))

    own_retract : own_of (after_retract t s r) ≡ reply (view s) (committed t s r) (retract r)
    own_retract = own_unless s (has_role t r) _ _ _ (own_unless s (is_some t (committed t s r)) _ _ _ (own_with None))

    pub own_reply : (c : Call) → SeatCall r c → own_of (step t s c) ≡ reply (view s) (committed t s r) c
    own_reply (commit q m) e = subst (λ k. own_of (after_commit t s k m) ≡ reply (view s) (committed t s r) (commit k m)) (sym e) (own_commit m)
    own_reply (retract q) e = subst (λ k. own_of (after_retract t s k) ≡ reply (view s) (committed t s r) (retract k)) (sym e) own_retract
    own_reply close e = absurd e
    own_reply tell e = absurd e
    own_reply (moves q) e = subst (λ k. own_of (step t s (moves k)) ≡ reply (view s) (committed t s r) (moves k)) (sym e) refl
    own_reply (known q p) e = subst (λ k. own_of (step t s (known k p)) ≡ reply (view s) (committed t s r) (known k p)) (sym e) refl
    own_reply (common p) e = refl
    own_reply rounds e = refl
    own_reply (holds p) e = absurd e
    own_reply terminal e = absurd e
    own_reply (goal q) e = absurd e
    own_reply plays e = absurd e
