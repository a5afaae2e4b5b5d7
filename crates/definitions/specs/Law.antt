-- The law over runs: what every list of calls on a dealt match comes to.
--     Request               a call, and whether a seat or the host makes it
--     trace                 a run: each request with the state that it met and its answer
--     calls_of, answers_of  what a seat called and was answered while a number of rounds was closed
--     OwnPlayAlone          a seat's answers hang on its own play alone
--     KnownExactly          known is answered exactly if the fact holds in every legal play that the seat can't tell from the real one
--     EitherOrder           two facts that rest on no knowledge can be hinted in either order
--     RealAsCommitted       the real play has the real world and the moves committed at each accepted close
--     Means, StatesMean     what calls look at is what holds and is known in the real play, among the legal plays
--     Referees              all of it together, for every game, deal and list of requests
use Rattle.std.specs.Prelude.{◌≡◌, ℕ, ◌+◌, ◌<◌, ◌≤◌, Bool, true, false, ◌&&◌, List, [], ◌∷◌, map, length, Decides, ◌==◌, slice_index, slice_index_or}
use Rattle.definitions.specs.Lists.{In, any, keep}
use Rattle.definitions.specs.Refusal.{Verdict, accepted, refused}
use Rattle.definitions.specs.Form.{Atom}
use Rattle.definitions.specs.Level.{member, is_knows, rests_on_knowledge}
use Rattle.definitions.specs.Holds.{holds}
use Rattle.definitions.specs.Ruleset.{Game, game_verdict, roles}
use Rattle.definitions.specs.Deal.{Deal, Lawful, standing}
use Rattle.definitions.specs.Knowledge.{in_deal_holds, hint_verdict, LeftByHint}
use Rattle.definitions.specs.Play.{Play, alike, nth, same_play, before, legal_moves, next_book, book, is_player, Plays}
use Rattle.definitions.specs.Match.{Table, State, Call, Answer, step, run, chosen, real_play, real_knowledge, really, own_moves, deal_match}

-- games that a text gives
abbrev pub IsGame : Game → Type 0
IsGame g = (text : List ℕ) × (game_verdict text ≡ accepted g)

pub data Request : Type 0 where
  seat : ℕ → Call → Request
  host : Call → Request

abbrev pub call : Request → Call
call (Request.seat r c) = c
call (Request.host c) = c

-- a seat commits and retracts for itself, and asks for its own moves, what it knows, what is common and how many rounds are closed
abbrev pub SeatCall : ℕ → Call → Type 0
SeatCall r (Call.commit q m) = q ≡ r
SeatCall r (Call.retract q) = q ≡ r
SeatCall r Call.close = ⊥
SeatCall r Call.tell = ⊥
SeatCall r (Call.moves q) = q ≡ r
SeatCall r (Call.known q p) = q ≡ r
SeatCall r (Call.common p) = Unit {0}
SeatCall r Call.rounds = Unit {0}
SeatCall r (Call.holds p) = ⊥
SeatCall r Call.terminal = ⊥
SeatCall r (Call.goal q) = ⊥
SeatCall r Call.plays = ⊥

-- the host closes, tells, and asks what holds, whether the play is terminal, for a goal value and for the number of plays
abbrev pub HostCall : Call → Type 0
HostCall (Call.commit q m) = ⊥
HostCall (Call.retract q) = ⊥
HostCall Call.close = Unit {0}
HostCall Call.tell = Unit {0}
HostCall (Call.moves q) = ⊥
HostCall (Call.known q p) = ⊥
HostCall (Call.common p) = ⊥
HostCall Call.rounds = ⊥
HostCall (Call.holds p) = Unit {0}
HostCall Call.terminal = Unit {0}
HostCall (Call.goal q) = Unit {0}
HostCall Call.plays = Unit {0}

abbrev pub Proper : Request → Type 0
Proper (Request.seat r c) = SeatCall r c
Proper (Request.host c) = HostCall c

abbrev pub AllProper : List Request → Type 0
AllProper rs = (r : Request) → In r rs → Proper r

-- each call meets the match that the one before it left, refused or not
pub record Event : Type 0 where
  pub met : State
  pub request : Request
  pub answer : Answer

abbrev pub trace : Table → State → List Request → List Event
trace t s [] = []
trace t s (r ∷ rs) =
    let next = step t s (call r) in
    record { met = s; request = r; answer = next.1 } ∷ trace t next.0 rs

abbrev pub end : Table → State → List Request → State
end t s [] = s
end t s (r ∷ rs) = end t (step t s (call r)).0 rs

abbrev pub by_seat : ℕ → Request → Bool
by_seat r (Request.seat q c) = q == r
by_seat r (Request.host c) = false

-- the events of a seat while n rounds are closed
abbrev pub events_of : ℕ → ℕ → List Event → List Event
events_of r n es = keep (λ e. by_seat r e.request && e.met.closed == n) es

abbrev pub calls_of : ℕ → ℕ → List Event → List Call
calls_of r n es = map (λ e. call e.request) (events_of r n es)

abbrev pub answers_of : ℕ → ℕ → List Event → List Answer
answers_of r n es = map (λ e. e.answer) (events_of r n es)

-- the joint moves that were committed when rounds were closed
abbrev pub is_close : Call → Bool
is_close (Call.commit q m) = false
is_close (Call.retract q) = false
is_close Call.close = true
is_close Call.tell = false
is_close (Call.moves q) = false
is_close (Call.known q p) = false
is_close (Call.common p) = false
is_close Call.rounds = false
is_close (Call.holds p) = false
is_close Call.terminal = false
is_close (Call.goal q) = false
is_close Call.plays = false

abbrev pub is_done : Answer → Bool
is_done Answer.done = true
is_done (Answer.row ns) = false
is_done (Answer.bits b) = false
is_done (Answer.flag b) = false
is_done (Answer.count m) = false
is_done (Answer.value v) = false
is_done (Answer.refusal r) = false

abbrev pub closing_moves : Table → List Event → List (List ℕ)
closing_moves t es = map (λ e. chosen t e.met) (keep (λ e. is_close (call e.request) && is_done e.answer) es)

-- the real play has the real world and the moves committed at each accepted close
abbrev pub RealAsCommitted : Type 0
RealAsCommitted =
    (t : Table) → IsGame t.game → Lawful t.deal → (s : State) → deal_match t ≡ accepted s → (xs : List Request)
    → ((real_play t (end t s xs)).world ≡ t.deal.seats.real)
    × (map (λ u. u.moves) (real_play t (end t s xs)).turns ≡ closing_moves t (trace t s xs))
    × ((end t s xs).closed ≡ length (closing_moves t (trace t s xs)))

-- what a role saw in a round of the real play
abbrev pub saw : Table → State → ℕ → ℕ → ℕ
saw t s r n = slice_index (slice_index_or (real_play t s).turns n (record { moves = []; seen = [] })).seen r

-- two tables with the same rules, places and deal, but for real worlds within one class of r
pub record Twins (r : ℕ) (t u : Table) : Type 0 where
  pub game : t.game ≡ u.game
  pub places : t.places ≡ u.places
  pub deck : t.deal.deck ≡ u.deal.deck
  pub classes : t.deal.seats.class ≡ u.deal.seats.class
  pub class : t.deal.seats.class r t.deal.seats.real ≡ t.deal.seats.class r u.deal.seats.real

abbrev pub OwnPlayAlone : Type 0
OwnPlayAlone =
    (t u : Table) (r : ℕ) → IsGame t.game → Lawful t.deal → Lawful u.deal → r < roles t.game → is_player t.game r ≡ true → Twins r t u
    → (s v : State) → deal_match t ≡ accepted s → deal_match u ≡ accepted v
    → (xs ys : List Request) → AllProper xs → AllProper ys
    → ((n : ℕ) → calls_of r n (trace t s xs) ≡ calls_of r n (trace u v ys))
    → ((n : ℕ) → n < (end t s xs).closed → n < (end u v ys).closed → saw t (end t s xs) r n ≡ saw u (end u v ys) r n)
    → (n : ℕ) → answers_of r n (trace t s xs) ≡ answers_of r n (trace u v ys)

-- what a state of a match stands for, by any reading of which plays are legal and what is known in them: the book has exactly the legal plays of as many rounds, each once, and what calls look at is what holds and is known in the real play
pub record Means (t : Table) (s : State) (L : ℕ → Play → Bool) (K : ℕ → Play → List (Atom ℕ)) : Type 0 where
  pub plays : (p : Play) → any (λ q. same_play q p) s.plays ≡ L s.closed p
  pub once : (i j : ℕ) → i < j → j < length s.plays → same_play (nth s.plays i) (nth s.plays j) ≡ false
  pub next : next_book t.game t.deal s.plays ≡ book t.game t.deal (s.closed + 1)
  pub real : L s.closed (real_play t s) ≡ true
  pub moves : (r : ℕ) → own_moves t s r ≡ legal_moves t.game (real_play t s) (K s.closed (real_play t s)) r
  pub holding : (a : Atom ℕ) → is_knows a ≡ false → really t s a ≡ holds t.game.rules (before t.game (real_play t s) (K s.closed (real_play t s))) a
  pub known : (r p : ℕ) → r < roles t.game → p < length t.game.names.facts → member (real_knowledge t s) (Atom.knows r p) ≡ member (K s.closed (real_play t s)) (Atom.knows r p)
  pub common : (p : ℕ) → p < length t.game.names.facts → member (real_knowledge t s) (Atom.common p) ≡ member (K s.closed (real_play t s)) (Atom.common p)

abbrev pub StatesMean : Type 0
StatesMean =
    (t : Table) → IsGame t.game → Lawful t.deal → (s : State) → deal_match t ≡ accepted s → (xs : List Request)
    → (L : ℕ → Play → Bool) (K : ℕ → Play → List (Atom ℕ)) → Plays t.game t.deal L K
    → Means t (end t s xs) L K

abbrev pub KnownExactly : Type 0
KnownExactly =
    (t : Table) → IsGame t.game → Lawful t.deal → (s : State) → deal_match t ≡ accepted s → (xs : List Request)
    → (L : ℕ → Play → Bool) (K : ℕ → Play → List (Atom ℕ)) → Plays t.game t.deal L K
    → (r p : ℕ) → r < roles t.game → p < length t.game.names.facts
    → let now_at = end t s xs in
    (b : Bool)
    × ((step t now_at (Call.known r p)).1 ≡ Answer.flag b)
    × Decides b ((q : Play) → L now_at.closed q ≡ true → alike t.deal r (real_play t now_at) q ≡ true → holds t.game.rules (before t.game q (K now_at.closed q)) (Atom.fact p) ≡ true)

-- a match from a deal
abbrev pub on : Game → ℕ → Deal → Table
on g places d = record { game = g; deal = d; places = places }

-- both begin alike, or are refused alike, and then answer every list of calls alike
abbrev pub BothAnswer : Table → Table → Verdict State → Verdict State → Type 0
BothAnswer t u (accepted s) (accepted v) = (cs : List Call) → run t s cs ≡ run u v cs
BothAnswer t u (accepted s) (refused q) = ⊥
BothAnswer t u (refused p) (accepted v) = ⊥
BothAnswer t u (refused p) (refused q) = p ≡ q

-- until a round closes a fact is common knowledge
abbrev pub CommonFirst : Table → ℕ → Verdict State → Type 0
CommonFirst t p (accepted s) = (xs : List Request) → (end t s xs).closed ≡ 0 → (step t (end t s xs) (Call.common p)).1 ≡ Answer.flag true
CommonFirst t p (refused q) = Unit {0}

-- h is left when p is hinted over d and then q over what that leaves, with a work row for each
pub record Hinted (g : Game) (d : Deal) (p q p_row q_row : ℕ) (h : Deal) : Type 0 where
  pub one : Deal
  pub first : hint_verdict g d p p_row ≡ accepted one
  pub first_leaves : LeftByHint g d p one
  pub second : hint_verdict g one q q_row ≡ accepted h
  pub second_leaves : LeftByHint g one q h
  pub left : standing h ≡ keep (λ w. in_deal_holds g d p w && in_deal_holds g d q w) (standing d)

abbrev pub EitherOrder : Type 0
EitherOrder =
    (g : Game) (d : Deal) (p q p_row q_row places : ℕ) → IsGame g → Lawful d
    → p < length g.names.facts → q < length g.names.facts
    → rests_on_knowledge g.rules p ≡ false → rests_on_knowledge g.rules q ≡ false
    → in_deal_holds g d p d.seats.real ≡ true → in_deal_holds g d q d.seats.real ≡ true
    → d.deck.size ≤ p_row → d.deck.size ≤ q_row
    → (h k : Deal) × Hinted g d p q p_row q_row h × Hinted g d q p q_row p_row k
    × BothAnswer (on g places h) (on g places k) (deal_match (on g places h)) (deal_match (on g places k))
    × CommonFirst (on g places h) p (deal_match (on g places h))
    × CommonFirst (on g places h) q (deal_match (on g places h))

pub record Referees : Type 0 where
  pub real_as_committed : RealAsCommitted
  pub states_mean : StatesMean
  pub own_play_alone : OwnPlayAlone
  pub known_exactly : KnownExactly
  pub either_order : EitherOrder
