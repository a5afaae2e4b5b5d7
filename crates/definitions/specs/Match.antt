-- A match: its calls, what each leaves and what each answers.
--     Table            what a match is played with: the rules, the deal and the places for plays
--     State            where it stands: the round's book, the real play, the commits, whether the last round is untold
--     Call, Answer     what a seat or the host may call, and what comes back
--     step             the state after a call and its answer
--     Row, books       what book and spare book hold after a deal or a call
--     deal_match       the state in which a match begins
use Rattle.std.specs.Prelude.{ℕ, suc, ◌+◌, min, Bool, true, false, cond, not, ◌&&◌, List, [], ◌∷◌, map, length, take, replicate, Some, None, Option, nat_le, nat_lt, slice_index, slice_index_or, slice_set}
use Rattle.definitions.specs.Refusal.{Refusal, Verdict, accepted, refused}
use Rattle.definitions.specs.Form.{Atom, same_word}
use Rattle.definitions.specs.Lists.{joined, keep, upto}
use Rattle.definitions.specs.Level.{member}
use Rattle.definitions.specs.Holds.{holds as model}
use Rattle.definitions.specs.Ruleset.{Game, roles}
use Rattle.definitions.specs.Deal.{Deal, standing, among, state_where}
use Rattle.definitions.specs.Knowledge.{index, in_match}
use Rattle.definitions.specs.Play.{Turn, Play, nth, before, legal_moves, joint_moves, successors, knowledge, each_with, next_book, book, class_number, uneven}

pub record Table : Type 0 where
  pub game : Game
  pub deal : Deal
  pub places : ℕ

-- the places for plays that a book and a spare book give
abbrev pub places_of : ℕ → ℕ → ℕ
places_of book spare = min 4096 (min book spare)

-- `real` is the number of the real play in the book; a role's commit is the number of its move; the last round is untold while the slip that its close handed out has not been told
pub record State : Type 0 where
  pub closed : ℕ
  pub plays : List Play
  pub real : ℕ
  pub commits : List (Option ℕ)
  pub untold : Bool

pub data Call : Type 0 where
  commit : ℕ → ℕ → Call
  retract : ℕ → Call
  close : Call
  tell : Call
  moves : ℕ → Call
  known : ℕ → ℕ → Call
  common : ℕ → Call
  rounds : Call
  holds : ℕ → Call
  terminal : Call
  goal : ℕ → Call
  plays : Call

-- `row` is what tell writes, for each of eight roles; `value` is a goal value or its absence
pub data Answer : Type 0 where
  done : Answer
  row : List ℕ → Answer
  bits : ℕ → Answer
  flag : Bool → Answer
  count : ℕ → Answer
  value : Option ℕ → Answer
  refusal : Refusal → Answer

-- a play as a book holds it: its state, and its class for each of eight roles
pub record Row : Type 0 where
  pub state : ℕ
  pub classes : List ℕ

abbrev pub zero_row : Row
zero_row = record { state = 0; classes = replicate 8 0 }

abbrev pub no_commits : List (Option ℕ)
no_commits = None ∷ None ∷ None ∷ None ∷ None ∷ None ∷ None ∷ None ∷ []

module _ (t : Table) where
  abbrev pub g : Game
  g = t.game

  -- the knowledge set of the real play
  abbrev pub real_knowledge : State → List (Atom ℕ)
  real_knowledge s = slice_index_or (knowledge g t.deal s.plays) s.real []

  abbrev pub real_play : State → Play
  real_play s = nth s.plays s.real

  -- what holds in the real play
  abbrev pub really : State → Atom ℕ → Bool
  really s = model g.rules (before g (real_play s) (real_knowledge s))

  abbrev pub own_moves : State → ℕ → List ℕ
  own_moves s r = legal_moves g (real_play s) (real_knowledge s) r

  abbrev pub has_role : ℕ → Bool
  has_role r = nat_lt r (roles g)

  abbrev pub has_move : ℕ → ℕ → Bool
  has_move r m = has_role r && nat_lt m (length (slice_index_or g.names.moves r []))

  abbrev pub has_fact : ℕ → Bool
  has_fact p = nat_lt p (length g.names.facts)

  abbrev pub with_commit : State → ℕ → Option ℕ → State
  with_commit s r c = record { closed = s.closed; plays = s.plays; real = s.real; commits = slice_set s.commits r c; untold = s.untold }

  abbrev pub committed : State → ℕ → Option ℕ
  committed s r = slice_index_or s.commits r None

  abbrev pub is_some : Option ℕ → Bool
  is_some None = false
  is_some (Some m) = true

  -- the first test that fails refuses
  abbrev pub unless : Bool → Refusal → State × Answer → State → State × Answer
  unless true r next s = next
  unless false r next s = (s, refusal r)

  abbrev pub after_commit : State → ℕ → ℕ → State × Answer
  after_commit s r m =
      unless (has_move r m) (in_match 14 0)
      (unless (not (is_some (committed s r))) (in_match 15 0)
      (unless (among (own_moves s r) m) (in_match 16 0)
      (with_commit s r (Some m), done) s) s) s

  abbrev pub after_retract : State → ℕ → State × Answer
  after_retract s r =
      unless (has_role r) (in_match 14 0)
      (unless (is_some (committed s r)) (in_match 17 0)
      (with_commit s r None, done) s) s

  -- the lowest role of the rules without a commit
  abbrev pub missing : State → List ℕ → Option ℕ
  missing s [] = None
  missing s (r ∷ rs) = elim (committed s r) [ None ↦ Some r | Some m ↦ missing s rs ]

  -- the committed joint move
  abbrev pub chosen : State → List ℕ
  chosen s = map (λ r. elim (committed s r) [ None ↦ 0 | Some m ↦ m ]) (upto (roles g))

  abbrev pub position_of : List (List ℕ) → List ℕ → ℕ
  position_of [] js = 0
  position_of (k ∷ ks) js = cond (same_word k js) 0 (suc (position_of ks js))

  -- the real play goes on with the committed moves: those of the plays before it come first
  abbrev pub next_real : State → ℕ
  next_real s =
      let Ks = knowledge g t.deal s.plays in
      length (joined (λ qs. qs) (each_with g (successors g) (take s.real s.plays) Ks))
      + position_of (joint_moves g (real_play s) (slice_index_or Ks s.real [])) (chosen s)

  abbrev pub closed_with : State → List Play → State
  closed_with s ps = record { closed = s.closed + 1; plays = ps; real = next_real s; commits = no_commits; untold = true }

  -- refused at the role, if there is one
  abbrev pub refused_if : Option ℕ → ℕ → State × Answer → State → State × Answer
  refused_if None n next s = next
  refused_if (Some r) n next s = (s, refusal (in_match n r))

  abbrev pub after_close : State → State × Answer
  after_close s =
      let ps = next_book g t.deal s.plays in
      unless (not s.untold) (in_match 18 0)
      (refused_if (missing s (upto (roles g))) 19
      (unless (nat_lt s.closed 64) (in_match 20 0)
      (unless (nat_le (length ps) t.places) (in_match 12 0)
      (refused_if (uneven g t.deal ps) 13 (closed_with s ps, done) s) s) s) s) s

  -- the percepts of the last closed round, zero for roles and before rounds that are not there
  abbrev pub last_seen : List Turn → List ℕ
  last_seen [] = []
  last_seen (u ∷ []) = u.seen
  last_seen (u ∷ v ∷ us) = last_seen (v ∷ us)

  abbrev pub told : State → List ℕ
  told s = map (λ r. slice_index (last_seen (real_play s).turns) r) (upto 8)

  abbrev pub all_told : State → State
  all_told s = record { closed = s.closed; plays = s.plays; real = s.real; commits = s.commits; untold = false }

  -- a question about numbers that the rules do not have is refused
  abbrev pub asked_of : Bool → Answer → Answer
  asked_of true a = a
  asked_of false a = refusal (in_match 14 0)

  -- no value, one, or more than one
  abbrev pub goal_answer : List ℕ → Answer
  goal_answer [] = value None
  goal_answer (v ∷ []) = value (Some v)
  goal_answer (v ∷ w ∷ vs) = refusal (in_match 23 0)

  abbrev pub goal_values : State → ℕ → List ℕ
  goal_values s r = let now_true = really s in keep (λ v. now_true (Atom.goal r v)) (upto 101)

  abbrev pub step : State → Call → State × Answer
  step s (commit r m) = after_commit s r m
  step s (retract r) = after_retract s r
  step s close = after_close s
  step s tell = (all_told s, row (told s))
  step s (moves r) = (s, asked_of (has_role r) (bits (let ms = own_moves s r in state_where (among ms) (upto 32))))
  step s (known r p) = (s, asked_of (has_role r && has_fact p) (flag (member (real_knowledge s) (Atom.knows r p))))
  step s (common p) = (s, asked_of (has_fact p) (flag (member (real_knowledge s) (Atom.common p))))
  step s rounds = (s, count s.closed)
  step s (holds p) = (s, asked_of (has_fact p) (flag (really s (Atom.fact p))))
  step s terminal = (s, flag (really s Atom.terminal))
  step s (goal r) = (s, asked_of (has_role r) (goal_answer (goal_values s r)))
  step s plays = (s, count (length s.plays))

  -- what the book holds, a row for each place: the plays' states and classes, and zeros past them; the spare book holds zeros alone
  abbrev pub book_row : State → ℕ → Row
  book_row s i = record {
    state = (nth s.plays i).state;
    classes = map (λ r. cond (nat_lt r (roles g)) (class_number t.deal r s.plays i) 0) (upto 8);
  }

  abbrev pub book_rows : State → ℕ → List Row
  book_rows s n = map (λ i. cond (nat_lt i (length s.plays)) (book_row s i) zero_row) (upto n)

  -- a book and a spare book of the given lengths, after a deal or a call: a refused deal leaves both zero, and a refused call leaves the state and so the book
  abbrev pub books : Verdict State → ℕ → ℕ → List Row × List Row
  books (accepted s) n m = (book_rows s n, replicate m zero_row)
  books (refused r) n m = (replicate n zero_row, replicate m zero_row)

  abbrev pub run : State → List Call → List Answer
  run s [] = []
  run s (c ∷ cs) = let next = step s c in next.1 ∷ run next.0 cs

  abbrev pub first_state : State
  first_state = record { closed = 0; plays = book g t.deal 0; real = index (standing t.deal) t.deal.seats.real; commits = no_commits; untold = false }

  abbrev pub even_state : Option ℕ → State → Verdict State
  even_state None s = accepted s
  even_state (Some r) s = refused (in_match 13 r)

  abbrev pub deal_match : Verdict State
  deal_match =
      let s = first_state in
      cond (nat_le (length s.plays) t.places) (even_state (uneven g t.deal s.plays) s) (refused (in_match 12 0))
