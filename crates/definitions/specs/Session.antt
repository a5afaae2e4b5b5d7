-- A session: records of bytes, served one after another, and the lines that are printed.
--     body_length, call_of  a record's body by its letter, and the call that it makes
--     line                  the line of a record
--     session               the lines of a session, from a game's text and the bytes that come in
use Rattle.std.specs.Prelude.{ℕ, zero, suc, ◌+◌, ◌*◌, true, false, cond, List, [], ◌∷◌, ◌++◌, length, take, drop, Some, None, codes, decimal, Option, ◌==◌, nat_le, slice_index}
use Rattle.definitions.specs.Refusal.{Refusal, accepted, refused}
use Rattle.definitions.specs.Ruleset.{Game, roles, game_verdict}
use Rattle.definitions.specs.Deal.{opening}
use Rattle.definitions.specs.Knowledge.{in_match}
use Rattle.definitions.specs.Law.{is_done}
use Rattle.definitions.specs.Match.{Table, State, Call, Answer, step, deal_match}

-- the letters of records: commit, retract, close with tell, known, common, holds, moves, terminal, goal
abbrev pub body_length : ℕ → Option ℕ
body_length k =
    cond (k == 67) (Some 2)
    (cond (k == 85) (Some 1)
    (cond (k == 88) (Some 0)
    (cond (k == 75) (Some 3)
    (cond (k == 65) (Some 2)
    (cond (k == 72) (Some 2)
    (cond (k == 77) (Some 1)
    (cond (k == 84) (Some 0)
    (cond (k == 71) (Some 1) None))))))))

abbrev pub byte : List ℕ → ℕ → ℕ
byte b i = slice_index b i

abbrev pub fact_at : List ℕ → ℕ → ℕ
fact_at b i = byte b i * 256 + byte b (i + 1)

abbrev pub call_of : ℕ → List ℕ → Call
call_of k b =
    cond (k == 67) (Call.commit (byte b 0) (byte b 1))
    (cond (k == 85) (Call.retract (byte b 0))
    (cond (k == 88) Call.close
    (cond (k == 75) (Call.known (byte b 0) (fact_at b 1))
    (cond (k == 65) (Call.common (fact_at b 0))
    (cond (k == 72) (Call.holds (fact_at b 0))
    (cond (k == 77) (Call.moves (byte b 0))
    (cond (k == 84) Call.terminal (Call.goal (byte b 0)))))))))

-- a space and a number, again and again
abbrev pub spaced : List ℕ → List ℕ
spaced [] = []
spaced (n ∷ ns) = 32 ∷ (decimal n ++ spaced ns)

abbrev pub shown : ℕ → Answer → List ℕ
shown n Answer.done = codes " 0"
shown n (Answer.row ns) = spaced (take n ns)
shown n (Answer.bits b) = 32 ∷ decimal b
shown n (Answer.flag true) = codes " 1"
shown n (Answer.flag false) = codes " 0"
shown n (Answer.count m) = 32 ∷ decimal m
shown n (Answer.value None) = codes " none"
shown n (Answer.value (Some v)) = 32 ∷ decimal v
shown n (Answer.refusal r) = codes " -" ++ decimal r.number

abbrev pub line : ℕ → ℕ → Answer → List ℕ
line n k a = k ∷ (shown n a ++ 10 ∷ [])

abbrev pub fault_line : Refusal → List ℕ
fault_line r = codes "! " ++ (decimal r.number ++ (32 ∷ (decimal r.place ++ 10 ∷ [])))

-- a close that is accepted is told at once, and what is told is shown
abbrev pub told_after : Table → State × Answer → State × Answer
told_after t r = elim (is_done r.1) [ true ↦ step t r.0 Call.tell | false ↦ r ]

abbrev pub served : Table → State → ℕ → List ℕ → State × Answer
served t s k b = cond (k == 88) (told_after t (step t s Call.close)) (step t s (call_of k b))

-- the records that are left, of which the first stands at place p
abbrev pub lines : Table → ℕ → ℕ → State → List ℕ → List ℕ
lines t fuel p s [] = []
lines t zero p s (k ∷ bs) = fault_line (in_match 24 p)
lines t (suc fuel) p s (k ∷ bs) = elim (body_length k) [
  | None ↦ fault_line (in_match 24 p)
  | Some n ↦ elim (nat_le n (length bs)) [
    | false ↦ fault_line (in_match 24 p)
    | true ↦ let r = served t s k (take n bs) in line (roles t.game) k r.1 ++ lines t fuel (p + 1 + n) r.0 (drop n bs)
  ]
]

abbrev pub within_limit : Table → State → List ℕ → List ℕ
within_limit t s bs = cond (nat_le (length bs) 8192) (lines t (length bs) 0 s bs) (fault_line (in_match 24 8192))

-- a hall deals a game from its opening with 512 places
abbrev pub hall_table : Game → Table
hall_table g = record { game = g; deal = opening g; places = 512 }

abbrev pub session : List ℕ → List ℕ → List ℕ
session text bs = elim (game_verdict text) [
  | refused r ↦ fault_line r
  | accepted g ↦ elim (deal_match (hall_table g)) [ refused r ↦ fault_line r | accepted s ↦ within_limit (hall_table g) s bs ]
]
