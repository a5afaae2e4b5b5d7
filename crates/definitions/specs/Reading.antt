-- The verdict on a text, byte by byte, and the law that it is the one that the grammar gives.
--     Mode, step       what is being read, and what the next byte makes of it
--     reading          the verdict on the bytes that are left
--     verdict          the verdict on a text
--     Decided          each text is read, in one way, or refused, in one way, and never both
use Rattle.std.specs.Prelude.{◌≡◌, ℕ, ◌+◌, cond, List, [], ◌∷◌, ◌++◌, length, ◌==◌, nat_le, nat_lt}
use Rattle.definitions.specs.Refusal.{Refusal, Verdict, accepted, refused, AtVerdict}
use Rattle.definitions.specs.Term.{Tree, none, ◌&◌, Placed, ◌▹◌}
use Rattle.definitions.specs.Text.{Sort, letter, divider, opening, closing, semicolon, question, odd, sort, in_words, Levels, outer, inner, open_brackets, in_text, Reads, Refused}

-- a word in progress has its place and its bytes so far
pub data Mode : Type 0 where
  between : Mode
  in_word : ℕ → List ℕ → Mode
  in_comment : Mode

pub data Step : Type 0 where
  next : Mode → Levels → Step
  stop : Refusal → Step

-- one more term, in the innermost bracket that is open
abbrev pub add : Levels → Tree ℕ → Levels
add (outer ts) t = outer (ts ▹ t)
add (inner ls at ts) t = inner ls at (ts ▹ t)

-- the levels with the word in progress, if any
abbrev pub settle : Mode → Levels → Levels
settle between ls = ls
settle (in_word from w) ls = add ls (Tree.word from w)
settle in_comment ls = ls

abbrev pub shut : ℕ → Levels → Step
shut at (outer ts) = stop (in_text 4 at)
shut at (inner ls from none) = stop (in_text 4 at)
shut at (inner ls from (t & ts)) = next between (add ls (Tree.pair from (t & ts)))

-- what a byte does that stands in no word and no comment
abbrev pub mark : ℕ → ℕ → Levels → Sort → Step
mark at b ls letter = next (in_word at (b ∷ [])) ls
mark at b ls divider = next between ls
mark at b ls opening = cond (nat_lt (open_brackets ls) 8) (next between (inner ls at none)) (stop (in_text 5 at))
mark at b ls closing = shut at ls
mark at b ls semicolon = next in_comment ls
mark at b ls question = stop (in_text 3 at)
mark at b ls odd = stop (in_text 2 at)

abbrev pub step : ℕ → Mode → Levels → ℕ → Step
step at between ls b = mark at b ls (sort b)
step at (in_word from w) ls b = cond (in_words (sort b)) (next (in_word from (w ++ b ∷ [])) ls) (mark at b (add ls (Tree.word from w)) (sort b))
step at in_comment ls b = cond (b == 10) (next between ls) (next in_comment ls)

abbrev pub ended : Levels → Verdict Placed
ended (outer ts) = accepted ts
ended (inner ls at ts) = refused (in_text 4 at)

abbrev pub reading : ℕ → Mode → Levels → List ℕ → Verdict Placed
reading at m ls [] = ended (settle m ls)
reading at m ls (b ∷ bs) = elim (step at m ls b) [ next n ks ↦ reading (at + 1) n ks bs | stop r ↦ refused r ]

abbrev pub verdict : List ℕ → Verdict Placed
verdict text = cond (nat_le (length text) 32768) (reading 0 between (outer none) text) (refused (in_text 1 32768))

pub record OnlyRead (text : List ℕ) (ts : Placed) : Type 0 where
  pub reads : Reads text ts
  pub alone : (us : Placed) → Reads text us → us ≡ ts
  pub never : (r : Refusal) → Refused text r → ⊥

pub record OnlyRefused (text : List ℕ) (r : Refusal) : Type 0 where
  pub refuses : Refused text r
  pub alone : (q : Refusal) → Refused text q → q ≡ r
  pub never : (ts : Placed) → Reads text ts → ⊥

abbrev pub Decided : Type 0
Decided = (text : List ℕ) → AtVerdict (verdict text) (OnlyRead text) (OnlyRefused text)
