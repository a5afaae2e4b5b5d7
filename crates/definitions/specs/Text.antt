-- What a text is: bytes that are cut into words, brackets, dividers and comments, and the terms that these spell.
--     Sort, sort        the sorts of bytes
--     Piece, Cuts       a text cut into pieces
--     Token, tokens     its words and brackets, with their places
--     flat, flats       the words and brackets of a term and of a list of terms
--     Reads             a text reads as a list of placed terms
--     Levels, Begins    the beginning of a text, some brackets still open
--     Refused           what is wrong with any other text, and where
use Rattle.std.specs.Prelude.{◌≡◌, ℕ, suc, ◌+◌, ◌<◌, ◌≤◌, Bool, true, false, cond, ◌&&◌, ◌||◌, List, [], ◌∷◌, ◌++◌, length, ◌==◌, nat_le}
use Rattle.definitions.specs.Refusal.{Refusal, text_layer}
use Rattle.definitions.specs.Term.{Tree, Trees, none, ◌&◌, Placed, Fits}

pub data Sort : Type 0 where
  letter : Sort
  divider : Sort
  opening : Sort
  closing : Sort
  semicolon : Sort
  question : Sort
  odd : Sort

-- space, tab, line feed and carriage return divide; of the bytes from 33 to 126 all but brackets and the semicolon make words, the question mark too
abbrev pub sort : ℕ → Sort
sort b =
    cond (b == 32 || b == 9 || b == 10 || b == 13) divider
    (cond (b == 40) opening
    (cond (b == 41) closing
    (cond (b == 59) semicolon
    (cond (b == 63) question
    (cond (nat_le 33 b && nat_le b 126) letter odd)))))

abbrev pub in_words : Sort → Bool
in_words letter = true
in_words divider = false
in_words opening = false
in_words closing = false
in_words semicolon = false
in_words question = true
in_words odd = false

pub data Piece : Type 0 where
  word : ℕ → List ℕ → Piece
  opening : Piece
  closing : Piece
  divider : ℕ → Piece
  comment : List ℕ → Piece

-- a word is its first byte and the others, and a comment what follows the semicolon
abbrev pub bytes : Piece → List ℕ
bytes (Piece.word b bs) = b ∷ bs
bytes Piece.opening = 40 ∷ []
bytes Piece.closing = 41 ∷ []
bytes (Piece.divider b) = b ∷ []
bytes (Piece.comment bs) = 59 ∷ bs

abbrev pub All : (ℕ → Type 0) → List ℕ → Type 0
All P [] = Unit {0}
All P (b ∷ bs) = P b × All P bs

-- no word starts with a question mark, and no comment runs past a line feed
abbrev pub Sound : Piece → Type 0
Sound (Piece.word b bs) = (sort b ≡ letter) × All (λ x. in_words (sort x) ≡ true) bs
Sound Piece.opening = Unit {0}
Sound Piece.closing = Unit {0}
Sound (Piece.divider b) = sort b ≡ divider
Sound (Piece.comment bs) = All (λ x. (x == 10) ≡ false) bs

-- how the pieces so far end: between words, in a word or in a comment
pub data Stand : Type 0 where
  between : Stand
  in_word : Stand
  in_comment : Stand

abbrev pub ends : Piece → Stand
ends (Piece.word b bs) = in_word
ends Piece.opening = between
ends Piece.closing = between
ends (Piece.divider b) = between
ends (Piece.comment bs) = in_comment

abbrev pub stand : Stand → List Piece → Stand
stand s [] = s
stand s (p ∷ ps) = stand (ends p) ps

-- what may come next: no word touches a word, and a comment runs to a line feed
abbrev pub Next : Stand → Piece → Type 0
Next between p = Unit {0}
Next in_word (Piece.word c cs) = ⊥
Next in_word Piece.opening = Unit {0}
Next in_word Piece.closing = Unit {0}
Next in_word (Piece.divider c) = Unit {0}
Next in_word (Piece.comment cs) = Unit {0}
Next in_comment (Piece.word c cs) = ⊥
Next in_comment Piece.opening = ⊥
Next in_comment Piece.closing = ⊥
Next in_comment (Piece.divider c) = c ≡ 10
Next in_comment (Piece.comment cs) = ⊥

abbrev pub Chained : Stand → List Piece → Type 0
Chained s [] = Unit {0}
Chained s (p ∷ ps) = Next s p × Chained (ends p) ps

-- the pieces joined are the text, each is sound, and each may stand next to the one after it
abbrev pub joined : List Piece → List ℕ
joined [] = []
joined (p ∷ ps) = bytes p ++ joined ps

abbrev pub Each : List Piece → Type 0
Each [] = Unit {0}
Each (p ∷ ps) = Sound p × Each ps

pub record Cuts (ps : List Piece) (text : List ℕ) : Type 0 where
  pub whole : joined ps ≡ text
  pub sound : Each ps
  pub longest : Chained between ps

pub data Token : Type 0 where
  word : ℕ → List ℕ → Token
  opening : ℕ → Token
  closing : Token

-- the words and brackets among pieces of which the first stands at the given place
abbrev pub tokens : ℕ → List Piece → List Token
tokens at [] = []
tokens at (Piece.word b bs ∷ ps) = Token.word at (b ∷ bs) ∷ tokens (at + suc (length bs)) ps
tokens at (Piece.opening ∷ ps) = Token.opening at ∷ tokens (at + 1) ps
tokens at (Piece.closing ∷ ps) = Token.closing ∷ tokens (at + 1) ps
tokens at (Piece.divider b ∷ ps) = tokens (at + 1) ps
tokens at (Piece.comment bs ∷ ps) = tokens (at + suc (length bs)) ps

abbrev mutual
  pub flat : Tree ℕ → List Token
  flat (Tree.word at w) = Token.word at w ∷ []
  flat (Tree.pair at ts) = Token.opening at ∷ (flats ts ++ Token.closing ∷ [])

  pub flats : Trees ℕ → List Token
  flats none = []
  flats (t & ts) = flat t ++ flats ts

-- a text of at most 32,768 bytes reads as the terms whose words and brackets are its own, in order and in place, none empty and none more than eight deep
pub record Reads (text : List ℕ) (ts : Placed) : Type 0 where
  pub short : length text ≤ 32768
  pub pieces : List Piece
  pub cut : Cuts pieces text
  pub spells : tokens 0 pieces ≡ flats ts
  pub fits : Fits 0 ts

-- the terms that stand in no bracket, and then for each bracket that is still open its place and the terms in it so far
pub data Levels : Type 0 where
  outer : Placed → Levels
  inner : Levels → ℕ → Placed → Levels

abbrev pub open_brackets : Levels → ℕ
open_brackets (outer ts) = 0
open_brackets (inner ls at ts) = suc (open_brackets ls)

-- the words and brackets of levels, in order
abbrev pub spread : Levels → List Token
spread (outer ts) = flats ts
spread (inner ls at ts) = spread ls ++ Token.opening at ∷ flats ts

-- what is read so far goes at most eight deep and has no empty pair that is closed
abbrev pub Hold : Levels → Type 0
Hold (outer ts) = Fits 0 ts
Hold (inner ls at ts) = Hold ls × (open_brackets ls < 8) × Fits (suc (open_brackets ls)) ts

-- a beginning in which nothing is wrong
pub record Begins (front : List ℕ) (ps : List Piece) (ls : Levels) : Type 0 where
  pub cut : Cuts ps front
  pub spells : tokens 0 ps ≡ spread ls
  pub holds : Hold ls

-- the pieces do not end in a comment
abbrev pub Outside : List Piece → Type 0
Outside ps = stand between ps ≡ in_comment → ⊥

-- with nothing wrong so far, reading comes to the byte b at the given place
pub record Meets (text : List ℕ) (b at : ℕ) (ps : List Piece) (ls : Levels) : Type 0 where
  pub short : length text ≤ 32768
  pub front : List ℕ
  pub rest : List ℕ
  pub split : text ≡ front ++ b ∷ rest
  pub place : length front ≡ at
  pub begins : Begins front ps ls

abbrev pub in_text : ℕ → ℕ → Refusal
in_text n at = record { number = n; layer = text_layer; place = at }

pub data Refused (text : List ℕ) : Refusal → Type 0 where
  too_long : 32768 < length text → Refused text (in_text 1 32768)
  odd_byte : {b at : ℕ} {ps : List Piece} {ls : Levels} → Meets text b at ps ls → Outside ps → sort b ≡ odd → Refused text (in_text 2 at)
  variable : {b at : ℕ} {ps : List Piece} {ls : Levels} → Meets text b at ps ls → stand between ps ≡ between → sort b ≡ question → Refused text (in_text 3 at)
  unopened : {b at : ℕ} {ps : List Piece} {ts : Placed} → Meets text b at ps (outer ts) → Outside ps → sort b ≡ closing → Refused text (in_text 4 at)
  empty_pair : {b at from : ℕ} {ps : List Piece} {ls : Levels} → Meets text b at ps (inner ls from none) → Outside ps → sort b ≡ closing → Refused text (in_text 4 at)
  ninth_open : {b at : ℕ} {ps : List Piece} {ls : Levels} → Meets text b at ps ls → Outside ps → open_brackets ls ≡ 8 → sort b ≡ opening → Refused text (in_text 5 at)
  unclosed : {from : ℕ} {ps : List Piece} {ls : Levels} {ts : Placed} → length text ≤ 32768 → Begins text ps (inner ls from ts) → Refused text (in_text 4 from)
