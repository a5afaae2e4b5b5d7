-- The terms that words and brackets spell.
--     put, levels     the terms so far, and the brackets that are open, after each word or bracket
--     places, fresh   where the open brackets stand, and whether the innermost has no term yet
--     terms, term     the terms that they spell, and the first of them
--     AreTerms        they are the words and brackets of a list of terms
--     IsTerm          they are those of one term
use Rattle.std.specs.Prelude.{◌≡◌, ℕ, Bool, true, false, List, [], ◌∷◌, ◌++◌}
use Rattle.definitions.specs.Term.{Tree, none, ◌&◌, Placed}
use Rattle.definitions.specs.Text.{Token, flat, flats, Levels, outer, inner}
use Rattle.definitions.specs.Form.{same_word}
use Rattle.definitions.specs.Reading.{add}

-- a closing bracket that closes nothing leaves the levels as they are
abbrev pub put : Levels → Token → Levels
put ls (Token.word at w) = add ls (Tree.word at w)
put ls (Token.opening at) = inner ls at none
put (outer ts) Token.closing = outer ts
put (inner ls at ts) Token.closing = add ls (Tree.pair at ts)

abbrev pub after : Levels → List Token → Levels
after ls [] = ls
after ls (t ∷ ts) = after (put ls t) ts

abbrev pub levels : List Token → Levels
levels ts = after (outer none) ts

abbrev pub opens : Token → Bool
opens (Token.word at w) = false
opens (Token.opening at) = true
opens Token.closing = false

abbrev pub closes : Token → Bool
closes (Token.word at w) = false
closes (Token.opening at) = false
closes Token.closing = true

-- they differ in their places only
abbrev pub alike : Token → Token → Bool
alike (Token.word p v) (Token.word q w) = same_word v w
alike (Token.word p v) (Token.opening q) = false
alike (Token.word p v) Token.closing = false
alike (Token.opening p) (Token.word q w) = false
alike (Token.opening p) (Token.opening q) = true
alike (Token.opening p) Token.closing = false
alike Token.closing (Token.word q w) = false
alike Token.closing (Token.opening q) = false
alike Token.closing Token.closing = true

abbrev pub places : Levels → List ℕ
places (outer ts) = []
places (inner ls at ts) = places ls ++ at ∷ []

abbrev pub fresh : Levels → Bool
fresh (outer ts) = false
fresh (inner ls at none) = true
fresh (inner ls at (t & ts)) = false

-- the terms that stand in no bracket
abbrev pub outside : Levels → Placed
outside (outer ts) = ts
outside (inner ls at ts) = outside ls

abbrev pub terms : List Token → Placed
terms ts = outside (levels ts)

abbrev pub first : Placed → Tree ℕ
first none = Tree.word 0 []
first (t & ts) = t

abbrev pub term : List Token → Tree ℕ
term ts = first (terms ts)

abbrev pub AreTerms : List Token → Type 0
AreTerms ts = ts ≡ flats (terms ts)

abbrev pub IsTerm : List Token → Type 0
IsTerm ts = ts ≡ flat (term ts)
