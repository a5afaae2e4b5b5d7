-- What an opening bracket must have behind it in a term: a word, and then not its end.
--     first_headed    an opening bracket that comes first has it
--     all_headed      each has it
use Rattle.std.specs.Prelude.{Bool, true, false, ◌&&◌, List, [], ◌∷◌}
use Rattle.definitions.specs.Text.{Token}

abbrev pub first_headed : List Token → Bool
first_headed [] = true
first_headed (Token.word p w ∷ ts) = true
first_headed (Token.closing ∷ ts) = true
first_headed (Token.opening p ∷ []) = false
first_headed (Token.opening p ∷ Token.opening q ∷ ts) = false
first_headed (Token.opening p ∷ Token.closing ∷ ts) = false
first_headed (Token.opening p ∷ Token.word q w ∷ []) = false
first_headed (Token.opening p ∷ Token.word q w ∷ Token.closing ∷ ts) = false
first_headed (Token.opening p ∷ Token.word q w ∷ Token.opening r ∷ ts) = true
first_headed (Token.opening p ∷ Token.word q w ∷ Token.word r v ∷ ts) = true

abbrev pub all_headed : List Token → Bool
all_headed [] = true
all_headed (t ∷ ts) = first_headed (t ∷ ts) && all_headed ts
