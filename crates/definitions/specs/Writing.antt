-- Terms written out, with a space only between two words that would touch.
--     spaced       the bytes of a word or bracket, after a word or not
--     spelt        the bytes of a list of them
--     written      the bytes of a list of terms
--     Reread       what is written and read again is the same terms, places aside
use Rattle.std.specs.Prelude.{◌≡◌, ℕ, Bool, true, false, cond, ◌&&◌, List, [], ◌∷◌, ◌++◌}
use Rattle.definitions.specs.Term.{Placed, bares}
use Rattle.definitions.specs.Text.{Token, Reads, flats}

abbrev pub is_word : Token → Bool
is_word (Token.word at w) = true
is_word (Token.opening at) = false
is_word Token.closing = false

abbrev pub spelling : Token → List ℕ
spelling (Token.word at w) = w
spelling (Token.opening at) = 40 ∷ []
spelling Token.closing = 41 ∷ []

-- a token after a word, or after no word, with its space
abbrev pub spaced : Bool → Token → List ℕ
spaced after t = cond (is_word t && after) (32 ∷ []) [] ++ spelling t

abbrev pub spelt : Bool → List Token → List ℕ
spelt after [] = []
spelt after (t ∷ ts) = spaced after t ++ spelt (is_word t) ts

abbrev pub written : Placed → List ℕ
written ts = spelt false (flats ts)

abbrev pub Reread : Type 0
Reread = (text : List ℕ) (ts : Placed) → Reads text ts → (us : Placed) × Reads (written ts) us × (bares us ≡ bares ts)
