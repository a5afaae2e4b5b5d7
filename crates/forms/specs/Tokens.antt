-- What the tokens of a term begin with, and what follows it.
--     front_view   a word and tokens, as the definitions have them
--     front        the word that a pair begins with, and the tokens behind it
--     one_word     a word alone
--     Closes       they are those of these terms, and then a closing bracket
--     Taken        the term that they began with is taken off them, or they begin with none and stay
--     WholeIs      the term that all of them are, or they are none
use Rattle.std.specs.Prelude.{◌≡◌, ℕ, Bool, true, false, List, [], ◌∷◌, ◌++◌, Some, None, Option, map}
use Rattle.std.specs.Borrow.{Bor}
use Rattle.definitions.specs.Term.{Tree, Placed}
use Rattle.definitions.specs.Text.{Token, flat, flats}
use Rattle.text.specs.declared.term.Term.{Term}
use Rattle.text.specs.declared.token.Token as src
use Rattle.text.specs.Terms.{tree}
use Rattle.text.specs.View.{token}

abbrev pub front_view : Bor (List ℕ) × Bor (List src.Token) → List ℕ × List Token
front_view p = (p.0.now, map token p.1.now)

abbrev pub front : List Token → Option (List ℕ × List Token)
front [] = None
front (Token.word p w ∷ ts) = None
front (Token.closing ∷ ts) = None
front (Token.opening p ∷ []) = None
front (Token.opening p ∷ Token.opening q ∷ ts) = None
front (Token.opening p ∷ Token.closing ∷ ts) = None
front (Token.opening p ∷ Token.word q w ∷ ts) = Some (w, ts)

abbrev pub one_word : List Token → Bool
one_word [] = false
one_word (Token.word p w ∷ []) = true
one_word (Token.word p w ∷ u ∷ ts) = false
one_word (Token.opening p ∷ ts) = false
one_word (Token.closing ∷ ts) = false

abbrev pub Closes : List Token → Placed → Type 0
Closes xs ts = xs ≡ flats ts ++ Token.closing ∷ []

abbrev pub Taken : Option Term → List Token → List Token → Type 0
Taken None old new = (new ≡ old) × ((t : Tree ℕ) (rest : List Token) → old ≡ flat t ++ rest → ⊥)
Taken (Some t) old new = old ≡ flat (tree t) ++ new

abbrev pub WholeIs : Option Term → List Token → Type 0
WholeIs None xs = (u : Tree ℕ) → xs ≡ flat u → ⊥
WholeIs (Some t) xs = xs ≡ flat (tree t)
