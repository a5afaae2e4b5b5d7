-- How far a term goes in a list of tokens.
--     span d      the tokens until d brackets more are closed than opened
--     balanced d  each closing bracket closes one, where d are open before, and none is left open
--     Spans       at the tokens of a term, whatever follows, it is their number
--     first_span  the tokens of the first term, if there is one, where n of them are read and d brackets open
use Rattle.std.specs.Prelude.{◌≡◌, ℕ, suc, ◌-◌, Bool, not, ◌&&◌, cond, Some, None, Option, List, [], ◌∷◌, ◌++◌, length, ◌==◌}
use Rattle.definitions.specs.Term.{Tree}
use Rattle.definitions.specs.Text.{Token, flat}
use Rattle.text.specs.Spelt.{closes}

-- the brackets open after a token
abbrev pub opened : ℕ → Token → ℕ
opened d (Token.word at w) = d
opened d (Token.opening at) = suc d
opened d Token.closing = d - 1

abbrev pub span : ℕ → List Token → ℕ
span d [] = 0
span d (t ∷ ts) = suc (cond (opened d t == 0) 0 (span (opened d t) ts))

abbrev pub balanced : ℕ → List Token → Bool
balanced d [] = d == 0
balanced d (t ∷ ts) = not (closes t && d == 0) && balanced (opened d t) ts

abbrev pub Spans : Type 0
Spans = (t : Tree ℕ) (rest : List Token) → span 0 (flat t ++ rest) ≡ length (flat t)

-- a closing bracket where none is open begins no term
abbrev pub first_span : ℕ → ℕ → List Token → Option ℕ
first_span n d [] = None
first_span n d (t ∷ ts) = cond (closes t && d == 0) None (cond (opened d t == 0) (Some (suc n)) (first_span (suc n) (opened d t) ts))
