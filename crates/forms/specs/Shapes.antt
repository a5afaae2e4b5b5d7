-- What a term taken apart is.
--     PairIs     what a pair round these terms is: with a word first, and then what follows it, or with none
--     WordIs     this word
--     ShapeIs    a word, or what a pair is
--     Led        a pair begins with a keyword, and then what follows it, or with none
use Rattle.std.specs.Prelude.{◌≡◌, ℕ, List, [], ◌∷◌, Some, None, Option}
use Rattle.definitions.specs.Form as form
use Rattle.definitions.specs.Term.{Tree, Term}
use Rattle.text.specs.declared.term.Terms.{Terms}
use Rattle.forms.specs.declared.keyword.Keyword.{Keyword}
use Rattle.forms.specs.declared.shape.Shape.{Shape}
use Rattle.forms.specs.View.{keyword_view, terms_view}

-- no word comes first
abbrev pub NoWordFirst : List Term → Type 0
NoWordFirst [] = Unit {0}
NoWordFirst (Tree.word p w ∷ ts) = ⊥
NoWordFirst (Tree.pair p us ∷ ts) = Unit {0}

abbrev pub PairIs : Shape → List Term → Type 0
PairIs (Shape.Word w) ts = ⊥
PairIs (Shape.Pair w rest) ts = ts ≡ Tree.word tt w.now ∷ terms_view rest
PairIs Shape.Other ts = NoWordFirst ts

abbrev pub WordIs : Shape → List ℕ → Type 0
WordIs (Shape.Word w) v = v ≡ w.now
WordIs (Shape.Pair w rest) v = ⊥
WordIs Shape.Other v = ⊥

abbrev pub ShapeIs : Shape → Term → Type 0
ShapeIs s (Tree.word p v) = WordIs s v
ShapeIs s (Tree.pair p ts) = PairIs s (form.list ts)

abbrev pub Led : Option (Keyword × Terms) → Term → Type 0
Led None u = (k : form.Keyword) → form.led_by k u ≡ None
Led (Some (k, rest)) u = form.led_by (keyword_view k) u ≡ Some (terms_view rest)
