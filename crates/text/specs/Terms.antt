-- What `Term` and `Terms` stand for.
--     tree, trees    the term, and the list of terms
--     place          where a term starts
--     left           the terms that are still to come, one by one
--     PartsAre       a word, or the terms in a bracket pair
--     StartsWith     the tokens are those of the term and the rest, or begin with no term
--     WordFirst      the terms are this word and the rest, or no word comes first
use Rattle.std.specs.Prelude.{◌≡◌, ℕ, Some, None, Option, List, [], ◌∷◌, ◌++◌, map}
use Rattle.std.specs.Borrow.{Bor}
use Rattle.definitions.specs.Term.{Tree, none, ◌&◌, Placed}
use Rattle.definitions.specs.Text.{Token, flat}
use Rattle.text.specs.declared.token.Token as src
use Rattle.text.specs.declared.term.Parts.{Parts}
use Rattle.text.specs.declared.term.Term.{Term}
use Rattle.text.specs.declared.term.Terms.{Terms}
use Rattle.text.specs.Spelt.{term, terms}
use Rattle.text.specs.View.{token}

abbrev pub tree : Term → Tree ℕ
tree t = term (map token t.tokens.now)

abbrev pub trees : Terms → Placed
trees ts = terms (map token ts.tokens.now)

abbrev pub place : Tree ℕ → ℕ
place (Tree.word at w) = at
place (Tree.pair at ts) = at

abbrev pub listed : Placed → List (Tree ℕ)
listed none = []
listed (t & ts) = t ∷ listed ts

abbrev pub left : Terms → List (Tree ℕ)
left ts = listed (trees ts)

abbrev pub PartsAre : Parts → Tree ℕ → Type 0
PartsAre (Parts.Word w) (Tree.word at v) = v ≡ w.now
PartsAre (Parts.Word w) (Tree.pair at ts) = ⊥
PartsAre (Parts.Pair ts) (Tree.word at v) = ⊥
PartsAre (Parts.Pair ts) (Tree.pair at us) = us ≡ trees ts

abbrev pub StartsWith : Option (Term × Bor (List src.Token)) → List Token → Type 0
StartsWith None xs = (t : Tree ℕ) (rest : List Token) → xs ≡ flat t ++ rest → ⊥
StartsWith (Some (t, rest)) xs = xs ≡ flat (tree t) ++ map token rest.now

abbrev pub WordFirst : Option (Bor (List ℕ) × Terms) → Placed → Type 0
WordFirst None none = Unit {0}
WordFirst None (Tree.word at v & us) = ⊥
WordFirst None (Tree.pair at ts & us) = Unit {0}
WordFirst (Some (w, rest)) none = ⊥
WordFirst (Some (w, rest)) (Tree.word at v & us) = (v ≡ w.now) × (us ≡ trees rest)
WordFirst (Some (w, rest)) (Tree.pair at ts & us) = ⊥
