-- What the values of this crate stand for in the definitions.
--     keyword_view    a keyword
--     term_view       a term, without its places
--     terms_view      a list of such terms
--     Names           the keyword that a word is spelt as, or none
use Rattle.std.specs.Prelude.{◌≡◌, ℕ, List, map, Some, None, Option, ◌≢◌}
use Rattle.definitions.specs.Form as form
use Rattle.definitions.specs.Term as terms
use Rattle.text.specs.declared.term.Term.{Term}
use Rattle.text.specs.declared.term.Terms.{Terms}
use Rattle.text.specs.Terms.{tree, left}
use Rattle.forms.specs.declared.keyword.Keyword.{Keyword}

abbrev pub keyword_view : Keyword → form.Keyword
keyword_view Keyword.Role = form.Keyword.role
keyword_view Keyword.Init = form.Keyword.init
keyword_view Keyword.True = form.Keyword.true_now
keyword_view Keyword.Next = form.Keyword.next
keyword_view Keyword.Legal = form.Keyword.legal
keyword_view Keyword.Does = form.Keyword.does
keyword_view Keyword.Sees = form.Keyword.sees
keyword_view Keyword.Goal = form.Keyword.goal
keyword_view Keyword.Terminal = form.Keyword.terminal
keyword_view Keyword.Knows = form.Keyword.knows
keyword_view Keyword.Distinct = form.Keyword.distinct
keyword_view Keyword.Not = form.Keyword.negation
keyword_view Keyword.Or = form.Keyword.disjunction
keyword_view Keyword.Arrow = form.Keyword.arrow

abbrev pub term_view : Term → terms.Term
term_view t = terms.bare (tree t)

abbrev pub terms_view : Terms → List terms.Term
terms_view ts = map terms.bare (left ts)

abbrev pub Names : List ℕ → Option Keyword → Type 0
Names w (Some k) = w ≡ form.spelling (keyword_view k)
Names w None = (k : form.Keyword) → w ≢ form.spelling k
