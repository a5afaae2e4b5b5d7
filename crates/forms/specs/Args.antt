-- The terms that follow a keyword, as far as any form has them.
--     only, both             the only one, and exactly two
--     one_term, two_terms    the same, if each pair in them has a word first and at least one more term
use Rattle.std.specs.Prelude.{List, [], ◌∷◌, ◌&&◌, Some, None, Option}
use Rattle.definitions.specs.Form.{after, when, is_term}
use Rattle.definitions.specs.Term as terms
use Rattle.text.specs.declared.term.Term.{Term}
use Rattle.forms.specs.View.{term_view}

abbrev pub pair_view : Term × Term → terms.Term × terms.Term
pair_view p = (term_view p.0, term_view p.1)

abbrev pub only : List terms.Term → Option terms.Term
only [] = None
only (t ∷ []) = Some t
only (t ∷ u ∷ ts) = None

abbrev pub both : List terms.Term → Option (terms.Term × terms.Term)
both [] = None
both (t ∷ ts) = after (only ts) (λ u. Some (t, u))

abbrev pub one_term : List terms.Term → Option terms.Term
one_term ts = after (only ts) (λ t. when (is_term t) t)

abbrev pub two_terms : List terms.Term → Option (terms.Term × terms.Term)
two_terms ts = after (both ts) (λ p. when (is_term p.0 && is_term p.1) p)
