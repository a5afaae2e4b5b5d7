-- What a keyword's name is.
use Rattle.std.proofs.Common.{◌≡◌, ℕ, List, Some, None, IsUtf8, Option, sym, subst, rules}
use Rattle.std.specs.Option.{option_map}
use Rattle.std.proofs.lemmas.Str.{IsUtf8-from_ascii}
use Rattle.definitions.specs.Form as form
use Rattle.definitions.proofs.Spelled.{keyword_names}
use Rattle.forms.specs.declared.keyword.Keyword.{Keyword}
use Rattle.forms.specs.View.{keyword_view, Names}

pub named_keyword : (w : List ℕ) (r : Option Keyword) → Names w r → option_map keyword_view r ≡ form.keyword w
named_keyword w (Some k) h = sym (((keyword_names w).0 (keyword_view k)).1 h)
named_keyword w None h = sym ((keyword_names w).1.1 h)

is_text : (k : form.Keyword) → IsUtf8 (form.spelling k)
is_text form.Keyword.role = IsUtf8-from_ascii (form.spelling form.Keyword.role) (search rules)
is_text form.Keyword.init = IsUtf8-from_ascii (form.spelling form.Keyword.init) (search rules)
is_text form.Keyword.true_now = IsUtf8-from_ascii (form.spelling form.Keyword.true_now) (search rules)
is_text form.Keyword.next = IsUtf8-from_ascii (form.spelling form.Keyword.next) (search rules)
is_text form.Keyword.legal = IsUtf8-from_ascii (form.spelling form.Keyword.legal) (search rules)
is_text form.Keyword.does = IsUtf8-from_ascii (form.spelling form.Keyword.does) (search rules)
is_text form.Keyword.sees = IsUtf8-from_ascii (form.spelling form.Keyword.sees) (search rules)
is_text form.Keyword.goal = IsUtf8-from_ascii (form.spelling form.Keyword.goal) (search rules)
is_text form.Keyword.terminal = IsUtf8-from_ascii (form.spelling form.Keyword.terminal) (search rules)
is_text form.Keyword.knows = IsUtf8-from_ascii (form.spelling form.Keyword.knows) (search rules)
is_text form.Keyword.distinct = IsUtf8-from_ascii (form.spelling form.Keyword.distinct) (search rules)
is_text form.Keyword.negation = IsUtf8-from_ascii (form.spelling form.Keyword.negation) (search rules)
is_text form.Keyword.disjunction = IsUtf8-from_ascii (form.spelling form.Keyword.disjunction) (search rules)
is_text form.Keyword.arrow = IsUtf8-from_ascii (form.spelling form.Keyword.arrow) (search rules)

-- what is no text is no keyword
pub no_text : (w : List ℕ) → (IsUtf8 w → ⊥) → Names w None
no_text w h k e = h (subst IsUtf8 (sym e) (is_text k))
