-- What atoms over terms stand for in the definitions.
use Rattle.std.specs.Prelude.{◌≡◌, List, Option}
use Rattle.std.specs.Option.{option_map}
use Rattle.definitions.specs.Form as form
use Rattle.definitions.specs.Term as terms
use Rattle.text.specs.declared.term.Term.{Term}
use Rattle.text.specs.declared.term.Terms.{Terms}
use Rattle.forms.specs.declared.atom.Atom.{Atom}
use Rattle.forms.specs.declared.keyword.Keyword.{Keyword}
use Rattle.forms.specs.View.{keyword_view, term_view, terms_view}

abbrev pub atom_view : Atom Term → form.Atom terms.Term
atom_view (Atom.Role r) = form.Atom.role (term_view r)
atom_view (Atom.True f) = form.Atom.true_now (term_view f)
atom_view (Atom.Does r m) = form.Atom.does (term_view r) (term_view m)
atom_view (Atom.Knows r p) = form.Atom.knows (term_view r) (term_view p)
atom_view (Atom.Common p) = form.Atom.common (term_view p)
atom_view (Atom.Legal r m) = form.Atom.legal (term_view r) (term_view m)
atom_view (Atom.Goal r v) = form.Atom.goal (term_view r) v
atom_view Atom.Terminal = form.Atom.terminal
atom_view (Atom.Fact p) = form.Atom.fact (term_view p)
atom_view (Atom.Next f) = form.Atom.next (term_view f)
atom_view (Atom.Sees r e) = form.Atom.sees (term_view r) (term_view e)

-- what a keyword and its arguments are made into is what the definitions make of them
abbrev pub Makes : (Keyword → Terms → Option (Atom Term) → Type 0) → (form.Keyword → List terms.Term → Option (form.Atom terms.Term)) → Type 0
Makes gives f = (k : Keyword) (args : Terms) (r : Option (Atom Term)) → gives k args r → option_map atom_view r ≡ f (keyword_view k) (terms_view args)
