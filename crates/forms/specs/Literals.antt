-- What literals over terms stand for in the definitions.
use Rattle.definitions.specs.Form as form
use Rattle.definitions.specs.Term as terms
use Rattle.text.specs.declared.term.Term.{Term}
use Rattle.forms.specs.declared.literal.Literal.{Literal}
use Rattle.forms.specs.Atoms.{atom_view}

abbrev pub literal_view : Literal Term → form.Literal terms.Term
literal_view (Literal.Settled b) = form.settled b
literal_view (Literal.Bare a) = form.bare (atom_view a)
literal_view (Literal.Negated a) = form.negated (atom_view a)
