-- What rules and forms over terms stand for in the definitions.
--     rule_view, form_view   a rule and a form
--     of_head, bodiless      the rule of a head alone, if it is one, and of the head that a term is
--     led_form               the form of a pair, by its keyword
--     FormIs                 the form of the definitions, or the term is none, or memory is wanting
use Rattle.std.specs.Prelude.{◌≡◌, List, [], Some, None, Ok, Err, Option, Result}
use Rattle.definitions.specs.Form as form
use Rattle.definitions.specs.Term.{Term}
use Rattle.forms.specs.declared.fault.FormFault.{FormFault}
use Rattle.forms.specs.declared.form.Form.{Form}
use Rattle.forms.specs.declared.form.Rule.{Rule}
use Rattle.forms.specs.Atoms.{atom_view}
use Rattle.forms.specs.Bodies.{body_view}
use Rattle.forms.specs.View.{term_view}

abbrev pub rule_view : Rule → form.Rule Term
rule_view r = record { head = atom_view r.head; parts = body_view r.body }

abbrev pub form_view : Form → form.Form
form_view (Form.Declares t) = form.Form.declares (term_view t)
form_view (Form.Opens t) = form.Form.opens (term_view t)
form_view (Form.Rules r) = form.Form.rules (rule_view r)

abbrev pub of_head : Option (form.Atom Term) → Option form.Form
of_head o = form.map_some (λ a. form.Form.rules (record { head = a; parts = [] })) o

abbrev pub bodiless : Term → Option form.Form
bodiless t = of_head (form.head t)

-- the form of a pair, by the keyword that comes first, what follows it, and the whole
abbrev pub led_form : form.Keyword → List Term → Term → Option form.Form
led_form form.Keyword.role ts t = form.a_declaration form.Form.declares ts
led_form form.Keyword.init ts t = form.a_declaration form.Form.opens ts
led_form form.Keyword.arrow ts t = form.a_rule ts
led_form form.Keyword.true_now ts t = bodiless t
led_form form.Keyword.next ts t = bodiless t
led_form form.Keyword.legal ts t = bodiless t
led_form form.Keyword.does ts t = bodiless t
led_form form.Keyword.sees ts t = bodiless t
led_form form.Keyword.goal ts t = bodiless t
led_form form.Keyword.terminal ts t = bodiless t
led_form form.Keyword.knows ts t = bodiless t
led_form form.Keyword.distinct ts t = bodiless t
led_form form.Keyword.negation ts t = bodiless t
led_form form.Keyword.disjunction ts t = bodiless t

abbrev pub FormIs : Result Form FormFault → Option form.Form → Type 0
FormIs (Ok f) o = o ≡ Some (form_view f)
FormIs (Err (FormFault.Memory e)) o = Unit {0}
FormIs (Err FormFault.Broken) o = o ≡ None
