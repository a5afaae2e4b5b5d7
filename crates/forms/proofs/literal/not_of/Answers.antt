use Rattle.std.proofs.Common.{sym, ap, ◌∙◌}
use Rattle.definitions.specs.Form.{Literal, map_some}
use Rattle.forms.specs.View.{terms_view}
use Rattle.forms.proofs.Shaped.{not_one}
use Rattle.forms.proofs.literal.not_of.Goals as goal

pub returns : goal.returns
returns c = ap (map_some Literal.negated) c.in_ok-atom.ensures ∙ sym (not_one (terms_view c.args.args) _ c.in_ok-only.ensures)
