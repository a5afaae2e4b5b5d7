use Rattle.std.proofs.Common.{sym, ap, ◌∙◌}
use Rattle.std.proofs.lemmas.Bool.{cond-true, not-false}
use Rattle.definitions.specs.Refusal.{accepted}
use Rattle.definitions.specs.Term.{none}
use Rattle.definitions.specs.Text.{outer}
use Rattle.definitions.specs.Reading.{Mode, reading}
use Rattle.text.specs.Spelt.{terms}
use Rattle.text.proofs.Spelt.{are_terms, terms_flats}
use Rattle.text.proofs.forms.Forms.read.Goals as goal

pub invariant_of-self-2 : goal.invariant_of-self-2
invariant_of-self-2 c = record { whole = are_terms _ c.in_ok-run.ensures.0 c.in_ok-run.ensures.2 }

pub returns-clause-value : goal.returns-clause-value
returns-clause-value c =
    let done = c.in_ok-run.ensures in
    cond-true _ _ _ (not-false _ (sym c.if-too_long.ensures)) ∙ ap (reading 0 Mode.between (outer none)) (sym c.new-reader.ensures.text) ∙ done.1 ∙ ap accepted (sym (ap terms done.2 ∙ terms_flats done.0))
