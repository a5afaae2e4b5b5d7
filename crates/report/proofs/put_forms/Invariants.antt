use Rattle.std.proofs.Common.{◌≡◌, ◌++◌}
use Rattle.definitions.specs.Lists.{joined}
use Rattle.text.specs.Terms.{left, trees}
use Rattle.report.specs.Lines.{form_line, form_lines}
use Rattle.report.proofs.put_forms.Given as goal

-- the lines of the forms that are left are still to come
abbrev pub invariant-loop-form : goal.invariant-loop-form
invariant-loop-form l =
    (goal.iterator-loop-form).can_next l.form-iterator
    × (goal.iterator-loop-form).is_finite l.form-iterator
    × (l.out.items ++ joined form_line (left l.form-iterator) ≡ l.initial.out.items ++ form_lines (trees l.fn.forms))
