-- The lines of forms, one by one.
use Rattle.std.proofs.Common.{◌≡◌, ◌++◌, refl, ap}
use Rattle.definitions.specs.Lists.{joined}
use Rattle.definitions.specs.Term.{none, ◌&◌, Placed}
use Rattle.text.specs.Terms.{listed}
use Rattle.report.specs.Lines.{form_line, form_lines}

pub line_by_line : (ts : Placed) → form_lines ts ≡ joined form_line (listed ts)
line_by_line none = refl
line_by_line (t & ts) = ap (λ xs. form_line t ++ xs) (line_by_line ts)
