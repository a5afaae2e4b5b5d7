use Rattle.std.proofs.Common.{◌≡◌, map, drop}
use Rattle.text.specs.View.{token}
use Rattle.forms.specs.Headed.{all_headed}
use Rattle.forms.proofs.value.all_headed.Given as goal

abbrev pub invariant-loop-i : goal.invariant-loop-i
invariant-loop-i l = all_headed (map token (drop l.i l.tokens)) ≡ all_headed (map token l.tokens)
