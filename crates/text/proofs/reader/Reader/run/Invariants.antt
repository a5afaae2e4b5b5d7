use Rattle.std.proofs.Common.{◌≡◌, drop}
use Rattle.definitions.specs.Term.{none}
use Rattle.definitions.specs.Text.{outer}
use Rattle.definitions.specs.Reading.{Mode, reading}
use Rattle.text.specs.Machine.{mode, Started}
use Rattle.text.specs.Nesting.{nesting}
use Rattle.text.proofs.reader.Reader.run.Given as goal

abbrev pub invariant-loop-at : goal.invariant-loop-at
invariant-loop-at l =
    (l.self.text.now ≡ l.fn.self.text.now)
    × Started l.self.state l.at
    × (reading l.at (mode l.self.state l.at l.fn.self.text.now) (nesting l.self.nest) (drop l.at l.fn.self.text.now) ≡ reading 0 Mode.between (outer none) l.fn.self.text.now)
