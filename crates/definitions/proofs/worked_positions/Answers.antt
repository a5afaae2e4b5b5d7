use Rattle.definitions.proofs.Examples.{worked}
use Rattle.definitions.proofs.worked_positions.Goals as goal

pub returns : goal.returns
returns c = worked
