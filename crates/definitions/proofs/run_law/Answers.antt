use Rattle.definitions.proofs.Runs.{referees}
use Rattle.definitions.proofs.run_law.Goals as goal

pub returns : goal.returns
returns c = referees
