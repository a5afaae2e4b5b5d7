use Rattle.definitions.proofs.Local.{level_local, without_knowledge}
use Rattle.definitions.proofs.Standard.{standard_one, holds_standard}
use Rattle.definitions.proofs.model_laws.Goals as goal

pub returns : goal.returns
returns c = record { standard = holds_standard; one = standard_one; local = level_local; unaware = without_knowledge }
