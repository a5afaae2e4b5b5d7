use Rattle.definitions.proofs.Chains.{chained_decides}
use Rattle.definitions.proofs.Knowing.{knowing_knows, knowledge_one}
use Rattle.definitions.proofs.knowledge_laws.Goals as goal

pub returns : goal.returns
returns c = record { chains = chained_decides; known = knowing_knows; one = knowledge_one }
