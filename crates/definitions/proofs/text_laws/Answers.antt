use Rattle.definitions.proofs.Decided.{decided}
use Rattle.definitions.proofs.Reread.{reread}
use Rattle.definitions.proofs.text_laws.Goals as goal

pub returns : goal.returns
returns c = record { read = decided; written = reread }
