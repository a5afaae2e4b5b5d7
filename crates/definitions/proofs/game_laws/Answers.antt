use Rattle.definitions.proofs.Accepted.{accepted_sound}
use Rattle.definitions.proofs.game_laws.Goals as goal

pub returns : goal.returns
returns c = record { sound = accepted_sound }
