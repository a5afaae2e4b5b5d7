use Rattle.definitions.proofs.Judged.{coming_back_decided, looking_ahead_decided, resting_decided}
use Rattle.definitions.proofs.Ranked.{levels_least, no_levels}
use Rattle.definitions.proofs.Reach.{reaches_decides}
use Rattle.definitions.proofs.level_laws.Goals as goal

pub returns : goal.returns
returns c = record { dependence = reaches_decides; least = levels_least; refused = no_levels; back = coming_back_decided; ahead = looking_ahead_decided; resting = resting_decided }
