-- The law over runs.
use Rattle.definitions.specs.Law.{Referees}
use Rattle.definitions.proofs.Committed.{real_as_committed}
use Rattle.definitions.proofs.Either.{either_order}
use Rattle.definitions.proofs.Exactly.{known_exactly}
use Rattle.definitions.proofs.Meant.{states_mean}
use Rattle.definitions.proofs.Twins.{own_play_alone}

pub referees : Referees
referees = record { real_as_committed = real_as_committed; states_mean = states_mean; own_play_alone = own_play_alone; known_exactly = known_exactly; either_order = either_order }
