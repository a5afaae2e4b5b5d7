use Rattle.definitions.proofs.Numbers.{names_by_first_appearance, numbers_tell}
use Rattle.definitions.proofs.numbering_laws.Goals as goal

pub returns : goal.returns
returns c = record { first = names_by_first_appearance; one = numbers_tell }
