use Rattle.definitions.proofs.Classes.{classes_tell, classes_by_first_appearance, classes_numbered}
use Rattle.definitions.proofs.Evenness.{evenness_judged}
use Rattle.definitions.proofs.Players.{players_decided}
use Rattle.definitions.proofs.class_laws.Goals as goal

pub returns : goal.returns
returns c = record { even = evenness_judged; players = players_decided; numbered = classes_numbered; tell = classes_tell; first = classes_by_first_appearance }
