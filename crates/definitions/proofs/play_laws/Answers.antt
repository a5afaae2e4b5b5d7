use Rattle.definitions.proofs.Books.{books_are_plays}
use Rattle.definitions.proofs.Knowing.{knowing_knows}
use Rattle.definitions.proofs.Once.{plays_once}
use Rattle.definitions.proofs.Readings.{plays_one}
use Rattle.definitions.proofs.play_laws.Goals as goal

pub returns : goal.returns
returns c = record { books = books_are_plays knowing_knows; once = plays_once; one = plays_one }
