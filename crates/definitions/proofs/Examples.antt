-- The worked positions, by computation.
use Rattle.std.proofs.Common.{refl}
use Rattle.std.specs.Fmt.{digits}
use Rattle.definitions.specs.Worked.{Worked}

pub worked : Worked
unfolding digits
worked = record {
  coin_session = refl;
  coin_round = record { plays = refl; classes = refl; common = refl; hint = (refl, refl); no_hint = refl };
  not_in_turn = refl;
  in_turn = (refl, refl);
  knows_itself = refl;
  moves_first = refl;
  variable = refl;
}
