-- The players among the roles.
use Rattle.std.proofs.Common.{get_or, ⊎_elim}
use Rattle.std.proofs.lemmas.List.{get_or_past}
use Rattle.std.proofs.lemmas.Bool.{cases_lt}
use Rattle.std.proofs.lemmas.Bool.Decides.{Decides-like, Decides-not}
use Rattle.definitions.specs.Form.{same_term}
use Rattle.definitions.specs.Ruleset.{roles, nature}
use Rattle.definitions.specs.Play.{is_player, PlayersDecided}
use Rattle.definitions.proofs.Spelled.{same_term_decides}

pub players_decided : PlayersDecided
players_decided g r =
    Decides-like (is_player g r)
    (λ other. (⊎_elim (λ low. low) (λ past. absurd (other (get_or_past g.names.roles r nature past))) (cases_lt r (roles g)), other))
    (λ both. both.1)
    (Decides-not (same_term (get_or g.names.roles r nature) nature) (same_term_decides (get_or g.names.roles r nature) nature))
