-- An accepted game is sound.
use Rattle.std.proofs.Common.{List, ◌∙◌, subst, arith}
use Rattle.std.proofs.lemmas.List.{length-map}
use Rattle.definitions.specs.Ruleset.{Ruled, rule_of, game, SoundGame, AcceptedSound}
use Rattle.definitions.proofs.Counted.{counted_counts}
use Rattle.definitions.proofs.Mapped.{not_any, any_joined}
use Rattle.definitions.proofs.Mentioned.{rules_numbered, declared_mentioned, role_below, knower_below, known_below}
use Rattle.definitions.proofs.Ranked.{levels_least}
use Rattle.definitions.proofs.Verdicts.{forms_of, Passed, accepted_passed}

passed_sound : (fs : List Ruled) → Passed fs → SoundGame (game fs)
passed_sound fs p =
    let g = game fs in
    let counts = counted_counts (forms_of fs) p.counts in
    record {
      some_role = omega (arith, role_below (forms_of fs) p.role (declared_mentioned (forms_of fs) p.role_declared));
      few_roles = counts.roles;
      few_features = counts.features;
      few_moves = counts.moves;
      few_percepts = counts.percepts;
      few_goals = counts.goals;
      few_knows = counts.knows;
      few_facts = counts.facts;
      few_rules = rw (rules_numbered g.names fs, length-map) counts.rules;
      levels = (levels_least g.rules (any_joined _ (rule_of g.names) fs ∙ p.steady)).fits;
      knowers = knower_below fs;
      known = known_below fs;
      early = λ x. not_any _ g.rules (any_joined _ (rule_of g.names) fs ∙ p.early);
    }

pub accepted_sound : AcceptedSound
accepted_sound text g e = let (fs, same, p) = accepted_passed text g e in subst SoundGame same (passed_sound fs p)
