-- Whether two plays are the same.
use Rattle.std.proofs.Common.{◌≡◌, List, Decides, refl, ap}
use Rattle.std.proofs.lemmas.Bool.Decides.{Decides-eqb, Decides-and, Decides-like}
use Rattle.std.proofs.lemmas.Slice.Eq.{slice_eq-Decides}
use Rattle.definitions.specs.Lists.{Same}
use Rattle.definitions.specs.Play.{Turn, Play, same_turn, same_turns, same_play}
use Rattle.definitions.proofs.Deciding.{same_by_key}
use Rattle.definitions.proofs.Spelled.{same_word_decides}

same_turn_decides : (t u : Turn) → Decides (same_turn t u) (t ≡ u)
same_turn_decides t u =
    Decides-like _ (λ h i. record { moves = h.0 i; seen = h.1 i }) (λ e. (ap (λ x. x.moves) e, ap (λ x. x.seen) e))
    (Decides-and _ _ (same_word_decides t.moves u.moves) (same_word_decides t.seen u.seen))

same_turns_decides : (ts us : List Turn) → Decides (same_turns ts us) (ts ≡ us)
same_turns_decides ts us = slice_eq-Decides same_turn_decides ts us _ refl

pub same_play_decides : (p q : Play) → Decides (same_play p q) (p ≡ q)
same_play_decides p q =
    Decides-like _ (λ h i. record { world = h.0.0 i; turns = h.0.1 i; state = h.1 i })
    (λ e. ((ap (λ x. x.world) e, ap (λ x. x.turns) e), ap (λ x. x.state) e))
    (Decides-and _ _ (Decides-and _ _ (Decides-eqb p.world q.world) (same_turns_decides p.turns q.turns)) (Decides-eqb p.state q.state))

pub same_play_laws : Same same_play
same_play_laws = same_by_key (λ p. p) same_play same_play_decides
