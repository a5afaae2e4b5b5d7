-- The worlds that a hint leaves.
use Rattle.std.proofs.Common.{refl}
use Rattle.std.proofs.lemmas.Bool.Decides.{Decides-like}
use Rattle.definitions.specs.Lists.{upto}
use Rattle.definitions.specs.Deal.{standing}
use Rattle.definitions.specs.Knowledge.{in_deal_holds, HintLeaves}
use Rattle.definitions.proofs.Listed.{in_keep, keep_in}
use Rattle.definitions.proofs.Upto.{in_upto, among_decides}

pub hint_leaves : HintLeaves
hint_leaves g d p = record {
  size = refl;
  states = refl;
  seats = refl;
  worlds = λ w low.
      Decides-like _
      (λ i. let k = keep_in (in_deal_holds g d p) (standing d) i in ((keep_in d.deck.stands (upto d.deck.size) k.0).1, k.1))
      (λ h. in_keep _ (in_keep _ (in_upto low) h.0) h.1)
      (among_decides _ w);
}
