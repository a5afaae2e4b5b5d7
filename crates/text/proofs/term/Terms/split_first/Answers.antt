use Rattle.std.proofs.Common.{map}
use Rattle.text.specs.View.{token}
use Rattle.text.proofs.Spelt.{Parted, tokens_parted}
use Rattle.text.proofs.term.Terms.split_first.Goals as goal
use Rattle.text.proofs.term.Terms.split_first.Goals.{After-split_at}

parts : (c : After-split_at) → Parted (map token c.args.self.tokens.now) (map token c.split_at.result.0.now) (map token c.split_at.result.1.now)
parts c = tokens_parted _ _ _ _ c.args.self.whole c.if-is_empty.ensures c.term_len.ensures.value c.split_at.ensures.front c.split_at.ensures.back

pub invariant_of-result : goal.invariant_of-result
invariant_of-result c = record { whole = (parts (goal.at.invariant_of-result c).After-split_at).one }

pub invariant_of-result-2 : goal.invariant_of-result-2
invariant_of-result-2 c = record { whole = (parts (goal.at.invariant_of-result-2 c).After-split_at).others }

pub returns : goal.returns
returns c = (parts (goal.at.returns c).After-split_at).split
