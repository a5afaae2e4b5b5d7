use Rattle.std.proofs.Common.{refl, sym, ap}
use Rattle.definitions.specs.Reading.{Mode, next}
use Rattle.text.proofs.Nesting.{levels_more, word_kept}
use Rattle.text.proofs.nest.Nest.add_word.Goals as goal

pub invariant_of-self : goal.invariant_of-self
invariant_of-self c =
    let n = c.args.self.now in
    let k = word_kept _ _ _ c.args.at c.args.spelling.now _ _ (record { spelt = n.spelt; placed = n.placed }) c.push.ensures.items refl in
    record { spelt = k.spelt; placed = k.placed }

pub returns : goal.returns
returns c = ap (next Mode.between) (sym (levels_more _ _ _ c.in_ok-push.ensures.items))
