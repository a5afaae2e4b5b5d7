use Rattle.std.proofs.Common.{◌<◌, length, sym, ap, ◌∙◌, arith, false-eqb}
use Rattle.definitions.specs.Reading.{Mode, next}
use Rattle.text.specs.Nesting.{nesting}
use Rattle.text.specs.Spelt.{places}
use Rattle.text.proofs.Nesting.{levels_more, close_kept, shut_filled}
use Rattle.text.proofs.nest.Nest.close_at.Goals as goal

pub invariant_of-self-2 : goal.invariant_of-self-2
invariant_of-self-2 c =
    let n = c.args.self.now in
    let some : 0 < length n.opens.items = omega (arith, false-eqb (length n.opens.items) 0 c.if-is_empty.ensures) in
    let k = close_kept _ _ _ _ (record { spelt = n.spelt; placed = n.placed }) some c.in_ok-push.ensures.items c.pop.ensures.rest in
    record { spelt = k.spelt; placed = k.placed }

pub returns : goal.returns
returns c =
    let n = c.args.self.now in
    let some : 0 < length (places (nesting n)) = omega (arith, false-eqb (length n.opens.items) 0 c.if-is_empty.ensures, ap length n.placed) in
    shut_filled c.args.at _ some (sym c.if-is_fresh.ensures) ∙ ap (next Mode.between) (sym (levels_more _ _ _ c.in_ok-push.ensures.items))
