use Rattle.std.proofs.Common.{ltb, length, sym, ap, ◌∙◌, arith}
use Rattle.std.proofs.lemmas.Bool.{cond-true, ltb-true, not-false}
use Rattle.definitions.specs.Text.{open_brackets}
use Rattle.definitions.specs.Reading.{Mode, next}
use Rattle.text.specs.Nesting.{nesting}
use Rattle.text.proofs.Nesting.{levels_more, open_kept, places_count}
use Rattle.text.proofs.nest.Nest.open_at.Goals as goal

pub push-requires-2 : goal.push-requires-2
push-requires-2 c =
    let n = c.args.self.now in
    let few = ltb-true (open_brackets (nesting n)) 8 (not-false (ltb (open_brackets (nesting n)) 8) (sym c.if-is_full.ensures)) in
    (omega arith, omega (arith, few, ap length n.placed, places_count (nesting n)))

pub invariant_of-self-2 : goal.invariant_of-self-2
invariant_of-self-2 c =
    let n = c.args.self.now in
    let k = open_kept _ _ c.args.at _ _ (record { spelt = n.spelt; placed = n.placed }) c.in_ok-push.ensures.items c.push-2.ensures.items in
    record { spelt = k.spelt; placed = k.placed }

pub returns : goal.returns
returns c =
    cond-true _ _ _ (not-false (ltb (open_brackets (nesting c.args.self.now)) 8) (sym c.if-is_full.ensures))
    ∙ ap (next Mode.between) (sym (levels_more _ _ _ c.in_ok-push.ensures.items))
