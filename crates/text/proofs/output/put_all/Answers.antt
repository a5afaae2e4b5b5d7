use Rattle.std.proofs.Common.{◌++◌, vec_items, ap, ◌∙◌, append_assoc}
use Rattle.std.proofs.lemmas.Result.{err_from_is_err_and}
use Rattle.text.proofs.Spelling.{spelt_more, spelt_all}
use Rattle.text.proofs.output.put_all.Goals as goal

pub returns-in_err-put : goal.returns-in_err-put
returns-in_err-put c =
    let p = err_from_is_err_and c.from_residual.result c.from_residual.ensures.1 in
    let i = c.loop-t.invariant in
    let e = c.in_err-put.ensures in
    rw p.1 (i.0 ++ e.0, e.1 ∙ ap (λ xs. xs ++ e.0) i.1 ∙ append_assoc (vec_items c.args.out.now) i.0 e.0)

pub loop-t-preserved : goal.loop-t-preserved
loop-t-preserved c =
    let i = c.loop-t.invariant in
    spelt_more c.args.tokens.now c.loop-t.t-index _ c.loop-t.after c.is_word-after.result (vec_items c.args.out.now) (vec_items c.loop-t.out) (vec_items c.put.new.out) i.0 c.loop-t-test.true i.1 i.2 c.in_ok-put.ensures c.is_word-after.ensures

pub returns : goal.returns
returns c =
    let i = c.loop-t.invariant in
    spelt_all c.args.tokens.now c.loop-t.t-index c.loop-t.after (vec_items c.args.out.now) (vec_items c.loop-t.out) i.0 c.loop-t-test.false i.1 i.2
