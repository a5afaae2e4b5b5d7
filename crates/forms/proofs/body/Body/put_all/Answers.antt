use Rattle.std.proofs.Common.{refl}
use Rattle.std.proofs.lemmas.Result.{err_from_is_err_and}
use Rattle.definitions.specs.Form.{part}
use Rattle.definitions.specs.Term.{none}
use Rattle.text.specs.Terms.{tree}
use Rattle.forms.proofs.Front.{some_left}
use Rattle.forms.proofs.Streamed.{none_begins, streamed_all, streamed_more, streamed_none, streamed_stops}
use Rattle.forms.proofs.body.Body.put_all.Goals as goal

pub loop-rest-init : goal.loop-rest-init
loop-rest-init c = streamed_none part _ _

pub returns-in_default-clause-value : goal.returns-in_default-clause-value
returns-in_default-clause-value c = λ ts closes.
    let p = c.loop-rest.invariant.left ts closes in
    absurd (some_left c.is_closed.result p.0 _ c.is_closed.ensures c.loop-rest-test.true p.1 (none_begins p.0 _ c.in_default.ensures.1 p.1))

pub loop-rest-preserved : goal.loop-rest-preserved
loop-rest-preserved c = streamed_more part _ _ _ (tree c.in-Some.term) _ _ _ c.loop-rest.invariant c.in-Some.ensures c.in_ok-put.ensures

pub returns-in_err-put-clause-value : goal.returns-in_err-put-clause-value
returns-in_err-put-clause-value c = λ ts closes.
    let p = err_from_is_err_and c.from_residual.result c.from_residual.ensures.1 in
    rw (p.1, p.2) (streamed_stops part _ _ _ (tree c.in-Some.term) _ _ _ _ c.loop-rest.invariant c.in-Some.ensures c.in_err-put.ensures ts closes)

pub returns-clause-value : goal.returns-clause-value
returns-clause-value c = λ ts closes. streamed_all part _ _ _ _ c.loop-rest.invariant (c.loop-rest-test.ensures.0 refl) ts closes

pub returns-clause-whole : goal.returns-clause-whole
returns-clause-whole c = c.loop-rest.invariant.whole none (c.loop-rest-test.ensures.0 refl)
