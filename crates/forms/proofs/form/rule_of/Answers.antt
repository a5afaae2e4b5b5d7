use Rattle.std.proofs.Common.{refl, ap, ◌∙◌}
use Rattle.std.proofs.lemmas.Result.{err_from_is_err_and}
use Rattle.definitions.specs.Form.{a_rule, list}
use Rattle.definitions.specs.Term.{◌&◌, bares}
use Rattle.text.specs.Terms.{tree}
use Rattle.forms.specs.Atoms.{atom_view}
use Rattle.forms.specs.View.{term_view}
use Rattle.forms.proofs.Formed.{no_head, rule_stops, rule_whole}
use Rattle.forms.proofs.Front.{some_left}
use Rattle.forms.proofs.Streamed.{behind_first, closed_none, closes_first, none_begins}
use Rattle.forms.proofs.form.rule_of.Goals as goal

pub returns-in_default-clause-value : goal.returns-in_default-clause-value
returns-in_default-clause-value c = λ ts closes. ap (λ us. a_rule (list (bares us))) (none_begins ts _ c.in_default.ensures closes)

pub returns-then-is_closed-clause-value : goal.returns-then-is_closed-clause-value
returns-then-is_closed-clause-value c = λ ts closes.
    let b = behind_first (tree c.in-Some.first) ts _ _ c.in-Some.ensures closes in
    ap (λ us. a_rule (list (bares us))) (b.split ∙ ap (λ us. tree c.in-Some.first & us) (closed_none b.others _ (c.if-is_closed.ensures.0 refl) b.closes))

pub returns-in_default-head_of-clause-value : goal.returns-in_default-head_of-clause-value
returns-in_default-head_of-clause-value c = λ ts closes.
    let b = behind_first (tree c.in-Some.first) ts _ _ c.in-Some.ensures closes in
    ap (λ us. a_rule (list (bares us))) b.split ∙ no_head (term_view c.in-Some.first) (list (bares b.others)) c.in_default-head_of.ensures

pub returns-in_err-put_all-clause-value : goal.returns-in_err-put_all-clause-value
returns-in_err-put_all-clause-value c = λ ts closes.
    let p = err_from_is_err_and c.from_residual.result c.from_residual.ensures.1 in
    let b = behind_first (tree c.in-Some.first) ts _ _ c.in-Some.ensures closes in
    rw (b.split, p.1, p.2) (rule_stops (term_view c.in-Some.first) b.others (atom_view c.in-Some-head_of.head) _ _ _ (some_left c.is_closed.result b.others _ c.is_closed.ensures c.if-is_closed.false b.closes) c.in-Some-head_of.ensures (c.in_err-put_all.ensures.value b.others b.closes))

pub returns-clause-value : goal.returns-clause-value
returns-clause-value c = λ ts closes.
    let b = behind_first (tree c.in-Some.first) ts _ _ c.in-Some.ensures closes in
    ap (λ us. a_rule (list (bares us))) b.split
    ∙ rule_whole (term_view c.in-Some.first) b.others (atom_view c.in-Some-head_of.head) _ _ (some_left c.is_closed.result b.others _ c.is_closed.ensures c.if-is_closed.false b.closes) c.in-Some-head_of.ensures c.new-body.ensures (c.in_ok-put_all.ensures.value b.others b.closes)

pub returns-clause-whole : goal.returns-clause-whole
returns-clause-whole c =
    let p = c.in_ok-put_all.ensures.whole in
    (tree c.in-Some.first & p.0, closes_first (tree c.in-Some.first) p.0 _ _ c.in-Some.ensures p.1)
