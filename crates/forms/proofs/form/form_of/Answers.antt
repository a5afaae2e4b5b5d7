use Rattle.std.proofs.Common.{map, Some, sym, ap, ◌∙◌, subst, rules}
use Rattle.definitions.specs.Form as form
use Rattle.definitions.specs.Form.{a_rule, leading, list}
use Rattle.definitions.specs.Term.{bare, bares}
use Rattle.text.specs.View.{token}
use Rattle.forms.specs.Formed.{FormIs, bodiless}
use Rattle.forms.specs.Tokens.{front}
use Rattle.forms.specs.View.{keyword_view}
use Rattle.forms.proofs.Front.{form_led, form_unled, led_bodiless, led_head, opened, rule_within}
use Rattle.forms.proofs.form.form_of.Goals as goal

pub returns-in-Some-Role-clause-value : goal.returns-in-Some-Role-clause-value
returns-in-Some-Role-clause-value c = λ u is.
    let o = opened u c.in-Some.word.now (map token c.in-Some.rest.now) (ap front (sym is) ∙ sym c.in-Some.ensures) in
    subst (FormIs c.declaration_of.result) (sym (form_led u c.in-Some.word.now form.Keyword.role o.behind o.same (sym (ap (λ k. Some (keyword_view k)) (sym c.in-Some-Role.field-0-is) ∙ c.in-Some-Role.ensures)))) (c.declaration_of.ensures.value o.behind o.closes)

pub returns-in-Some-Role-clause-whole : goal.returns-in-Some-Role-clause-whole
returns-in-Some-Role-clause-whole c = rule_within c.declaration_of.result _ _ _ (sym c.in-Some.ensures) c.declaration_of.ensures.whole

pub returns-in-Some-Init-clause-value : goal.returns-in-Some-Init-clause-value
returns-in-Some-Init-clause-value c = λ u is.
    let o = opened u c.in-Some.word.now (map token c.in-Some.rest.now) (ap front (sym is) ∙ sym c.in-Some.ensures) in
    subst (FormIs c.opening_of.result) (sym (form_led u c.in-Some.word.now form.Keyword.init o.behind o.same (sym (ap (λ k. Some (keyword_view k)) (sym c.in-Some-Init.field-0-is) ∙ c.in-Some-Init.ensures)))) (c.opening_of.ensures.value o.behind o.closes)

pub returns-in-Some-Init-clause-whole : goal.returns-in-Some-Init-clause-whole
returns-in-Some-Init-clause-whole c = rule_within c.opening_of.result _ _ _ (sym c.in-Some.ensures) c.opening_of.ensures.whole

pub returns-in-Some-Arrow-clause-value : goal.returns-in-Some-Arrow-clause-value
returns-in-Some-Arrow-clause-value c = λ u is.
    let o = opened u c.in-Some.word.now (map token c.in-Some.rest.now) (ap front (sym is) ∙ sym c.in-Some.ensures) in
    subst (FormIs c.rule_of.result) (sym (form_led u c.in-Some.word.now form.Keyword.arrow o.behind o.same (sym (ap (λ k. Some (keyword_view k)) (sym c.in-Some-Arrow.field-0-is) ∙ c.in-Some-Arrow.ensures)))) (c.rule_of.ensures.value o.behind o.closes)

pub returns-in-Some-Arrow-clause-whole : goal.returns-in-Some-Arrow-clause-whole
returns-in-Some-Arrow-clause-whole c = rule_within c.rule_of.result _ _ _ (sym c.in-Some.ensures) c.rule_of.ensures.whole

pub returns-in-Some-keyword_of : goal.returns-in-Some-keyword_of
returns-in-Some-keyword_of c =
    record {
      value = λ u is.
          let o = opened u c.in-Some.word.now (map token c.in-Some.rest.now) (ap front (sym is) ∙ sym c.in-Some.ensures) in
          let k = keyword_view c.in-Some-keyword_of.k in
          let same =
          form_led u c.in-Some.word.now k o.behind o.same (sym c.in-Some-keyword_of.ensures)
          ∙ led_bodiless c.in-Some-keyword_of.k (list (bares o.behind)) (bare u) (search rules) (search rules) (search rules)
          ∙ ap bodiless o.same
          ∙ led_head c.in-Some.word.now k (bares o.behind) (sym c.in-Some-keyword_of.ensures) in
          subst (FormIs c.led_fact.result) (sym same) (c.led_fact.ensures.value o.behind o.closes);
      whole = rule_within c.led_fact.result _ _ _ (sym c.in-Some.ensures) c.led_fact.ensures.whole;
    }

pub returns-in-None-clause-value : goal.returns-in-None-clause-value
returns-in-None-clause-value c = λ u is.
    let o = opened u c.in-Some.word.now (map token c.in-Some.rest.now) (ap front (sym is) ∙ sym c.in-Some.ensures) in
    let same = ap form.form o.same ∙ form_unled c.in-Some.word.now (bares o.behind) (sym c.in-None.ensures) ∙ ap bodiless (sym o.same) in
    subst (FormIs c.plain_fact.result) (sym same) (c.plain_fact.ensures.value c.in-Some.word.now u (ap leading o.same) (sym c.in-None.ensures) is)
