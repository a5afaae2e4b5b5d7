-- Which form a term is, by what comes first in it.
use Rattle.std.proofs.Common.{◌≡◌, Bool, true, false, List, [], ◌∷◌, ◌++◌, Some, None, Err, Option, sym, refl, ap, ◌∙◌}
use Rattle.definitions.specs.Form as form
use Rattle.definitions.specs.Form.{Keyword, Rule, spelling, same_word, list, led_by, after, all_of, part, a_rule, map_some}
use Rattle.definitions.specs.Term as terms
use Rattle.definitions.specs.Term.{Tree, none, ◌&◌, Placed, bares}
use Rattle.definitions.proofs.Spelled.{same_word_decides}
use Rattle.forms.specs.declared.fault.FormFault.{FormFault}
use Rattle.forms.specs.Bodies.{Put}
use Rattle.forms.specs.Formed.{FormIs, led_form}

spelt_form : (k : Keyword) (ts : terms.Terms) → led_form k (list ts) (Tree.pair tt (Tree.word tt (spelling k) & ts)) ≡ form.form (Tree.pair tt (Tree.word tt (spelling k) & ts))
spelt_form Keyword.role ts = refl
spelt_form Keyword.init ts = refl
spelt_form Keyword.true_now ts = refl
spelt_form Keyword.next ts = refl
spelt_form Keyword.legal ts = refl
spelt_form Keyword.does ts = refl
spelt_form Keyword.sees ts = refl
spelt_form Keyword.goal ts = refl
spelt_form Keyword.terminal ts = refl
spelt_form Keyword.knows ts = refl
spelt_form Keyword.distinct ts = refl
spelt_form Keyword.negation ts = refl
spelt_form Keyword.disjunction ts = refl
spelt_form Keyword.arrow ts = refl

pub led_form_is : (k : Keyword) (ts : List terms.Term) (u : terms.Term) → led_by k u ≡ Some ts → led_form k ts u ≡ form.form u
led_form_is k ts (Tree.word p w) e = cc
led_form_is k ts (Tree.pair p none) e = cc
led_form_is k ts (Tree.pair p (Tree.pair q us & vs)) e = cc
led_form_is k ts (Tree.pair p (Tree.word q w & vs)) e = go (same_word (spelling k) w) refl e
  where
    go : (b : Bool) → same_word (spelling k) w ≡ b → form.when b (list vs) ≡ Some ts → led_form k ts (Tree.pair tt (Tree.word tt w & vs)) ≡ form.form (Tree.pair tt (Tree.word tt w & vs))
    go false same e = cc
    go true same e =
        let here : list vs ≡ ts = cc in
        let word : spelling k ≡ w = (same_word_decides (spelling k) w).0 same in
        (λ i. led_form k (sym here i) (Tree.pair tt (Tree.word tt (sym word i) & vs))) ∙ spelt_form k vs ∙ ap (λ v. form.form (Tree.pair tt (Tree.word tt v & vs))) word

-- a rule of a head and at least one part
abbrev ruled : terms.Term → Option (List (List (form.Literal terms.Term))) → Option form.Form
ruled h o = after (form.head h) (λ a. map_some (λ ps. form.Form.rules (record { head = a; parts = ps })) o)

pub no_head : (h : terms.Term) (us : List terms.Term) → None ≡ form.head h → a_rule (h ∷ us) ≡ None
no_head h [] led = refl
no_head h (u ∷ us) led = ap (λ o. after o (λ a. map_some (λ ps. form.Form.rules (record { head = a; parts = ps })) (all_of part (u ∷ us)))) (sym led)

pub rule_split : (h : terms.Term) (us : Placed) → (us ≡ none → ⊥) → a_rule (h ∷ list (bares us)) ≡ ruled h (all_of part (list (bares us)))
rule_split h none some = absurd (some refl)
rule_split h (u & us) some = refl

pub rule_stops : (h : terms.Term) (us : Placed) (a : form.Atom terms.Term) (f : FormFault) (old new : List (List (form.Literal terms.Term))) → (us ≡ none → ⊥) → Some a ≡ form.head h → Put (Err f) old new (all_of part (list (bares us))) → FormIs (Err f) (a_rule (h ∷ list (bares us)))
rule_stops h us a (FormFault.Memory e) old new some led put = tt
rule_stops h us a FormFault.Broken old new some led put =
    rule_split h us some ∙ ap (ruled h) put ∙ ap (λ o. after o (λ b. None)) (sym led)

pub rule_whole : (h : terms.Term) (us : Placed) (a : form.Atom terms.Term) (old new : List (List (form.Literal terms.Term))) → (us ≡ none → ⊥) → Some a ≡ form.head h → old ≡ [] → map_some (λ ps. old ++ ps) (all_of part (list (bares us))) ≡ Some new → a_rule (h ∷ list (bares us)) ≡ Some (form.Form.rules (record { head = a; parts = new }))
rule_whole h us a old new some led start put =
    rule_split h us some
    ∙ ap (ruled h) (given (all_of part (list (bares us))) put)
    ∙ ap (λ o. after o (λ b. Some (form.Form.rules (record { head = b; parts = new })))) (sym led)
  where
    given : (o : Option (List (List (form.Literal terms.Term)))) → map_some (λ ps. old ++ ps) o ≡ Some new → o ≡ Some new
    given None e = cc
    given (Some ps) e = ap (λ qs. Some (qs ++ ps)) (sym start) ∙ e
