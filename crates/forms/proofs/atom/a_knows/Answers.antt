use Rattle.std.proofs.Common.{◌≡◌, ◌&&◌, sym, ap, ◌∙◌, rules}
use Rattle.std.proofs.lemmas.Bool.{false≢true}
use Rattle.std.specs.Option.{option_map}
use Rattle.definitions.specs.Form.{Atom, is_term, plain, when}
use Rattle.forms.specs.Atoms.{atom_view}
use Rattle.forms.specs.View.{term_view}
use Rattle.forms.proofs.Shaped.{knows_two, knows_more, when_made}
use Rattle.forms.proofs.atom.a_knows.Goals as goal
use Rattle.forms.proofs.atom.a_knows.Goals.{then-is_term, else-is_term}

pub returns-in_err-fact : goal.returns-in_err-fact
returns-in_err-fact c =
    let e = knows_more c.args.args c.in_ok-first.rest c.in_ok-first.first c.in_ok-first.ensures (λ e. absurd (false≢true (c.if-is_empty.ensures.1 e))) c.in_err-fact.ensures in
    search rules

pub returns : goal.returns
returns c =
    let role = term_view c.in_ok-first.first in
    let fact = term_view c.in_ok-fact.fact in
    let known : c.if-is_term.then_some ≡ (is_term role && plain fact) = elim c.if-is_term.branch [ then-is_term w ↦ search rules | else-is_term w ↦ search rules ] in
    ap (option_map atom_view) c.then_some-2.ensures
    ∙ when_made atom_view c.if-is_term.then_some _
    ∙ ap (λ b. when b (Atom.knows role fact)) known
    ∙ sym (knows_two c.args.args c.in_ok-first.rest c.in_ok-first.first c.in_ok-fact.fact c.in_ok-first.ensures c.in_ok-fact.ensures)
