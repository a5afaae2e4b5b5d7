use Rattle.std.proofs.Common.{map, ap, rules}
use Rattle.std.proofs.lemmas.Bool.{false≢true}
use Rattle.definitions.specs.Term.{bare}
use Rattle.forms.specs.View.{keyword_view, term_view, terms_view}
use Rattle.forms.proofs.Heads.{head_more}
use Rattle.forms.proofs.atom.head_keyword.Goals as goal

pub returns-in_err-only : goal.returns-in_err-only
returns-in_err-only c =
    let e = head_more (keyword_view c.args.k) (terms_view c.args.args) (term_view c.in_ok-first.first) c.in_ok-first.rest (ap (map bare) c.in_ok-first.ensures) (λ e. absurd (false≢true (c.if-is_empty.ensures.1 e))) c.in_err-only.ensures in
    search rules
