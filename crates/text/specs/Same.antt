-- Equality of terms is symmetric and transitive.
use Rattle.std.specs.Cmp.{IsPartialEquivalence}
use Rattle.std.proofs.Common.{◌≡◌, Bool, Decides, sym, ◌∙◌}
use Rattle.std.proofs.lemmas.Bool.Decides.{same_from_decides}
use Rattle.definitions.specs.Form.{same_term}
use Rattle.definitions.specs.Term.{bare}
use Rattle.definitions.proofs.Spelled.{same_term_decides}
use Rattle.text.specs.declared.term.Term.{Term}
use Rattle.text.specs.Terms.{tree}

abbrev pub same : Term → Term → Bool
same t u = same_term (bare (tree t)) (bare (tree u))

decides : (t u : Term) → Decides (same t u) (bare (tree t) ≡ bare (tree u))
decides t u = same_term_decides (bare (tree t)) (bare (tree u))

pub same_laws : IsPartialEquivalence same
same_laws = record {
  symm = λ t u. same_from_decides (same t u) (same u t) (decides t u) ((λ e. sym ((decides u t).0 e)), (λ e. (decides u t).1 (sym e)));
  trans = λ t u v e f. (decides t v).1 ((decides t u).0 e ∙ (decides u v).0 f);
}
