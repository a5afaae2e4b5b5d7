use Rattle.std.proofs.Common.{refl}
use Rattle.text.proofs.Spelt.{inside}
use Rattle.text.proofs.term.Term.parts.Goals as goal

pub invariant_of-result : goal.invariant_of-result
invariant_of-result c = record { whole = (inside c.args.self.tokens.now _ _ c.args.self.whole c.in-len2-up.len_at_least refl).2 }

pub returns-in-len2-up : goal.returns-in-len2-up
returns-in-len2-up c =
    let p = inside c.args.self.tokens.now _ _ c.args.self.whole c.in-len2-up.len_at_least refl in
    rw p.1 refl
