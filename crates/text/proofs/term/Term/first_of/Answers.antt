use Rattle.std.proofs.Common.{sym}
use Rattle.text.proofs.Firsts.{first_within, first_is_term, no_start}
use Rattle.text.proofs.term.Term.first_of.Goals as goal

pub returns-in_err-first_len : goal.returns-in_err-first_len
returns-in_err-first_len c = rw c.from_residual.ensures (λ t rest. no_start _ t rest (sym c.in_err-first_len.ensures))

pub split_at-requires : goal.split_at-requires
split_at-requires c = first_within _ _ c.in_ok-first_len.ensures

pub invariant_of-result : goal.invariant_of-result
invariant_of-result c = record { whole = first_is_term _ _ _ c.in_ok-first_len.ensures c.split_at.ensures.front }
