-- While no round is closed a match has the plays with which it began.
use Rattle.std.proofs.Common.{◌≡◌, ℕ, ◌<◌, ◌⊎◌, List, [], ◌∷◌, Some, None, Option, refl, inl, inr, arith}
use Rattle.definitions.specs.Play.{next_book}
use Rattle.definitions.specs.Match.{Table, State, Call, with_commit, closed_with, all_told, step}
use Rattle.definitions.specs.Law.{Request, call, end}
use Rattle.definitions.proofs.Calls.{commit_cases, retract_cases, close_cases}

-- a round is closed, or the plays are those of s
abbrev ClosedOrLike : State → State → Type 0
ClosedOrLike s u = (0 < u.closed) ⊎ ((u.plays ≡ s.plays) × (u.real ≡ s.real))

-- what holds of a state and of each that a call may leave in its place holds after the call
module _ (t : Table) (P : State → Type 0) where
  pub step_keeps : (u : State) → P u → ((r : ℕ) (o : Option ℕ) → P (with_commit t u r o)) → P (closed_with t u (next_book t.game t.deal u.plays)) → P (all_told t u) → (c : Call) → P (step t u c).0
  step_keeps u old chosen more told (Call.commit r m) = commit_cases t u (λ x. P x.0) (λ a. old) r m (λ e f. chosen r (Some m))
  step_keeps u old chosen more told (Call.retract r) = retract_cases t u (λ x. P x.0) (λ a. old) r (λ e. chosen r None)
  step_keeps u old chosen more told Call.close = close_cases t u (λ x. P x.0) (λ a. old) (λ full even. more)
  step_keeps u old chosen more told Call.tell = told
  step_keeps u old chosen more told (Call.moves r) = old
  step_keeps u old chosen more told (Call.known r p) = old
  step_keeps u old chosen more told (Call.common p) = old
  step_keeps u old chosen more told Call.rounds = old
  step_keeps u old chosen more told (Call.holds p) = old
  step_keeps u old chosen more told Call.terminal = old
  step_keeps u old chosen more told (Call.goal r) = old
  step_keeps u old chosen more told Call.plays = old

module _ (t : Table) (s : State) where
  end_like : (u : State) (xs : List Request) → ClosedOrLike s u → ClosedOrLike s (end t u xs)
  end_like u [] h = h
  end_like u (x ∷ xs) h = end_like (step t u (call x)).0 xs (step_keeps t (ClosedOrLike s) u h (λ r o. h) (inl (omega arith)) h (call x))

pub unclosed_plays : (t : Table) (s : State) (xs : List Request) → (end t s xs).closed ≡ 0 → ((end t s xs).plays ≡ s.plays) × ((end t s xs).real ≡ s.real)
unclosed_plays t s xs e = elim (end_like t s s xs (inr (refl, refl))) [ inl some ↦ absurd (omega arith) | inr same ↦ same ]
