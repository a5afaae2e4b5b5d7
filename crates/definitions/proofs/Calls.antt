-- What each call leaves: the match as it was, other commits in the same round, or the next round.
use Rattle.std.proofs.Common.{◌≡◌, ℕ, Bool, true, false, not, ltb, leb, length, Some, None, Option, refl}
use Rattle.definitions.specs.Refusal.{Refusal}
use Rattle.definitions.specs.Lists.{upto}
use Rattle.definitions.specs.Ruleset.{roles}
use Rattle.definitions.specs.Deal.{among}
use Rattle.definitions.specs.Play.{next_book, uneven}
use Rattle.definitions.specs.Match.{Table, State, Answer, done, refusal, unless, refused_if, missing, has_move, has_role, is_some, committed, own_moves, with_commit, closed_with, after_commit, after_retract, after_close}

module _ (t : Table) (s : State) (P : State × Answer → Type 0) (stays : (a : Refusal) → P (s, refusal a)) where
  unless_both : (b : Bool) (a : Refusal) (next : State × Answer) → (b ≡ true → P next) → P (unless t b a next s)
  unless_both true a next h = h refl
  unless_both false a next h = stays a

  refused_if_both : (o : Option ℕ) (n : ℕ) (next : State × Answer) → (o ≡ None → P next) → P (refused_if t o n next s)
  refused_if_both None n next h = h refl
  refused_if_both (Some r) n next h = stays _

  pub commit_cases : (r m : ℕ) → (has_move t r m ≡ true → among (own_moves t s r) m ≡ true → P (with_commit t s r (Some m), done)) → P (after_commit t s r m)
  commit_cases r m h =
      unless_both (has_move t r m) _ _
      (λ e. unless_both (not (is_some t (committed t s r))) _ _
      (λ f. unless_both (among (own_moves t s r) m) _ _ (h e)))

  pub retract_cases : (r : ℕ) → (has_role t r ≡ true → P (with_commit t s r None, done)) → P (after_retract t s r)
  retract_cases r h = unless_both (has_role t r) _ _ (λ e. unless_both (is_some t (committed t s r)) _ _ (λ f. h e))

  pub close_cases : (missing t s (upto (roles t.game)) ≡ None → uneven t.game t.deal (next_book t.game t.deal s.plays) ≡ None → P (closed_with t s (next_book t.game t.deal s.plays), done)) → P (after_close t s)
  close_cases h =
      unless_both (not s.untold) _ _
      (λ e. refused_if_both (missing t s (upto (roles t.game))) 19 _
      (λ full. unless_both (ltb s.closed 64) _ _
      (λ f. unless_both (leb (length (next_book t.game t.deal s.plays)) t.places) _ _
      (λ k. refused_if_both (uneven t.game t.deal (next_book t.game t.deal s.plays)) 13 _ (h full)))))
