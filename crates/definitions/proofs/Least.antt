-- Where levels fit at all, those that are computed fit and are the least.
use Rattle.std.proofs.Common.{◌≡◌, ℕ, ◌-◌, ◌<◌, ◌≤◌, max, Bool, true, eqb, ◌⊎◌, List, [], length, inl, inr, arith}
use Rattle.std.proofs.lemmas.Bool.{cases_lt, eqb-true, eq-eqb}
use Rattle.definitions.specs.Form.{Atom, Rule}
use Rattle.definitions.specs.Lists.{In, repeat}
use Rattle.definitions.specs.Level.{Respects, Least, level_in, raise, levels, level}
use Rattle.definitions.proofs.Listed.{total, total_grows, total_rises, count, count_length, count_rises, repeat_keeps, repeat_settles}
use Rattle.definitions.proofs.Ranks.{Ranks, Under, asked_use, asked_strict, raise_grows, raise_asks, raise_under}

module _ (rules : List (Rule ℕ)) where
  abbrev Settled : Ranks → Type 0
  Settled ls = Respects (level_in ls) rules

  respects_same : (l k : Atom ℕ → ℕ) → Under l k → Under k l → Respects l rules → Respects k rules
  respects_same l k up down fits r i =
      (λ a j. omega (arith, (fits r i).0 a j, down a, up r.head), λ a j. omega (arith, (fits r i).1 a j, down a, up r.head))

  settled_stays : (ls : Ranks) → Settled ls → Settled (raise rules ls)
  settled_stays ls fits =
      respects_same (level_in ls) (level_in (raise rules ls)) (raise_grows rules ls) (raise_under rules (level_in ls) fits ls (λ a. omega arith)) fits

  turns_under : (other : Atom ℕ → ℕ) → Respects other rules → (n : ℕ) → Under (level_in (repeat n (raise rules) [])) other
  turns_under other fits n = repeat_keeps (raise rules) (λ ls. Under (level_in ls) other) (raise_under rules other fits) n [] (λ a. omega arith)

  -- the levels of the heads together
  abbrev heights : Ranks → ℕ
  heights ls = total (λ r. level_in ls r.head) rules

  settled_or_higher : (ls : Ranks) → Settled ls ⊎ (heights ls < heights (raise rules ls))
  settled_or_higher ls =
      elim (total_rises (λ r. level_in ls r.head) (λ r. level_in (raise rules ls) r.head) rules (λ r i. raise_grows rules ls r.head)) [
        | inl up ↦ inr up
        | inr same ↦ inl (λ r i. (
          λ a j. omega (arith, asked_use ls r a j, raise_asks i ls, same r i),
          λ a j. omega (arith, asked_strict ls r a j, raise_asks i ls, same r i),
        ))
      ]

  some_least : (other : Atom ℕ → ℕ) → Respects other rules → (l : Atom ℕ → ℕ) × Least l rules
  some_least other fits = (level_in (repeat enough (raise rules) []), record { fits = settled; least = λ l k. turns_under l k enough })
    where
      enough : ℕ
      enough = total (λ r. other r.head) rules

      settled : Settled (repeat enough (raise rules) [])
      settled =
          repeat_settles (raise rules) (λ ls. Under (level_in ls) other) Settled (raise_under rules other fits) settled_stays
          heights enough (λ ls under. total_grows _ _ rules (λ r i. under r.head)) (λ ls under. settled_or_higher ls)
          enough [] (λ a. omega arith) (omega arith)

  module _ (best : Atom ℕ → ℕ) (is : Least best rules) where
    -- the head of a rule has its last level already, or a turn does not bring it there
    abbrev Waits : Ranks → Rule ℕ → Type 0
    Waits ls r = (level_in (raise rules ls) r.head < best r.head) ⊎ (best r.head ≤ level_in ls r.head)

    raised_under : (ls : Ranks) → Under (level_in ls) best → Under (level_in (raise rules ls)) best
    raised_under = raise_under rules best is.fits

    -- else levels that are one lower wherever the last is not reached would fit
    settled_waits : (ls : Ranks) → Under (level_in ls) best → ((r : Rule ℕ) → In r rules → Waits ls r) → Settled ls
    settled_waits ls under waits = respects_same best (level_in ls) (λ a. omega (arith, is.least lower fits a)) under is.fits
      where
        lower : Atom ℕ → ℕ
        lower a = max (level_in ls a) (best a - 1)

        fits : Respects lower rules
        fits r i =
            let top = raised_under ls under r.head in
            let asks = raise_asks i ls in
            let now = waits r i in (
              λ a j. omega (arith, asked_use ls r a j, (is.fits r i).0 a j),
              λ a j. omega (arith, asked_strict ls r a j, (is.fits r i).1 a j),
            )

    abbrev final : Ranks → Rule ℕ → Bool
    final ls r = eqb (level_in ls r.head) (best r.head)

    settled_or_final : (ls : Ranks) → Under (level_in ls) best → Settled ls ⊎ (count (final ls) rules < count (final (raise rules ls)) rules)
    settled_or_final ls under =
        elim (count_rises (final ls) (final (raise rules ls)) rules (λ r i e. eq-eqb _ _ (omega (arith, eqb-true _ _ e, raise_grows rules ls r.head, raised_under ls under r.head)))) [
          | inl up ↦ inr up
          | inr same ↦ inl (settled_waits ls under (λ r i. waits r (same r i) (cases_lt (level_in (raise rules ls) r.head) (best r.head))))
        ]
      where
        waits : (r : Rule ℕ) → (final (raise rules ls) r ≡ true → final ls r ≡ true) → (level_in (raise rules ls) r.head < best r.head) ⊎ (best r.head ≤ level_in (raise rules ls) r.head) → Waits ls r
        waits r same (inl low) = inl low
        waits r same (inr high) = inr (omega (arith, eqb-true _ _ (same (eq-eqb _ _ (omega (arith, raised_under ls under r.head))))))

    levels_settle : Settled (levels rules)
    levels_settle =
        repeat_settles (raise rules) (λ ls. Under (level_in ls) best) Settled raised_under settled_stays
        (λ ls. count (final ls) rules) (length rules) (λ ls under. count_length (final ls) rules) settled_or_final
        (length rules) [] (λ a. omega arith) (omega arith)

pub least_levels : (rules : List (Rule ℕ)) (other : Atom ℕ → ℕ) → Respects other rules → Least (level rules) rules
least_levels rules other fits =
    let best = some_least rules other fits in
    record { fits = levels_settle rules best.0 best.1; least = λ l k. turns_under rules l k (length rules) }
