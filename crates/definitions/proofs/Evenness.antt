-- The lowest player for whom a book is not even.
use Rattle.std.proofs.Common.{◌≡◌, ℕ, zero, suc, ◌+◌, ◌<◌, ◌≤◌, Bool, true, false, not, ◌&&◌, List, [], length, get_or, Some, None, Decides, Option, subst₂, ⊎_elim, arith, MatchOption}
use Rattle.std.proofs.lemmas.List.FromFn.{length-map-range_with_len}
use Rattle.std.proofs.lemmas.Bool.{and_parts, and_cases, both_ways, cond_both, cases_eq, cases_Bool, not_from_false, not-true}
use Rattle.std.proofs.lemmas.Bool.Decides.{not_from_Decides, Decides-like, Decides-not, Decides-and}
use Rattle.definitions.specs.Form.{Atom, same_word}
use Rattle.definitions.specs.Lists.{In, from_to}
use Rattle.definitions.specs.Level.{highest}
use Rattle.definitions.specs.Ruleset.{Game, roles}
use Rattle.definitions.specs.Deal.{Deal}
use Rattle.definitions.specs.Knowledge.{Frame, deeper, knowing}
use Rattle.definitions.specs.Play.{Play, alike, nth, frame, knowledge, legal_moves, each_with, is_player, tells_apart, first_role, uneven, Even, EvennessJudged}
use Rattle.definitions.proofs.Listed.{any_decides, true_itself, repeat_keeps}
use Rattle.definitions.proofs.Beside.{each_in, in_each}
use Rattle.definitions.proofs.Spelled.{same_word_decides}

pub knowing_length : (g : Game) (f : Frame) → length (knowing g f) ≡ f.size
knowing_length g f = repeat_keeps (deeper g f) (λ K. length K ≡ f.size) (λ K h. length-map-range_with_len _ 0 f.size) (suc (highest g.rules)) _ (length-map-range_with_len (λ w. []) 0 f.size)

module _ (g : Game) (d : Deal) (ps : List Play) (r : ℕ) where
  -- a play with its legal moves
  abbrev Moved : Type 0
  Moved = Play × List ℕ

  abbrev moved_at : ℕ → Moved
  moved_at i = (nth ps i, legal_moves g (nth ps i) (get_or (knowledge g d ps) i []) r)

  abbrev Apart : Moved → Moved → Type 0
  Apart x y = (alike d r x.0 y.0 ≡ true) × (x.1 ≡ y.1 → ⊥)

  abbrev Uneven : Type 0
  Uneven = (i j : ℕ) × (i < length ps) × (j < length ps) × Apart (moved_at i) (moved_at j)

  tells_apart_decides : Decides (tells_apart g d ps r) Uneven
  tells_apart_decides = Decides-like _ places pairs (any_decides _ (λ x. (y : Moved) × In y ls × Apart x y) (λ x. any_decides _ (Apart x) (λ y. apart_decides x y) ls) ls)
    where
      moved : Play → List (Atom ℕ) → Moved
      moved p K = (p, legal_moves g p K r)

      ls : List Moved
      ls = each_with g moved ps (knowledge g d ps)

      apart_decides : (x y : Moved) → Decides (alike d r x.0 y.0 && not (same_word x.1 y.1)) (Apart x y)
      apart_decides x y = Decides-and _ _ (true_itself _) (Decides-not _ (same_word_decides x.1 y.1))

      places : (x : Moved) × In x ls × ((y : Moved) × In y ls × Apart x y) → Uneven
      places h =
          let (x, k, (y, l, apart)) = h in
          let (i, low, e) = each_in g moved ps (knowledge g d ps) k in
          let (j, below, f) = each_in g moved ps (knowledge g d ps) l in
          (i, j, low, below, subst₂ Apart e f apart)

      at_place : (i : ℕ) → i < length ps → In (moved_at i) ls
      at_place i low = in_each g moved ps (knowledge g d ps) i low (omega (arith, knowing_length g (frame d ps)))

      pairs : Uneven → (x : Moved) × In x ls × ((y : Moved) × In y ls × Apart x y)
      pairs h = let (i, j, low, below, apart) = h in (moved_at i, at_place i low, (moved_at j, at_place j below, apart))

  even_decides : Decides (not (tells_apart g d ps r)) (Even g d ps r)
  even_decides = Decides-like _ even (λ e u. let (i, j, low, below, apart) = u in apart.1 (e i j low below apart.0)) (Decides-not _ tells_apart_decides)
    where
      even : (Uneven → ⊥) → Even g d ps r
      even none i j low below same =
          let moves = same_word_decides (moved_at i).1 (moved_at j).1 in
          ⊎_elim moves.0 (λ e. absurd (none (i, j, low, below, (same, not_from_Decides _ moves e)))) (cases_Bool _)

-- the lowest of the n numbers from a that passes a test, if one does
abbrev Lowest : (ℕ → Bool) → ℕ → ℕ → Option ℕ → Type 0
Lowest test a n o =
    MatchOption o
    ((r : ℕ) → a ≤ r → r < a + n → test r ≡ false)
    (λ r. (r < a + n) × (test r ≡ true) × ((q : ℕ) → a ≤ q → q < r → test q ≡ false))

first_role_lowest : (g : Game) (test : ℕ → Bool) (a n : ℕ) → Lowest test a n (first_role g test (from_to a n))
first_role_lowest g test a zero = λ r low high. absurd (omega arith)
first_role_lowest g test a (suc n) =
    cond_both (test a) (Some a) (first_role g test (from_to (a + 1) n)) (Lowest test a (suc n))
    (λ e. (omega arith, e, λ q low high. absurd (omega arith)))
    (λ e. later e (first_role g test (from_to (a + 1) n)) (first_role_lowest g test (a + 1) n))
  where
    past : test a ≡ false → (q : ℕ) → a ≤ q → (a + 1 ≤ q → test q ≡ false) → test q ≡ false
    past e q low on = ⊎_elim (λ s. rw s e) (λ s. on (omega arith)) (cases_eq q a)

    later : test a ≡ false → (o : Option ℕ) → Lowest test (a + 1) n o → Lowest test a (suc n) o
    later e None h = λ r low high. past e r low (λ more. h r more (omega arith))
    later e (Some r) h = (omega arith, h.1, λ q low high. past e q low (λ more. h.2 q more high))

pub evenness_judged : EvennessJudged
evenness_judged g d ps = go (uneven g d ps) (first_role_lowest g test 0 (roles g))
  where
    test : ℕ → Bool
    test r = is_player g r && tells_apart g d ps r

    even : (r : ℕ) → test r ≡ false → is_player g r ≡ true → Even g d ps r
    even r e player = (even_decides g d ps r).0 (not_from_false _ (⊎_elim (λ f. absurd (both_ways _ f player)) (λ f. f) (and_cases _ _ e)))

    go : (o : Option ℕ) → Lowest test 0 (roles g) o
        → MatchOption o ((r : ℕ) → r < roles g → is_player g r ≡ true → Even g d ps r) (λ r. (r < roles g) × (is_player g r ≡ true) × (Even g d ps r → ⊥) × ((q : ℕ) → q < r → is_player g q ≡ true → Even g d ps q))
    go None h = λ r low. even r (h r (omega arith) (omega arith))
    go (Some r) h =
        let (player, apart) = and_parts _ _ h.1 in
        (omega arith, player, λ e. both_ways _ (not-true _ ((even_decides g d ps r).1 e)) apart, λ q low. even q (h.2 q (omega arith) low))
