-- The worlds that are reached from a world are those that chains lead to.
use Rattle.std.proofs.Common.{◌≡◌, ℕ, ◌<◌, true, ◌||◌, ◌⊎◌, List, [], ◌∷◌, Decides, inl, inr, ⊎_elim, arith}
use Rattle.std.proofs.lemmas.List.FromFn.{length-range_with_len}
use Rattle.std.proofs.lemmas.Bool.Decides.{Decides-like, Decides-or}
use Rattle.definitions.specs.Lists.{In, here, there, any, upto}
use Rattle.definitions.specs.Deal.{among}
use Rattle.definitions.specs.Ruleset.{Game, roles}
use Rattle.definitions.specs.Knowledge.{Frame, Chain, none, more, linked, onward, chained}
use Rattle.definitions.proofs.Listed.{in_keep, keep_in, any_decides, any_true, count, count_length, count_rises, repeat_keeps, repeat_settles}
use Rattle.definitions.proofs.Upto.{upto_in, in_upto, among_decides}

pub chain_below : {n : ℕ} {f : Frame} {w v : ℕ} → w < f.size → Chain n f w v → v < f.size
chain_below h none = h
chain_below h (more r c low below e) = below

module _ (g : Game) (f : Frame) where
  -- one step from v to u
  abbrev Link : ℕ → ℕ → Type 0
  Link v u = (r : ℕ) × (r < roles g) × (f.alike r v u ≡ true)

  linked_decides : (v u : ℕ) → Decides (linked g f v u) (Link v u)
  linked_decides v u =
      Decides-like _ (λ h. (h.0, upto_in _ h.1, h.2)) (λ h. (h.0, in_upto h.1, h.2))
      (any_true (λ r. f.alike r v u) (upto (roles g)))

  -- what a turn has of the worlds vs: these, and where a step leads from them
  abbrev Next : List ℕ → ℕ → Type 0
  Next vs u = In u vs ⊎ ((v : ℕ) × In v vs × Link v u)

  next_decides : (vs : List ℕ) (u : ℕ) → Decides (among vs u || any (λ v. linked g f v u) vs) (Next vs u)
  next_decides vs u = Decides-or _ _ (among_decides vs u) (any_decides (λ v. linked g f v u) (λ v. Link v u) (λ v. linked_decides v u) vs)

  onward_in : (vs : List ℕ) {u : ℕ} → In u (onward g f vs) → (u < f.size) × Next vs u
  onward_in vs {u} i = let k = keep_in _ (upto f.size) i in (upto_in _ k.0, (next_decides vs u).0 k.1)

  in_onward : (vs : List ℕ) {u : ℕ} → u < f.size → Next vs u → In u (onward g f vs)
  in_onward vs {u} low h = in_keep _ (in_upto low) ((next_decides vs u).1 h)

  abbrev Closed : List ℕ → Type 0
  Closed vs = (u : ℕ) → In u (onward g f vs) → In u vs

  stays_closed : (vs : List ℕ) → Closed vs → Closed (onward g f vs)
  stays_closed vs closed u i =
      let k = onward_in (onward g f vs) i in
      ⊎_elim (λ j. j) (λ l. in_onward vs k.0 (inr (l.0, closed l.0 l.1, l.2))) k.1

  -- the number of worlds among some
  abbrev extent : List ℕ → ℕ
  extent vs = count (among vs) (upto f.size)

  among_onward : (vs : List ℕ) (u : ℕ) → In u (upto f.size) → among vs u ≡ true → among (onward g f vs) u ≡ true
  among_onward vs u i e = (among_decides (onward g f vs) u).1 (in_onward vs (upto_in _ i) (inl ((among_decides vs u).0 e)))

  closed_or_more : (vs : List ℕ) → Closed vs ⊎ (extent vs < extent (onward g f vs))
  closed_or_more vs =
      let next = onward g f vs in
      ⊎_elim inr
      (λ old. inl λ u i. (among_decides vs u).0 (old u (in_upto (onward_in vs i).0) ((among_decides next u).1 i)))
      (count_rises (among vs) (among next) (upto f.size) (among_onward vs))

  chained_closed : (w : ℕ) → Closed (chained g f w)
  chained_closed w =
      repeat_settles (onward g f) (λ vs. Unit {0}) Closed (λ vs h. tt) stays_closed extent f.size
      (λ vs h. omega (arith, count_length (among vs) (upto f.size), length-range_with_len 0 f.size))
      (λ vs h. closed_or_more vs) f.size (w ∷ []) tt (omega arith)

  pub chained_decides : (w v : ℕ) → w < f.size → Decides (among (chained g f w) v) (Chain (roles g) f w v)
  chained_decides w v low = Decides-like _ (led v) reached (among_decides (chained g f w) v)
    where
      Led : List ℕ → Type 0
      Led vs = (u : ℕ) → In u vs → Chain (roles g) f w u

      led_on : (vs : List ℕ) → Led vs → Led (onward g f vs)
      led_on vs h u i =
          let k = onward_in vs i in
          ⊎_elim (h u) (λ l. more l.2.0 (h l.0 l.1) l.2.1 k.0 l.2.2) k.1

      led_first : Led (w ∷ [])
      led_first u here = none
      led_first u (there i) = elim i [ ]

      led : Led (chained g f w)
      led = repeat_keeps (onward g f) Led led_on f.size (w ∷ []) led_first

      reached : {u : ℕ} → Chain (roles g) f w u → In u (chained g f w)
      reached none = repeat_keeps (onward g f) (In w) (λ vs i. in_onward vs low (inl i)) f.size (w ∷ []) here
      reached (more r c few below e) = chained_closed w _ (in_onward (chained g f w) below (inr (_, reached c, (r, few, e))))
