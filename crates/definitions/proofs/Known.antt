-- A row of knowledge has exactly what is known where the facts hold that the rows before give.
use Rattle.std.proofs.Common.{◌≡◌, ℕ, ◌<◌, Bool, true, false, not, ◌||◌, ◌⊎◌, List, [], ◌++◌, map, length, get_or, Decides, refl, ap, inl, inr, ⊎_elim}
use Rattle.std.proofs.lemmas.Bool.{false≢true}
use Rattle.std.proofs.lemmas.Bool.Decides.{Decides-at, Decides-like}
use Rattle.definitions.specs.Form.{Atom}
use Rattle.definitions.specs.Lists.{In, joined, keep, upto}
use Rattle.definitions.specs.Level.{member}
use Rattle.definitions.specs.Holds.{holds}
use Rattle.definitions.specs.Deal.{among}
use Rattle.definitions.specs.Ruleset.{Game, roles}
use Rattle.definitions.specs.Knowledge.{Frame, Chain, position, truths, chained, true_in, known_in, deeper}
use Rattle.definitions.proofs.Listed.{in_left, in_right, in_append, in_joined, joined_in, in_keep, keep_in, all_true}
use Rattle.definitions.proofs.Atoms.{member_decides}
use Rattle.definitions.proofs.Upto.{map_in, in_map, upto_in, in_upto, get_or_map_upto, among_decides}
use Rattle.definitions.proofs.Chains.{chain_below, chained_decides}

-- the number of a game's facts
abbrev pub facts : Game → ℕ
facts g = length g.names.facts

abbrev pub rows : List (List (Atom ℕ)) → ℕ → List (Atom ℕ)
rows K w = get_or K w []

-- the knows atoms of n roles and m facts that pass a test each
abbrev owned : ℕ → ℕ → (ℕ → ℕ → Bool) → List (Atom ℕ)
owned n m own = joined (λ r. map (λ p. Atom.knows r p) (keep (own r) (upto m))) (upto n)

abbrev listed : ℕ → ℕ → (ℕ → ℕ → Bool) → (ℕ → Bool) → List (Atom ℕ)
listed n m own shared = owned n m own ++ map (λ p. Atom.common p) (keep shared (upto m))

module _ (n m : ℕ) (own : ℕ → ℕ → Bool) (shared : ℕ → Bool) where
  listed_in : (a : Atom ℕ) → In a (listed n m own shared) → ((r p : ℕ) × (a ≡ Atom.knows r p) × (own r p ≡ true)) ⊎ ((p : ℕ) × (a ≡ Atom.common p) × (shared p ≡ true))
  listed_in a i = ⊎_elim (λ j. inl (left j)) (λ j. inr (right j)) (in_append (owned n m own) _ i)
    where
      left : In a (owned n m own) → (r p : ℕ) × (a ≡ Atom.knows r p) × (own r p ≡ true)
      left j =
          let (r, k, h) = joined_in _ (upto n) j in
          let (p, l, e) = map_in (λ q. Atom.knows r q) (keep (own r) (upto m)) h in
          (r, p, e, (keep_in (own r) (upto m) l).1)

      right : In a (map (λ p. Atom.common p) (keep shared (upto m))) → (p : ℕ) × (a ≡ Atom.common p) × (shared p ≡ true)
      right j = let (p, l, e) = map_in (λ q. Atom.common q) _ j in (p, e, (keep_in shared (upto m) l).1)

  listed_own : (r p : ℕ) → r < n → p < m → Decides (member (listed n m own shared) (Atom.knows r p)) (own r p ≡ true)
  listed_own r p few low =
      Decides-like _ (λ i. ⊎_elim (λ s. let (q, l, e, t) = s in cc) (λ s. let (q, e, t) = s in cc) (listed_in _ i))
      (λ e. in_left _ (in_joined (λ s. map (λ q. Atom.knows s q) (keep (own s) (upto m))) (in_upto few) (in_map (λ q. Atom.knows r q) (in_keep (own r) (in_upto low) e))))
      (member_decides (listed n m own shared) (Atom.knows r p))

  listed_shared : (p : ℕ) → p < m → Decides (member (listed n m own shared) (Atom.common p)) (shared p ≡ true)
  listed_shared p low =
      Decides-like _ (λ i. ⊎_elim (λ s. let (q, l, e, t) = s in cc) (λ s. let (q, e, t) = s in cc) (listed_in _ i))
      (λ e. in_right (owned n m own) (in_map (λ q. Atom.common q) (in_keep shared (in_upto low) e)))
      (member_decides (listed n m own shared) (Atom.common p))

either_decides : {P : Type 0} (a b : Bool) → Decides b P → Decides (not a || b) (a ≡ true → P)
either_decides true b d = (λ e h. d.0 e, λ h. d.1 (h refl))
either_decides false b d = (λ e h. absurd (false≢true h), λ h. refl)

module _ (g : Game) (f : Frame) where
  -- the fact holds in a world with these rows
  abbrev pub TrueAt : (ℕ → List (Atom ℕ)) → ℕ → ℕ → Type 0
  TrueAt K p v = holds g.rules (position f K v) (Atom.fact p) ≡ true

  -- K has what is known where facts hold by J
  pub record Known (J K : ℕ → List (Atom ℕ)) : Type 0 where
    pub own : (w r p : ℕ) → w < f.size → r < roles g → p < facts g → Decides (member (K w) (Atom.knows r p)) ((v : ℕ) → v < f.size → f.alike r w v ≡ true → TrueAt J p v)
    pub shared : (w p : ℕ) → w < f.size → p < facts g → Decides (member (K w) (Atom.common p)) ((v : ℕ) → Chain (roles g) f w v → TrueAt J p v)

  true_in_decides : (K : List (List (Atom ℕ))) (p v : ℕ) → p < facts g → v < f.size → Decides (true_in g f (truths g f K) p v) (TrueAt (rows K) p v)
  true_in_decides K p v few low =
      let test : ℕ → Bool = λ q. holds g.rules (position f (rows K) v) (Atom.fact q) in
      let row : get_or (truths g f K) v [] ≡ keep test (upto (facts g)) = get_or_map_upto _ f.size v [] low in
      Decides-at _ _ (ap (λ ts. among ts p) row)
      (Decides-like _ (λ i. (keep_in test (upto (facts g)) i).1) (λ e. in_keep test (in_upto few) e) (among_decides (keep test (upto (facts g))) p))

  module _ (K : List (List (Atom ℕ))) (w : ℕ) (low : w < f.size) where
    row_known : rows (deeper g f K) w ≡ known_in g f (truths g f K) w
    row_known = get_or_map_upto (known_in g f (truths g f K)) f.size w [] low

    own_known : (r p : ℕ) → r < roles g → p < facts g → Decides (member (rows (deeper g f K) w) (Atom.knows r p)) ((v : ℕ) → v < f.size → f.alike r w v ≡ true → TrueAt (rows K) p v)
    own_known r p few small =
        Decides-at _ _ (ap (λ l. member l (Atom.knows r p)) row_known)
        (Decides-like _
        (λ e v inside. (each v inside).0 ((all_true test (upto f.size)).0 e v (in_upto inside)))
        (λ h. (all_true test (upto f.size)).1 (λ v i. (each v (upto_in _ i)).1 (h v (upto_in _ i))))
        (listed_own (roles g) (facts g) _ _ r p few small))
      where
        test : ℕ → Bool
        test v = not (f.alike r w v) || true_in g f (truths g f K) p v

        each : (v : ℕ) → v < f.size → Decides (test v) (f.alike r w v ≡ true → TrueAt (rows K) p v)
        each v inside = either_decides _ _ (true_in_decides K p v small inside)

    shared_known : (p : ℕ) → p < facts g → Decides (member (rows (deeper g f K) w) (Atom.common p)) ((v : ℕ) → Chain (roles g) f w v → TrueAt (rows K) p v)
    shared_known p small =
        Decides-at _ _ (ap (λ l. member l (Atom.common p)) row_known)
        (Decides-like _
        (λ e v c. (each v c).0 ((all_true test (chained g f w)).0 e v ((among_decides (chained g f w) v).0 ((chained_decides g f w v low).1 c))))
        (λ h. (all_true test (chained g f w)).1 (λ v i. let c = (chained_decides g f w v low).0 ((among_decides (chained g f w) v).1 i) in (each v c).1 (h v c)))
        (listed_shared (roles g) (facts g) _ _ p small))
      where
        test : ℕ → Bool
        test = true_in g f (truths g f K) p

        each : (v : ℕ) → Chain (roles g) f w v → Decides (test v) (TrueAt (rows K) p v)
        each v c = true_in_decides K p v small (chain_below low c)

  pub deeper_known : (K : List (List (Atom ℕ))) → Known (rows K) (rows (deeper g f K))
  deeper_known K = record { own = λ w r p low. own_known K w low r p; shared = λ w p low. shared_known K w low p }
