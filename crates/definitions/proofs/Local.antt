-- What holds of some atoms does not turn on what is given of others: facts of a level, and facts that rest on no knowledge.
use Rattle.std.proofs.Common.{◌≡◌, ℕ, zero, suc, ◌<◌, Bool, true, false, cond, ◌||◌, leb, List, [], ◌∷◌, length, sym, refl, ap, ◌∙◌, ⊎_elim, arith}
use Rattle.std.proofs.lemmas.Bool.{both_ways, cases_Bool, or_cases, or_left, or_right, leb-true, le-leb}
use Rattle.definitions.specs.Form.{Atom, Rule}
use Rattle.definitions.specs.Lists.{In, here, there, joined, repeat}
use Rattle.definitions.specs.Level.{same_atom, member, about, named, body, Depends, by_rule, onward, below, reaches, is_knows, level, highest}
use Rattle.definitions.specs.Holds.{Atoms, Position, bit, made, given, with_derived, derive, climb, LevelLocal, WithoutKnowledge}
use Rattle.definitions.proofs.Listed.{in_left, in_right, in_joined, any_true}
use Rattle.definitions.proofs.Atoms.{same_atom_decides, member_decides}
use Rattle.definitions.proofs.Reach.{reaches_decides}
use Rattle.definitions.proofs.Fires.{fires_same}
use Rattle.definitions.proofs.Derive.{adding, not_same}

repeat_both : {X : Type 0} (R : X → X → Type 0) (f g : X → X) → ((x y : X) → R x y → R (f x) (g y)) → (n : ℕ) (x y : X) → R x y → R (repeat n f x) (repeat n g y)
repeat_both R f g step zero x y h = h
repeat_both R f g step (suc n) x y h = repeat_both R f g step n (f x) (g y) (step x y h)

-- the rules for the atoms of D name atoms of D only, of which G and H have the same
abbrev pub RestsIn : List (Rule ℕ) → Atoms → Atoms → (Atom ℕ → Bool) → Type 0
RestsIn rules G H D = (r : Rule ℕ) → In r rules → D r.head ≡ true → (a : Atom ℕ) → In a (joined named (body r)) → (D a ≡ true) × (G a ≡ H a)

module _ (level : Atom ℕ → ℕ) (rules : List (Rule ℕ)) (G H : Atoms) (D : Atom ℕ → Bool) (rests : RestsIn rules G H D) where
  abbrev SameIn : List (Atom ℕ) → List (Atom ℕ) → Type 0
  SameIn s t = (a : Atom ℕ) → D a ≡ true → member s a ≡ member t a

  -- the head of a rule in D is added to both or to none, and any other leaves D as it is
  head_in : (h : Atom ℕ) (b : Bool) (s t : List (Atom ℕ)) → SameIn s t → SameIn (cond b (h ∷ s) s) (cond b (h ∷ t) t)
  head_in h true s t same a d = ap (λ m. same_atom h a || m) (same a d)
  head_in h false s t same a d = same a d

  head_out : (h : Atom ℕ) → D h ≡ false → (b : Bool) (s : List (Atom ℕ)) → SameIn (cond b (h ∷ s) s) s
  head_out h out true s a d = rw (not_same h a λ same. both_ways (D a) (rw (← same) out) d)
  head_out h out false s a d = refl

  derive_same_in : (k : ℕ) (rs : List (Rule ℕ)) → ((r : Rule ℕ) → In r rs → In r rules) → (s t : List (Atom ℕ)) → SameIn s t → SameIn (derive level G k rs s) (derive level H k rs t)
  derive_same_in k [] sub s t same = same
  derive_same_in k (r ∷ rs) sub s t same =
      derive_same_in k rs (λ q i. sub q (there i)) _ _
      (⊎_elim
      (λ into. rw (← alike into) (head_in r.head (adding level G k s r) s t same))
      (λ out a d. head_out r.head out (adding level G k s r) s a d ∙ same a d ∙ sym (head_out r.head out (adding level H k t r) t a d))
      (cases_Bool (D r.head)))
    where
      alike : D r.head ≡ true → adding level G k s r ≡ adding level H k t r
      alike into =
          let fire = fires_same (with_derived G s) (with_derived H t) r (λ a i. let e = rests r (sub r here) into a i in rw (e.1, same a e.0)) in
          rw (same r.head into, fire)

  pub climb_same_in : (n : ℕ) → SameIn (climb level G rules n) (climb level H rules n)
  climb_same_in zero a d = refl
  climb_same_in (suc n) a d = repeat_both SameIn _ _ (derive_same_in n rules (λ r i. i)) (length rules) _ _ (climb_same_in n) a d

module _ (p q : Position) (states : p.state ≡ q.state) (moves : p.moves ≡ q.moves) where
  pub given_same : (a : Atom ℕ) → ((r f : ℕ) → a ≡ Atom.knows r f → member p.knowledge (Atom.knows r f) ≡ member q.knowledge (Atom.knows r f)) → ((f : ℕ) → a ≡ Atom.common f → member p.knowledge (Atom.common f) ≡ member q.knowledge (Atom.common f)) → given p a ≡ given q a
  given_same (Atom.role r) h k = refl
  given_same (Atom.true_now f) h k = ap (bit f) states
  given_same (Atom.does r m) h k = ap (λ ms. made ms r m) moves
  given_same (Atom.knows r f) h k = h r f refl
  given_same (Atom.common f) h k = k f refl
  given_same (Atom.legal r m) h k = refl
  given_same (Atom.goal r v) h k = refl
  given_same Atom.terminal h k = refl
  given_same (Atom.fact f) h k = refl
  given_same (Atom.next f) h k = refl
  given_same (Atom.sees r e) h k = refl

pub level_local : LevelLocal
level_local rules fits k p q agree f l = climb_same_in (level rules) rules (given p) (given q) low rests (suc (highest rules)) (Atom.fact f) (le-leb _ _ l)
  where
    low : Atom ℕ → Bool
    low a = leb (level rules a) k

    known_low : (r : Rule ℕ) → In r rules → low r.head ≡ true → (a : Atom ℕ) → In a (joined named (body r)) → (b : Atom ℕ) → In b (about a) → level rules b < k
    known_low r i into a j b m = omega (arith, leb-true (level rules r.head) k into, (fits r i).1 b (in_right _ (in_joined about j m)))

    rests : RestsIn rules (given p) (given q) low
    rests r i into a j = (
      le-leb _ _ (omega (arith, leb-true (level rules r.head) k into, (fits r i).0 a (in_left _ j))),
      given_same p q agree.0 agree.1 a
          (λ s g e. agree.2 s g (known_low r i into a j (Atom.fact g) (rw e here)))
          (λ g e. agree.3 g (known_low r i into a j (Atom.fact g) (rw e here))),
    )

pub without_knowledge : WithoutKnowledge
without_knowledge rules f free p q states moves =
    climb_same_in (level rules) rules (given p) (given q) under rests (suc (highest rules)) (Atom.fact f) (or_left _ _ ((same_atom_decides (Atom.fact f) (Atom.fact f)).1 refl))
  where
    under : Atom ℕ → Bool
    under a = same_atom (Atom.fact f) a || reaches rules (Atom.fact f) a

    no_knows : (a : Atom ℕ) → reaches rules (Atom.fact f) a ≡ true → is_knows a ≡ true → ⊥
    no_knows a e k = both_ways _ free ((any_true is_knows (below rules (Atom.fact f))).1 (a, (member_decides _ a).0 e, k))

    used : (r : Rule ℕ) → In r rules → under r.head ≡ true → (a : Atom ℕ) → In a (joined named (body r)) → Depends rules (Atom.fact f) a
    used r i into a j =
        let step : Depends rules r.head a = by_rule i (in_left _ j) in
        ⊎_elim (λ same. rw ((same_atom_decides (Atom.fact f) r.head).0 same) step) (λ far. onward ((reaches_decides rules (Atom.fact f) r.head).0 far) step) (or_cases _ _ into)

    rests : RestsIn rules (given p) (given q) under
    rests r i into a j =
        let e = (reaches_decides rules (Atom.fact f) a).1 (used r i into a j) in
        (or_right _ _ e, given_same p q states moves a (λ s g is. absurd (no_knows a e (rw is refl))) (λ g is. absurd (no_knows a e (rw is refl))))
