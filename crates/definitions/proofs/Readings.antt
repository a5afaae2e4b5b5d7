-- Two readings of what the plays are agree on which are legal and on what is known in them.
use Rattle.std.proofs.Common.{◌≡◌, ℕ, zero, suc, ◌<◌, Bool, true, false, List, [], ◌∷◌, ◌++◌, map, length, Some, None, Decides, Option, sym, refl, ap, ◌∙◌, subst, arith}
use mathlib.Core.Path.{fun_ext}
use Rattle.std.proofs.lemmas.Bool.Decides.{same_from_decides, Decides-like}
use Rattle.definitions.specs.Form.{Atom}
use Rattle.definitions.specs.Lists.{keep, upto}
use Rattle.definitions.specs.Level.{member, is_knows, level}
use Rattle.definitions.specs.Holds.{holds}
use Rattle.definitions.specs.Ruleset.{Game, roles, SoundGame}
use Rattle.definitions.specs.Deal.{Deal, state_where}
use Rattle.definitions.specs.Play.{Play, alike, moves_of, percepts_of, features, before, legal_moves, after, PlayChain, none, more, Plays, PlaysOne}
use Rattle.definitions.proofs.Listed.{true_itself}
use Rattle.definitions.proofs.Agreed.{Agree, agree_none, position_with, holds_same}

both_true : (X Y : Play → Bool) → ((p : Play) → X p ≡ true → Y p ≡ true) → ((p : Play) → Y p ≡ true → X p ≡ true) → X ≡ Y
both_true X Y f b = fun_ext λ p. same_from_decides (X p) (Y p) (f p, b p) (true_itself (Y p))

chain_legal : {g : Game} {d : Deal} {X : Play → Bool} {p u : Play} → X p ≡ true → PlayChain g d X p u → X u ≡ true
chain_legal l none = l
chain_legal l (more r c few m e) = m

-- what is known in the plays of one length, of which X has the legal ones
record Known (g : Game) (d : Deal) (X : Play → Bool) (K : Play → List (Atom ℕ)) : Type 0 where
  own : (p : Play) (r q : ℕ) → X p ≡ true → r < roles g → q < length g.names.facts → Decides (member (K p) (Atom.knows r q)) ((u : Play) → X u ≡ true → alike d r p u ≡ true → holds g.rules (before g u (K u)) (Atom.fact q) ≡ true)
  shared : (p : Play) (q : ℕ) → X p ≡ true → q < length g.names.facts → Decides (member (K p) (Atom.common q)) ((u : Play) → PlayChain g d X p u → holds g.rules (before g u (K u)) (Atom.fact q) ≡ true)

plays_known : {g : Game} {d : Deal} {L : ℕ → Play → Bool} {K : ℕ → Play → List (Atom ℕ)} → Plays g d L K → (n : ℕ) → Known g d (L n) (K n)
plays_known h n = record { own = h.own n; shared = h.shared n }

module _ (g : Game) (sound : SoundGame g) where
  module _ (d : Deal) (X : Play → Bool) (K N : Play → List (Atom ℕ)) (h : Known g d X K) (j : Known g d X N) where
    agree_more : (k : ℕ) → ((u : Play) → X u ≡ true → Agree g k (K u) (N u)) → (p : Play) → X p ≡ true → Agree g (suc k) (K p) (N p)
    agree_more k agree p l = record {
      own = λ r q few small below.
          same_from_decides _ _ (h.own p r q l few small)
          (Decides-like _ (λ t u m e. same q below u m ∙ t u m e) (λ t u m e. sym (same q below u m) ∙ t u m e) (j.own p r q l few small));
      shared = λ q small below.
          same_from_decides _ _ (h.shared p q l small)
          (Decides-like _ (λ t u c. same q below u (chain_legal l c) ∙ t u c) (λ t u c. sym (same q below u (chain_legal l c)) ∙ t u c) (j.shared p q l small));
    }
      where
        same : (q : ℕ) → level g.rules (Atom.fact q) < suc k → (u : Play) → X u ≡ true → holds g.rules (before g u (K u)) (Atom.fact q) ≡ holds g.rules (before g u (N u)) (Atom.fact q)
        same q below u m = holds_same g sound k u.state None (K u) (N u) (agree u m) (Atom.fact q) refl (omega arith)

    known_agree : (k : ℕ) (p : Play) → X p ≡ true → Agree g k (K p) (N p)
    known_agree zero p l = agree_none g _ _
    known_agree (suc k) p l = agree_more k (known_agree k) p l

  module _ (p : Play) (xs ys : List (Atom ℕ)) (agree : (k : ℕ) → Agree g k xs ys) where
    pub plain_same : (ms : Option (List ℕ)) (a : Atom ℕ) → is_knows a ≡ false → holds g.rules (position_with p.state ms xs) a ≡ holds g.rules (position_with p.state ms ys) a
    plain_same ms a plain = holds_same g sound (level g.rules a) p.state ms xs ys (agree _) a plain (omega arith)

    pub legal_moves_same : (r : ℕ) → legal_moves g p xs r ≡ legal_moves g p ys r
    legal_moves_same r = ap (λ test. keep test (moves_of g r)) (fun_ext λ m. plain_same None (Atom.legal r m) refl)

    after_same : (ms : List ℕ) → after g p xs ms ≡ after g p ys ms
    after_same ms =
        let seen = fun_ext λ (r : ℕ). ap (λ test. state_where test (percepts_of g r)) (fun_ext λ e. plain_same (Some ms) (Atom.sees r e) refl) in
        let next = fun_ext λ (f : ℕ). plain_same (Some ms) (Atom.next f) refl in
        λ i. record {
          world = p.world;
          turns = p.turns ++ record { moves = ms; seen = map (seen i) (upto (roles g)) } ∷ [];
          state = state_where (next i) (features g);
        }

  module _ (d : Deal) (L M : ℕ → Play → Bool) (K N : ℕ → Play → List (Atom ℕ)) (h : Plays g d L K) (j : Plays g d M N) where
    legal_first : (p : Play) → L 0 p ≡ true → M 0 p ≡ true
    legal_first p l = let (w, i, e) = h.opened p l in rw e (j.opens w i)

    agree_then : (n : ℕ) → L n ≡ M n → (q : Play) → L n q ≡ true → (k : ℕ) → Agree g k (K n q) (N n q)
    agree_then n same q l k = known_agree d (L n) (K n) (N n) (plays_known h n) (subst (λ X. Known g d X (N n)) (sym same) (plays_known j n)) k q l

    legal_next : (n : ℕ) → L n ≡ M n → (p : Play) → L (suc n) p ≡ true → M (suc n) p ≡ true
    legal_next n same p l =
        let (q, ms, now, legal, e) = h.gone_on n p l in
        let agree = agree_then n same q now in
        rw (e, after_same q (K n q) (N n q) agree ms)
        (j.goes_on n q ms (subst (λ X. X q ≡ true) same now) (legal.0, λ r few. rw (← legal_moves_same q (K n q) (N n q) agree r) (legal.1 r few)))

  module _ (d : Deal) (L M : ℕ → Play → Bool) (K N : ℕ → Play → List (Atom ℕ)) (h : Plays g d L K) (j : Plays g d M N) where
    legal_same : (n : ℕ) → L n ≡ M n
    legal_same zero = both_true (L 0) (M 0) (legal_first d L M K N h j) (legal_first d M L N K j h)
    legal_same (suc n) =
        let same = legal_same n in
        both_true (L (suc n)) (M (suc n)) (legal_next d L M K N h j n same) (legal_next d M L N K j h n (sym same))

pub plays_one : PlaysOne
plays_one g d sound L M K N h j n p =
    let same = legal_same g sound d L M K N h j n in (
      ap (λ X. X p) same,
      λ l q small.
          let agree = agree_then g sound d L M K N h j n same p l (suc (level g.rules (Atom.fact q))) in
          (λ r few. agree.own r q few small (omega arith), agree.shared q small (omega arith)),
    )
