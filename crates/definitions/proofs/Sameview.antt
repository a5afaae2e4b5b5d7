-- In plays that a player can't tell apart the player has the same view.
use Rattle.std.proofs.Common.{◌≡◌, ℕ, ◌<◌, Bool, true, false, ◌&&◌, List, [], ◌∷◌, ◌++◌, length, get_or, None, sym, refl, ap, ◌∙◌, subst}
use mathlib.Core.Path.{fun_ext}
use Rattle.std.proofs.lemmas.List.{get_or_push}
use Rattle.std.proofs.lemmas.Bool.{ltb-true, and_parts, and_from, eq-eqb, false≢true}
use Rattle.std.proofs.lemmas.Bool.Decides.{same_from_decides, Decides-like}
use Rattle.std.proofs.lemmas.Option.{MatchOption-at_none}
use Rattle.definitions.specs.Form.{Atom}
use Rattle.definitions.specs.Lists.{Same}
use Rattle.definitions.specs.Level.{member}
use Rattle.definitions.specs.Ruleset.{Game, roles, SoundGame}
use Rattle.definitions.specs.Deal.{Deal}
use Rattle.definitions.specs.Knowledge.{Frame, Chain, Knowledge}
use Rattle.definitions.specs.Play.{Turn, Play, turns_alike, alike, nth, frame, knowledge, after, is_player, book, uneven, Even}
use Rattle.definitions.specs.Match.{Table, State, Answer, flag, asked_of, has_role, has_fact, real_knowledge, real_play}
use Rattle.definitions.proofs.Knowing.{knowing_knows}
use Rattle.definitions.proofs.Classes.{alike_same}
use Rattle.definitions.proofs.Evenness.{evenness_judged}
use Rattle.definitions.proofs.Reached.{Reached}
use Rattle.definitions.proofs.Views.{view}

chain_from : {n : ℕ} {f : Frame} {w u v : ℕ} (r : ℕ) → r < n → u < f.size → f.alike r w u ≡ true → Chain n f u v → Chain n f w v
chain_from r few low e Chain.none = Chain.more r Chain.none few low e
chain_from r few low e (Chain.more q c less below f) = Chain.more q (chain_from r few low e c) less below f

-- two plays of a book that a role can't tell apart
module _ (g : Game) (sound : SoundGame g) (d : Deal) (ps : List Play) (r i j : ℕ) (few : r < roles g) (low : i < length ps) (below : j < length ps) (same : alike d r (nth ps i) (nth ps j) ≡ true) where
  abbrev row : ℕ → List (Atom ℕ)
  row k = get_or (knowledge g d ps) k []

  knows : Knowledge g (frame d ps) row
  knows = knowing_knows g (frame d ps) sound

  laws : Same (alike d r)
  laws = alike_same d r

  turned : alike d r (nth ps j) (nth ps i) ≡ true
  turned = laws.turned (nth ps i) (nth ps j) same

  known_same : (p : ℕ) → p < length g.names.facts → member (row i) (Atom.knows r p) ≡ member (row j) (Atom.knows r p)
  known_same p small = same_from_decides _ _ (knows.own i r p low few small)
      (Decides-like _ (λ h v inside e. h v inside (laws.onward (nth ps j) (nth ps i) (nth ps v) turned e)) (λ h v inside e. h v inside (laws.onward (nth ps i) (nth ps j) (nth ps v) same e)) (knows.own j r p below few small))

  common_same : (p : ℕ) → p < length g.names.facts → member (row i) (Atom.common p) ≡ member (row j) (Atom.common p)
  common_same p small = same_from_decides _ _ (knows.shared i p low small)
      (Decides-like _ (λ h v c. h v (chain_from r few low turned c)) (λ h v c. h v (chain_from r few below same c)) (knows.shared j p below small))

even_for : (g : Game) (d : Deal) (ps : List Play) → uneven g d ps ≡ None → (r : ℕ) → r < roles g → is_player g r ≡ true → Even g d ps r
even_for g d ps e = MatchOption-at_none _ _ e (evenness_judged g d ps)

asked_same : (t : Table) (b : Bool) (x y : Answer) → (b ≡ true → x ≡ y) → asked_of t b x ≡ asked_of t b y
asked_same t true x y h = h refl
asked_same t false x y h = refl

module _ (t : Table) (sound : SoundGame t.game) (r : ℕ) (few : r < roles t.game) (player : is_player t.game r ≡ true) where
  abbrev with_real : State → ℕ → State
  with_real s j = record { closed = s.closed; plays = s.plays; real = j; commits = s.commits; untold = s.untold }

  view_at : (s : State) → Reached t s → (j : ℕ) → j < length s.plays → alike t.deal r (real_play t s) (nth s.plays j) ≡ true → view t r s ≡ view t r (with_real s j)
  view_at s h j below same = λ i. record { moves = moves i; knows = knows i; common = common i; closed = s.closed }
    where
      moves : (view t r s).moves ≡ (view t r (with_real s j)).moves
      moves = even_for t.game t.deal s.plays h.even r few player s.real j h.low below same

      knows : (view t r s).knows ≡ (view t r (with_real s j)).knows
      knows = fun_ext λ p. asked_same t (has_role t r && has_fact t p) (flag (member (real_knowledge t s) (Atom.knows r p))) (flag (member (real_knowledge t (with_real s j)) (Atom.knows r p)))
          (λ e. ap flag (known_same t.game sound t.deal s.plays r s.real j few h.low below same p (ltb-true p (length t.game.names.facts) (and_parts (has_role t r) (has_fact t p) e).1)))

      common : (view t r s).common ≡ (view t r (with_real s j)).common
      common = fun_ext λ p. asked_same t (has_fact t p) (flag (member (real_knowledge t s) (Atom.common p))) (flag (member (real_knowledge t (with_real s j)) (Atom.common p)))
          (λ e. ap flag (common_same t.game sound t.deal s.plays r s.real j few h.low below same p (ltb-true p (length t.game.names.facts) e)))

  pub view_same : (s v : State) → Reached t s → Reached t v → s.closed ≡ v.closed → alike t.deal r (real_play t s) (real_play t v) ≡ true → view t r s ≡ view t r v
  view_same s v h k even same =
      let plays : s.plays ≡ v.plays = h.booked ∙ ap (book t.game t.deal) even ∙ sym k.booked in
      view_at s h v.real (subst (λ ps. v.real < length ps) (sym plays) k.low) (subst (λ ps. alike t.deal r (real_play t s) (nth ps v.real) ≡ true) (sym plays) same)
      ∙ (λ i. view t r (record { closed = even i; plays = plays i; real = v.real; commits = s.commits; untold = s.untold }))

-- plays that were alike go on alike if the role makes the same move and sees the same
turns_more : (r : ℕ) (ts us : List Turn) (t u : Turn) → turns_alike r ts us ≡ true → get_or t.moves r 0 ≡ get_or u.moves r 0 → get_or t.seen r 0 ≡ get_or u.seen r 0 → turns_alike r (ts ++ t ∷ []) (us ++ u ∷ []) ≡ true
turns_more r [] [] t u e m s = and_from _ _ (and_from _ _ (eq-eqb _ _ m) (eq-eqb _ _ s)) refl
turns_more r [] (v ∷ us) t u e m s = absurd (false≢true e)
turns_more r (v ∷ ts) [] t u e m s = absurd (false≢true e)
turns_more r (v ∷ ts) (w ∷ us) t u e m s = let (first, rest) = and_parts _ _ e in and_from _ _ first (turns_more r ts us t u rest m s)

abbrev pub no_turn : Turn
no_turn = record { moves = []; seen = [] }

module _ (g : Game) (d : Deal) (r : ℕ) (p q : Play) (K J : List (Atom ℕ)) (ms ns : List ℕ) where
  pub alike_after : (n : ℕ) → length p.turns ≡ n → length q.turns ≡ n → alike d r p q ≡ true → get_or ms r 0 ≡ get_or ns r 0
      → get_or (get_or (after g p K ms).turns n no_turn).seen r 0 ≡ get_or (get_or (after g q J ns).turns n no_turn).seen r 0
      → alike d r (after g p K ms) (after g q J ns) ≡ true
  alike_after n long wide e move seen =
      let (class, turns) = and_parts _ _ e in
      let last : Turn → ℕ = λ u. get_or u.seen r 0 in
      and_from _ _ class (turns_more r p.turns q.turns _ _ turns move (sym (ap last (get_or_push p.turns _ no_turn n long)) ∙ seen ∙ ap last (get_or_push q.turns _ no_turn n wide)))
