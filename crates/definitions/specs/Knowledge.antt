-- Knowledge: what holds in all worlds that a role can't tell from one, and what holds in all that chains of such steps reach.
--     Frame                    worlds by number, with their states and what each role can't tell apart
--     Chain                    steps of the roles, one after another
--     Knowledge                a knows atom is in a world's set exactly if its fact holds where it must
--     knowing                  the function that computes it, by rising level
--     hinted                   the deal that is left when a fact is announced
--     hint_verdict, row_after  what a hint is refused with, and its work row afterwards
use Rattle.std.specs.Prelude.{◌≡◌, ℕ, suc, ◌<◌, Bool, true, cond, not, ◌&&◌, ◌||◌, List, [], ◌∷◌, ◌++◌, map, length, get_or, drop, replicate, None, Decides, ◌==◌, nat_le, nat_lt, slice_index, slice_index_or}
use Rattle.definitions.specs.Refusal.{Refusal, match_layer, Verdict, accepted, refused}
use Rattle.definitions.specs.Form.{Atom}
use Rattle.definitions.specs.Lists.{joined, keep, all, any, upto, repeat}
use Rattle.definitions.specs.Level.{member, highest}
use Rattle.definitions.specs.Holds.{Position, holds}
use Rattle.definitions.specs.Ruleset.{Game, roles, SoundGame}
use Rattle.definitions.specs.Deal.{Deal, Lawful, standing, among, in_deal}

-- worlds are numbered from 0 to below the size
pub record Frame : Type 0 where
  pub size : ℕ
  pub state : ℕ → ℕ
  pub alike : ℕ → ℕ → ℕ → Bool

pub data Chain (roles : ℕ) (f : Frame) (w : ℕ) : ℕ → Type 0 where
  none : Chain roles f w w
  more : {v u : ℕ} (r : ℕ) → Chain roles f w v → r < roles → u < f.size → f.alike r v u ≡ true → Chain roles f w u

-- a world as a position, with a knowledge set
abbrev pub position : Frame → (ℕ → List (Atom ℕ)) → ℕ → Position
position f K w = record { state = f.state w; moves = None; knowledge = K w }

module _ (g : Game) (f : Frame) where
  pub record Knowledge (K : ℕ → List (Atom ℕ)) : Type 0 where
    pub own : (w r p : ℕ) → w < f.size → r < roles g → p < length g.names.facts → Decides (member (K w) (Atom.knows r p)) ((v : ℕ) → v < f.size → f.alike r w v ≡ true → holds g.rules (position f K v) (Atom.fact p) ≡ true)
    pub shared : (w p : ℕ) → w < f.size → p < length g.names.facts → Decides (member (K w) (Atom.common p)) ((v : ℕ) → Chain (roles g) f w v → holds g.rules (position f K v) (Atom.fact p) ≡ true)

  -- the facts that hold in each world
  abbrev pub truths : List (List (Atom ℕ)) → List (List ℕ)
  truths K =
      map
      (λ w.
      let now_true = holds g.rules (record { state = f.state w; moves = None; knowledge = slice_index_or K w [] }) in
      keep (λ p. now_true (Atom.fact p)) (upto (length g.names.facts)))
      (upto f.size)

  -- some role can't tell two worlds apart
  abbrev pub linked : ℕ → ℕ → Bool
  linked v u = any (λ r. f.alike r v u) (upto (roles g))

  -- the worlds that some worlds lead to, and these
  abbrev pub onward : List ℕ → List ℕ
  onward vs = keep (λ u. among vs u || any (λ v. linked v u) vs) (upto f.size)

  abbrev pub chained : ℕ → List ℕ
  chained w = repeat f.size onward (w ∷ [])

  -- a fact is among the truths of a world
  abbrev pub true_in : List (List ℕ) → ℕ → ℕ → Bool
  true_in ts p v = among (slice_index_or ts v []) p

  -- the knows atoms that hold in a world, by the truths of all worlds
  abbrev pub known_in : List (List ℕ) → ℕ → List (Atom ℕ)
  known_in ts w =
      let reached = chained w in
      let facts = upto (length g.names.facts) in
      joined (λ r. map (λ p. Atom.knows r p) (keep (λ p. all (λ v. not (f.alike r w v) || true_in ts p v) (upto f.size)) facts)) (upto (roles g))
      ++ map (λ p. Atom.common p) (keep (λ p. all (true_in ts p) reached) facts)

  -- knowledge of facts of one level more
  abbrev pub deeper : List (List (Atom ℕ)) → List (List (Atom ℕ))
  deeper K = let ts = truths K in map (known_in ts) (upto f.size)

  -- a fact rests only on knowledge of facts of lower levels, so as many turns as there are levels are enough
  abbrev pub knowing : List (List (Atom ℕ))
  knowing = repeat (suc (highest g.rules)) deeper (map (λ w. []) (upto f.size))

-- the standing worlds of a deal, in order
abbrev pub deal_frame : Deal → Frame
deal_frame d =
    let ws = standing d in
    record { size = length ws; state = λ i. d.deck.state (slice_index ws i); alike = λ r i j. (d.seats.class r (slice_index ws i) == d.seats.class r (slice_index ws j)) }

-- where a world stands among those that stand
abbrev pub index : List ℕ → ℕ → ℕ
index [] w = 0
index (v ∷ vs) w = cond (v == w) 0 (suc (index vs w))

abbrev pub in_deal_holds : Game → Deal → ℕ → ℕ → Bool
in_deal_holds g d p w =
    let i = index (standing d) w in
    holds g.rules (position (deal_frame d) (λ j. get_or (knowing g (deal_frame d)) j []) i) (Atom.fact p)

-- the worlds in which the fact holds, by the knowledge in the deal
abbrev pub hinted : Game → Deal → ℕ → Deal
hinted g d p =
    let kept = keep (in_deal_holds g d p) (standing d) in
    record { deck = record { size = d.deck.size; stands = among kept; state = d.deck.state }; seats = d.seats }

abbrev pub in_match : ℕ → ℕ → Refusal
in_match n p = record { number = n; layer = match_layer; place = p }

-- a fact that the rules do not have, a work row that is too short, a fact that fails in the real world
abbrev pub hint_verdict : Game → Deal → ℕ → ℕ → Verdict Deal
hint_verdict g d p row =
    cond (not (nat_lt p (length g.names.facts))) (refused (in_match 14 0))
    (cond (nat_lt row d.deck.size) (refused (in_deal 22 0))
    (cond (in_deal_holds g d p d.seats.real) (accepted (hinted g d p)) (refused (in_deal 21 0))))

-- the work row after the making of a hint: untouched if the fact or the row's length is refused, else zero in its first numbers, one for each world, and as it was past them
abbrev pub row_after : Game → Deal → ℕ → List ℕ → List ℕ
row_after g d p row = cond (nat_lt p (length g.names.facts) && nat_le d.deck.size (length row)) (replicate d.deck.size 0 ++ drop d.deck.size row) row

-- what is computed is the knowledge in a frame, and there is one only
abbrev pub KnowingKnows : Type 0
KnowingKnows = (g : Game) (f : Frame) → SoundGame g → Knowledge g f (λ w. get_or (knowing g f) w [])

abbrev pub KnowledgeOne : Type 0
KnowledgeOne =
    (g : Game) (f : Frame) → SoundGame g
    → (J K : ℕ → List (Atom ℕ)) → Knowledge g f J → Knowledge g f K
    → (w : ℕ) → w < f.size → (p : ℕ) → p < length g.names.facts
    → ((r : ℕ) → r < roles g → member (J w) (Atom.knows r p) ≡ member (K w) (Atom.knows r p)) × (member (J w) (Atom.common p) ≡ member (K w) (Atom.common p))

-- the computed chains are the chains
abbrev pub ChainsDecided : Type 0
ChainsDecided = (g : Game) (f : Frame) (w v : ℕ) → w < f.size → Decides (among (chained g f w) v) (Chain (roles g) f w v)

-- after a hint a world stands exactly if it stood and the fact holds in it, and nothing else is changed
pub record LeftByHint (g : Game) (d : Deal) (p : ℕ) (h : Deal) : Type 0 where
  pub size : h.deck.size ≡ d.deck.size
  pub states : h.deck.state ≡ d.deck.state
  pub seats : h.seats ≡ d.seats
  pub worlds : (w : ℕ) → w < d.deck.size → Decides (h.deck.stands w) ((d.deck.stands w ≡ true) × (in_deal_holds g d p w ≡ true))

abbrev pub HintLeaves : Type 0
HintLeaves = (g : Game) (d : Deal) (p : ℕ) → LeftByHint g d p (hinted g d p)

-- a hint over a lawful deal is lawful
abbrev pub HintsLawful : Type 0
HintsLawful = (g : Game) (d h : Deal) (p row : ℕ) → Lawful d → hint_verdict g d p row ≡ accepted h → Lawful h
