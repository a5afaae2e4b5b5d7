-- Plays: a world of the deal and the joint moves made since, with what each role saw.
--     Turn, Play        one round of a play, and a play
--     alike             a role can't tell two plays apart: first class, moves and percept sets are equal, round by round
--     Plays             which plays are legal and what is known in them, as the language defines it
--     book              the legal plays of a number of rounds, in order
--     class_number      the number of a play's class for a role, by first appearance
--     uneven            a player whose legal moves tell apart what he can't tell apart
use Rattle.std.specs.Prelude.{◌≡◌, ℕ, zero, suc, ◌%◌, ◌^◌, ◌<◌, Bool, true, false, cond, not, ◌&&◌, List, [], ◌∷◌, ◌++◌, map, length, Some, None, Decides, Option, MatchOption, ◌==◌, ◌≢◌, nat_lt, slice_index, slice_index_or}
use Rattle.definitions.specs.Form.{Atom, same_word, same_term}
use Rattle.definitions.specs.Lists.{In, joined, keep, any, upto, firsts, first_like, FirstAppearance}
use Rattle.definitions.specs.Level.{member}
use Rattle.definitions.specs.Holds.{Position, holds}
use Rattle.definitions.specs.Ruleset.{Game, roles, nature, SoundGame}
use Rattle.definitions.specs.Deal.{Deal, standing, state_where}
use Rattle.definitions.specs.Knowledge.{Frame, knowing}

-- the move of each role, and the percepts of each role as bits
pub record Turn : Type 0 where
  pub moves : List ℕ
  pub seen : List ℕ

pub record Play : Type 0 where
  pub world : ℕ
  pub turns : List Turn
  pub state : ℕ

-- two turns are alike for a role if its move and its percept set are equal
abbrev pub turns_alike : ℕ → List Turn → List Turn → Bool
turns_alike r [] [] = true
turns_alike r [] (u ∷ us) = false
turns_alike r (t ∷ ts) [] = false
turns_alike r (t ∷ ts) (u ∷ us) = slice_index t.moves r == slice_index u.moves r && slice_index t.seen r == slice_index u.seen r && turns_alike r ts us

abbrev pub alike : Deal → ℕ → Play → Play → Bool
alike d r p q = d.seats.class r p.world == d.seats.class r q.world && turns_alike r p.turns q.turns

abbrev pub no_play : Play
no_play = record { world = 0; turns = []; state = 0 }

abbrev pub nth : List Play → ℕ → Play
nth ps i = slice_index_or ps i no_play

-- the plays of a round as worlds
abbrev pub frame : Deal → List Play → Frame
frame d ps = record { size = length ps; state = λ i. (nth ps i).state; alike = λ r i j. alike d r (nth ps i) (nth ps j) }

module _ (g : Game) where
  abbrev pub moves_of : ℕ → List ℕ
  moves_of r = upto (length (slice_index_or g.names.moves r []))

  abbrev pub percepts_of : ℕ → List ℕ
  percepts_of r = upto (length (slice_index_or g.names.percepts r []))

  abbrev pub features : List ℕ
  features = upto (length g.names.features)

  -- a play before its next joint move, and with one
  abbrev pub before : Play → List (Atom ℕ) → Position
  before p K = record { state = p.state; moves = None; knowledge = K }

  abbrev pub with_moves : Play → List (Atom ℕ) → List ℕ → Position
  with_moves p K ms = record { state = p.state; moves = Some ms; knowledge = K }

  abbrev pub legal_moves : Play → List (Atom ℕ) → ℕ → List ℕ
  legal_moves p K r = let now_true = holds g.rules (before p K) in keep (λ m. now_true (Atom.legal r m)) (moves_of r)

  -- every choice of one from each list, the first list changing slowest
  abbrev pub joint : List (List ℕ) → List (List ℕ)
  joint [] = [] ∷ []
  joint (ms ∷ rest) = joined (λ m. map (λ js. m ∷ js) (joint rest)) ms

  abbrev pub joint_moves : Play → List (Atom ℕ) → List (List ℕ)
  joint_moves p K = joint (map (legal_moves p K) (upto (roles g)))

  abbrev pub after : Play → List (Atom ℕ) → List ℕ → Play
  after p K ms =
      let now_true = holds g.rules (with_moves p K ms) in
      record {
        world = p.world;
        turns = p.turns ++ record { moves = ms; seen = map (λ r. state_where (λ e. now_true (Atom.sees r e)) (percepts_of r)) (upto (roles g)) } ∷ [];
        state = state_where (λ f. now_true (Atom.next f)) features;
      }

  abbrev pub successors : Play → List (Atom ℕ) → List Play
  successors p K = map (after p K) (joint_moves p K)

  -- state bits beyond the features are dropped
  abbrev pub start : Deal → ℕ → Play
  start d w = record { world = w; turns = []; state = d.deck.state w % 2 ^ length g.names.features }

  -- the knowledge sets of some plays, in their order
  abbrev pub knowledge : Deal → List Play → List (List (Atom ℕ))
  knowledge d ps = knowing g (frame d ps)

  -- plays and knowledge sets side by side
  abbrev pub each_with : {X : Type 0} → (Play → List (Atom ℕ) → X) → List Play → List (List (Atom ℕ)) → List X
  each_with f [] Ks = []
  each_with f (p ∷ ps) [] = []
  each_with f (p ∷ ps) (K ∷ Ks) = f p K ∷ each_with f ps Ks

  abbrev pub next_book : Deal → List Play → List Play
  next_book d ps = joined (λ qs. qs) (each_with successors ps (knowledge d ps))

  -- the legal plays of a number of rounds
  abbrev pub book : Deal → ℕ → List Play
  book d zero = map (start d) (standing d)
  book d (suc n) = next_book d (book d n)

  abbrev pub is_player : ℕ → Bool
  is_player r = not (same_term (slice_index_or g.names.roles r nature) nature)

  -- two plays that the player can't tell apart, with different legal moves
  abbrev pub tells_apart : Deal → List Play → ℕ → Bool
  tells_apart d ps r =
      let ls = each_with {X = Play × List ℕ} (λ p K. (p, legal_moves p K r)) ps (knowledge d ps) in
      any (λ x. any (λ y. alike d r x.0 y.0 && not (same_word x.1 y.1)) ls) ls

  abbrev pub first_role : (ℕ → Bool) → List ℕ → Option ℕ
  first_role test [] = None
  first_role test (r ∷ rs) = cond (test r) (Some r) (first_role test rs)

  abbrev pub uneven : Deal → List Play → Option ℕ
  uneven d ps = first_role (λ r. is_player r && tells_apart d ps r) (upto (roles g))

  -- the moves of a joint move are legal in a play with a knowledge set
  abbrev pub LegalIn : Play → List (Atom ℕ) → List ℕ → Type 0
  LegalIn p K ms = (length ms ≡ roles g) × ((r : ℕ) → r < roles g → In (slice_index ms r) (legal_moves p K r))

  -- chains of steps among the plays of one length that are legal
  pub data PlayChain (d : Deal) (L : Play → Bool) (p : Play) : Play → Type 0 where
    none : PlayChain d L p p
    more : {q u : Play} (r : ℕ) → PlayChain d L p q → r < roles g → L u ≡ true → alike d r q u ≡ true → PlayChain d L p u

  -- L n p says whether p is a legal play of n rounds, and K n p is the knowledge set in it
  pub record Plays (d : Deal) (L : ℕ → Play → Bool) (K : ℕ → Play → List (Atom ℕ)) : Type 0 where
    pub opens : (w : ℕ) → In w (standing d) → L 0 (start d w) ≡ true
    pub opened : (p : Play) → L 0 p ≡ true → (w : ℕ) × In w (standing d) × (p ≡ start d w)
    pub goes_on : (n : ℕ) (q : Play) (ms : List ℕ) → L n q ≡ true → LegalIn q (K n q) ms → L (suc n) (after q (K n q) ms) ≡ true
    pub gone_on : (n : ℕ) (p : Play) → L (suc n) p ≡ true → (q : Play) × (ms : List ℕ) × (L n q ≡ true) × LegalIn q (K n q) ms × (p ≡ after q (K n q) ms)
    pub own : (n : ℕ) (p : Play) (r q : ℕ) → L n p ≡ true → r < roles g → q < length g.names.facts → Decides (member (K n p) (Atom.knows r q)) ((u : Play) → L n u ≡ true → alike d r p u ≡ true → holds g.rules (before u (K n u)) (Atom.fact q) ≡ true)
    pub shared : (n : ℕ) (p : Play) (q : ℕ) → L n p ≡ true → q < length g.names.facts → Decides (member (K n p) (Atom.common q)) ((u : Play) → PlayChain d (L n) p u → holds g.rules (before u (K n u)) (Atom.fact q) ≡ true)

-- classes are numbered from 0 by first appearance in the book
abbrev pub class_number : Deal → ℕ → List Play → ℕ → ℕ
class_number d r ps i = first_like (alike d r) (firsts (alike d r) ps) (nth ps i)

-- a round as a deal: its plays are the worlds, and all stand
abbrev pub round_deal : Game → Deal → List Play → ℕ → Deal
round_deal g d ps real = record {
  deck = record { size = length ps; stands = λ i. nat_lt i (length ps); state = λ i. cond (nat_lt i (length ps)) (nth ps i).state 0 };
  seats = record { class = λ r i. cond (nat_lt r (roles g) && nat_lt i (length ps)) (class_number d r ps i) 0; real = real };
}

abbrev pub same_turn : Turn → Turn → Bool
same_turn t u = same_word t.moves u.moves && same_word t.seen u.seen

abbrev pub same_turns : List Turn → List Turn → Bool
same_turns [] [] = true
same_turns [] (u ∷ us) = false
same_turns (t ∷ ts) [] = false
same_turns (t ∷ ts) (u ∷ us) = same_turn t u && same_turns ts us

abbrev pub same_play : Play → Play → Bool
same_play p q = p.world == q.world && same_turns p.turns q.turns && p.state == q.state

-- whether a play is in the book of n rounds, and the knowledge set that the book gives it
abbrev pub in_book : Game → Deal → ℕ → Play → Bool
in_book g d n p = any (λ q. same_play q p) (book g d n)

abbrev pub book_knowledge : Game → Deal → ℕ → Play → List (Atom ℕ)
book_knowledge g d n p = slice_index_or (knowledge g d (book g d n)) (first_like same_play (book g d n) p) []

-- the books have exactly the legal plays, each once, with the knowledge in them, and there is one reading of legality and knowledge only
abbrev pub BooksArePlays : Type 0
BooksArePlays = (g : Game) (d : Deal) → SoundGame g → Plays g d (in_book g d) (book_knowledge g d)

abbrev pub PlaysOnce : Type 0
PlaysOnce = (g : Game) (d : Deal) (n i j : ℕ) → i < j → j < length (book g d n) → same_play (nth (book g d n) i) (nth (book g d n) j) ≡ false

abbrev pub PlaysOne : Type 0
PlaysOne =
    (g : Game) (d : Deal) → SoundGame g
    → (L M : ℕ → Play → Bool) (K J : ℕ → Play → List (Atom ℕ)) → Plays g d L K → Plays g d M J
    → (n : ℕ) (p : Play)
    → (L n p ≡ M n p)
    × (L n p ≡ true → (q : ℕ) → q < length g.names.facts → ((r : ℕ) → r < roles g → member (K n p) (Atom.knows r q) ≡ member (J n p) (Atom.knows r q)) × (member (K n p) (Atom.common q) ≡ member (J n p) (Atom.common q)))

-- two plays of a book share a role's class number exactly if the role can't tell them apart
abbrev pub ClassesTell : Type 0
ClassesTell = (d : Deal) (r : ℕ) (ps : List Play) (i j : ℕ) → i < length ps → j < length ps → Decides (class_number d r ps i == class_number d r ps j) (alike d r (nth ps i) (nth ps j) ≡ true)

-- and they are numbered by first appearance
abbrev pub ClassesByFirstAppearance : Type 0
ClassesByFirstAppearance = (d : Deal) (r : ℕ) (ps : List Play) → FirstAppearance (alike d r) ps (firsts (alike d r) ps)

-- a book is even if plays that a player can't tell apart give that player equal legal moves
abbrev pub Even : Game → Deal → List Play → ℕ → Type 0
Even g d ps r =
    (i j : ℕ) → i < length ps → j < length ps → alike d r (nth ps i) (nth ps j) ≡ true
    → legal_moves g (nth ps i) (slice_index_or (knowledge g d ps) i []) r ≡ legal_moves g (nth ps j) (slice_index_or (knowledge g d ps) j []) r

-- the lowest player for whom the book is not even, if there is one
abbrev pub EvennessJudged : Type 0
EvennessJudged =
    (g : Game) (d : Deal) (ps : List Play)
    → MatchOption (uneven g d ps)
    ((r : ℕ) → r < roles g → is_player g r ≡ true → Even g d ps r)
    (λ r. (r < roles g) × (is_player g r ≡ true) × (Even g d ps r → ⊥) × ((q : ℕ) → q < r → is_player g q ≡ true → Even g d ps q))

-- the players are the roles of the rules but `random`
abbrev pub PlayersDecided : Type 0
PlayersDecided = (g : Game) (r : ℕ) → Decides (is_player g r) ((r < roles g) × (slice_index_or g.names.roles r nature ≢ nature))

-- a class number is a place among the first plays of each class, and the play there is alike
abbrev pub ClassesNumbered : Type 0
ClassesNumbered =
    (d : Deal) (r : ℕ) (ps : List Play) (i : ℕ) → i < length ps
    → (class_number d r ps i < length (firsts (alike d r) ps)) × (alike d r (slice_index_or (firsts (alike d r) ps) (class_number d r ps i) no_play) (nth ps i) ≡ true)
