-- Worked positions: the coin table, and small texts, with what they come to.
--     coin             the text of the coin table
--     Worked           what its session prints, its first round, its hints, and the verdicts on the small texts
use Rattle.std.specs.Prelude.{◌≡◌, ℕ, true, false, List, [], ◌∷◌, map, length, None, codes}
use Rattle.definitions.specs.Refusal.{refused, AtVerdict}
use Rattle.definitions.specs.Lists.{upto}
use Rattle.definitions.specs.Form.{Atom}
use Rattle.definitions.specs.Level.{member}
use Rattle.definitions.specs.Holds.{Position, holds}
use Rattle.definitions.specs.Text.{in_text}
use Rattle.definitions.specs.Ruleset.{Game, in_rules, game_verdict}
use Rattle.definitions.specs.Deal.{Deal, opening, in_deal, standing}
use Rattle.definitions.specs.Knowledge.{deal_frame, knowing, hint_verdict}
use Rattle.definitions.specs.Play.{book, knowledge, class_number, round_deal}
use Rattle.definitions.specs.Session.{session}

abbrev pub coin : List ℕ
coin =
    codes
    "(role ann) (role random) (init start)\n(legal ann wait)\n(<= (legal ann look) (true start))\n(<= (legal ann call) (knows ann up))\n(<= (legal random heads) (true start))\n(<= (legal random tails) (true start))\n(<= (legal random wait) (not (true start)))\n(<= up (true top))\n(<= (next top) (or (does random heads) (true top)))\n(<= (sees ann face) (does ann look) (does random heads))\n(<= (goal ann 100) (true top))\n"

-- ann asks for her moves and looks, nature tosses heads, the round is closed; then what ann knows, what is common, her moves, a second look, whether the coin lies heads up, her goal, and whether it is over
abbrev pub asked : List ℕ
asked = 77 ∷ 0 ∷ 67 ∷ 0 ∷ 1 ∷ 67 ∷ 1 ∷ 0 ∷ 88 ∷ 75 ∷ 0 ∷ 0 ∷ 0 ∷ 65 ∷ 0 ∷ 0 ∷ 77 ∷ 0 ∷ 67 ∷ 0 ∷ 1 ∷ 72 ∷ 0 ∷ 0 ∷ 71 ∷ 0 ∷ 84 ∷ []

abbrev pub printed : List ℕ
printed = codes "M 3\nC 0\nC 0\nX 1 0\nK 1\nA 0\nM 5\nC -16\nH 1\nG 100\nT 0\n"

-- the coin table after its first round, with a real play
abbrev pub first_round : Game → ℕ → Deal
first_round g real = round_deal g (opening g) (book g (opening g) 1) real

-- ann is role 0, and that the coin lies heads up is fact 0
abbrev pub common_nowhere : Game → Type 0
common_nowhere g = map (λ K. member K (Atom.common 0)) (knowledge g (opening g) (book g (opening g) 1)) ≡ false ∷ false ∷ false ∷ false ∷ []

pub record FirstRound (g : Game) : Type 0 where
  pub plays : length (book g (opening g) 1) ≡ 4
  pub classes : map (class_number (opening g) 0 (book g (opening g) 1)) (upto 4) ≡ 0 ∷ 0 ∷ 1 ∷ 2 ∷ []
  pub common : common_nowhere g
  pub hint : AtVerdict (hint_verdict g (first_round g 2) 0 4) (λ d. (standing d ≡ 0 ∷ 2 ∷ []) × (map (λ K. member K (Atom.common 0)) (knowing g (deal_frame d)) ≡ true ∷ true ∷ [])) (λ r. ⊥)
  pub no_hint : AtVerdict (hint_verdict g (first_round g 3) 0 4) (λ d. ⊥) (λ r. r ≡ in_deal 21 0)

-- with no feature, no move and no knowledge
abbrev pub nothing : Position
nothing = record { state = 0; moves = None; knowledge = [] }

abbrev pub RefusedWith : List ℕ → ℕ → ℕ → Type 0
RefusedWith text n p = game_verdict text ≡ refused (in_rules n p)

pub record Worked : Type 0 where
  pub coin_session : session coin asked ≡ printed
  pub coin_round : AtVerdict (game_verdict coin) FirstRound (λ r. ⊥)
  pub not_in_turn : RefusedWith (codes "(role a) (<= p (not q)) (<= q (not p))") 9 9
  pub in_turn : AtVerdict (game_verdict (codes "(role a) (<= p q) (<= q p)")) (λ g. (holds g.rules nothing (Atom.fact 0) ≡ false) × (holds g.rules nothing (Atom.fact 1) ≡ false)) (λ r. ⊥)
  pub knows_itself : RefusedWith (codes "(role a) (<= p (knows a p))") 9 9
  pub moves_first : RefusedWith (codes "(role a) (<= (legal a m) (does a m))") 10 9
  pub variable : game_verdict (codes "(p ?x)") ≡ refused (in_text 3 3)
