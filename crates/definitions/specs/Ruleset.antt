-- The verdict on a text as rules, and the game that accepted rules are.
--     Ruled          a form with its place
--     forms_verdict  the forms in order: broken ones and counts
--     Game           what is played: counts, rules over numbers, the opening state
--     game_verdict   the verdict on a text
--     SoundGame      what an accepted game keeps to
use Rattle.std.specs.Prelude.{◌≡◌, ℕ, ◌<◌, ◌≤◌, Bool, false, cond, not, List, [], ◌∷◌, ◌++◌, map, length, Some, None, codes, Option, slice_index_or}
use Rattle.definitions.specs.Refusal.{Refusal, rules_layer, Verdict, accepted, refused}
use Rattle.definitions.specs.Term.{Tree, none, ◌&◌, Term, Placed}
use Rattle.definitions.specs.Term as terms
use Rattle.definitions.specs.Reading.{verdict}
use Rattle.definitions.specs.Form.{same_term, Atom, Rule, Form, declares, opens, rules, form}
use Rattle.definitions.specs.Lists.{In, joined, any}
use Rattle.definitions.specs.Numbering.{Tables, tables, counted, rules_of, in_form, roles_in, number, numbered}
use Rattle.definitions.specs.Level.{level, Respects, named, body, about, comes_back, looks_ahead}

pub record Ruled : Type 0 where
  pub place : ℕ
  pub form : Form

abbrev pub in_rules : ℕ → ℕ → Refusal
in_rules n p = record { number = n; layer = rules_layer; place = p }

abbrev pub place_of : Tree ℕ → ℕ
place_of (Tree.word p w) = p
place_of (Tree.pair p ts) = p

-- the forms so far, and the next: it must be a form, and no count may be passed with it
abbrev pub one_more : List Ruled → ℕ → Option Form → Verdict (List Ruled)
one_more fs p None = refused (in_rules 6 p)
one_more fs p (Some f) =
    let more = fs ++ record { place = p; form = f } ∷ [] in
    cond (counted (map (λ r. r.form) more)) (accepted more) (refused (in_rules 7 p))

abbrev pub then : {X Y : Type 0} → Verdict X → (X → Verdict Y) → Verdict Y
then (accepted x) f = f x
then (refused r) f = refused r

abbrev pub forms_verdict : List Ruled → Placed → Verdict (List Ruled)
forms_verdict fs none = accepted fs
forms_verdict fs (t & ts) = then (one_more fs (place_of t) (form (terms.bare t))) (λ more. forms_verdict more ts)

abbrev pub declared : List Form → List Term
declared fs = joined (λ f. elim f [ declares r ↦ r ∷ [] | opens x ↦ [] | rules r ↦ [] ]) fs

abbrev pub opened : List Form → List Term
opened fs = joined (λ f. elim f [ declares r ↦ [] | opens x ↦ x ∷ [] | rules r ↦ [] ]) fs

abbrev pub holds_term : List Term → Term → Bool
holds_term ts t = any (λ u. same_term u t) ts

-- the first form of which something is true
abbrev pub first_place : (Ruled → Bool) → List Ruled → Option ℕ
first_place f [] = None
first_place f (r ∷ rs) = cond (f r) (Some r.place) (first_place f rs)

abbrev pub refused_at : {X : Type 0} → ℕ → Option ℕ → Verdict X → Verdict X
refused_at n None v = v
refused_at n (Some p) v = refused (in_rules n p)

abbrev pub undeclared : List Term → Ruled → Bool
undeclared rs f = any (λ r. not (holds_term rs r)) (joined roles_in (in_form f.form))

pub record Game : Type 0 where
  pub names : Tables
  pub rules : List (Rule ℕ)
  pub opening : List ℕ

abbrev pub roles : Game → ℕ
roles g = length g.names.roles

-- the role whose name is `random` is nature; the others are players
abbrev pub nature : Term
nature = Tree.word tt (codes "random")

abbrev pub rule_of : Tables → Ruled → List (Rule ℕ)
rule_of t f = map (numbered t) (rules_of f.form)

abbrev pub rule_such : Tables → (Rule ℕ → Bool) → Ruled → Bool
rule_such t test f = any test (rule_of t f)

abbrev pub game : List Ruled → Game
game fs =
    let forms = map (λ r. r.form) fs in
    let t = tables forms in
    record { names = t; rules = joined (rule_of t) fs; opening = map (number t.features) (opened forms) }

-- an undeclared role, then no levels, then a joint move that decides too early
abbrev pub checked : List Ruled → Verdict Game
checked fs =
    let g = game fs in
    refused_at 8 (first_place (undeclared (declared (map (λ r. r.form) fs))) fs)
    (refused_at 9 (first_place (rule_such g.names (comes_back g.rules)) fs)
    (refused_at 10 (first_place (rule_such g.names (looks_ahead g.rules)) fs)
    (accepted g)))

-- one role at least must be declared
abbrev pub some_role : ℕ → List Ruled → Verdict Game
some_role end fs = elim (declared (map (λ r. r.form) fs)) [ [] ↦ refused (in_rules 6 end) | r ∷ rs ↦ checked fs ]

abbrev pub game_verdict : List ℕ → Verdict Game
game_verdict text = then (verdict text) (λ ts. then (forms_verdict [] ts) (some_role (length text)))

-- what an accepted game keeps to: roles, features, moves, percepts, goal and knows atoms, facts and rules within their bounds, levels that fit, knows atoms over its own roles and facts, and nothing decided too early by a joint move
pub record SoundGame (g : Game) : Type 0 where
  pub some_role : 0 < roles g
  pub few_roles : roles g ≤ 8
  pub few_features : length g.names.features ≤ 64
  pub few_moves : (r : ℕ) → length (slice_index_or g.names.moves r []) ≤ 32
  pub few_percepts : (r : ℕ) → length (slice_index_or g.names.percepts r []) ≤ 64
  pub few_goals : length g.names.goals ≤ 64
  pub few_knows : length g.names.knows ≤ 64
  pub few_facts : length g.names.facts ≤ 256
  pub few_rules : length g.rules ≤ 1024
  pub levels : Respects (level g.rules) g.rules
  pub knowers : (x : Rule ℕ) → In x g.rules → (r p : ℕ) → In (Atom.knows r p) (joined named (body x)) → r < roles g
  pub known : (x : Rule ℕ) → In x g.rules → (p : ℕ) → In (Atom.fact p) (joined about (joined named (body x))) → p < length g.names.facts
  pub early : (x : Rule ℕ) → In x g.rules → looks_ahead g.rules x ≡ false

abbrev pub AcceptedSound : Type 0
AcceptedSound = (text : List ℕ) (g : Game) → game_verdict text ≡ accepted g → SoundGame g
