-- Roles, features, moves, percepts and facts are numbered from 0 by first appearance, and counted.
--     Mention, mentions    what the forms speak of, in reading order
--     Tables, tables       the names under their numbers
--     counted              nothing is more than its most
--     numbered             a rule over numbers
use Rattle.std.specs.Prelude.{◌≡◌, ℕ, Bool, true, false, cond, ◌&&◌, leb, List, [], ◌∷◌, ◌++◌, map, length, Some, None, Decides, Option, ◌==◌, nat_le, slice_index_or}
use Rattle.definitions.specs.Lists.{In, joined, all, firsts, first_like, FirstAppearance}
use Rattle.definitions.specs.Term.{Term}
use Rattle.definitions.specs.Form.{same_term, Atom, Literal, settled, bare, negated, Rule, Form, declares, opens, rules}

pub data Mention : Type 0 where
  a_role : Term → Mention
  a_feature : Term → Mention
  a_move : Term → Term → Mention
  a_percept : Term → Term → Mention
  a_fact : Term → Mention
  a_goal : Term → ℕ → Mention
  a_knows : Term → Term → Mention
  a_common : Term → Mention

abbrev pub in_atom : Atom Term → List Mention
in_atom (Atom.role r) = a_role r ∷ []
in_atom (Atom.true_now f) = a_feature f ∷ []
in_atom (Atom.does r m) = a_role r ∷ a_move r m ∷ []
in_atom (Atom.knows r p) = a_role r ∷ a_fact p ∷ a_knows r p ∷ []
in_atom (Atom.common p) = a_fact p ∷ a_common p ∷ []
in_atom (Atom.legal r m) = a_role r ∷ a_move r m ∷ []
in_atom (Atom.goal r v) = a_role r ∷ a_goal r v ∷ []
in_atom Atom.terminal = []
in_atom (Atom.fact p) = a_fact p ∷ []
in_atom (Atom.next f) = a_feature f ∷ []
in_atom (Atom.sees r e) = a_role r ∷ a_percept r e ∷ []

abbrev pub in_literal : Literal Term → List Mention
in_literal (settled b) = []
in_literal (bare a) = in_atom a
in_literal (negated a) = in_atom a

abbrev pub in_rule : Rule Term → List Mention
in_rule r = in_atom r.head ++ joined (joined in_literal) r.parts

abbrev pub in_form : Form → List Mention
in_form (declares r) = a_role r ∷ []
in_form (opens f) = a_feature f ∷ []
in_form (rules r) = in_rule r

abbrev pub mentions : List Form → List Mention
mentions fs = joined in_form fs

abbrev pub roles_in : Mention → List Term
roles_in (a_role r) = r ∷ []
roles_in (a_feature f) = []
roles_in (a_move r m) = []
roles_in (a_percept r e) = []
roles_in (a_fact p) = []
roles_in (a_goal r v) = []
roles_in (a_knows r p) = []
roles_in (a_common p) = []

abbrev pub features_in : Mention → List Term
features_in (a_role r) = []
features_in (a_feature f) = f ∷ []
features_in (a_move r m) = []
features_in (a_percept r e) = []
features_in (a_fact p) = []
features_in (a_goal r v) = []
features_in (a_knows r p) = []
features_in (a_common p) = []

abbrev pub facts_in : Mention → List Term
facts_in (a_role r) = []
facts_in (a_feature f) = []
facts_in (a_move r m) = []
facts_in (a_percept r e) = []
facts_in (a_fact p) = p ∷ []
facts_in (a_goal r v) = []
facts_in (a_knows r p) = []
facts_in (a_common p) = []

-- the moves and the percepts of a role
abbrev pub moves_in : Term → Mention → List Term
moves_in s (a_role r) = []
moves_in s (a_feature f) = []
moves_in s (a_move r m) = cond (same_term s r) (m ∷ []) []
moves_in s (a_percept r e) = []
moves_in s (a_fact p) = []
moves_in s (a_goal r v) = []
moves_in s (a_knows r p) = []
moves_in s (a_common p) = []

abbrev pub percepts_in : Term → Mention → List Term
percepts_in s (a_role r) = []
percepts_in s (a_feature f) = []
percepts_in s (a_move r m) = []
percepts_in s (a_percept r e) = cond (same_term s r) (e ∷ []) []
percepts_in s (a_fact p) = []
percepts_in s (a_goal r v) = []
percepts_in s (a_knows r p) = []
percepts_in s (a_common p) = []

-- goal atoms over all roles, and knows atoms, individual and common together
abbrev pub goals_in : Mention → List (Term × ℕ)
goals_in (a_role r) = []
goals_in (a_feature f) = []
goals_in (a_move r m) = []
goals_in (a_percept r e) = []
goals_in (a_fact p) = []
goals_in (a_goal r v) = (r, v) ∷ []
goals_in (a_knows r p) = []
goals_in (a_common p) = []

abbrev pub knows_in : Mention → List (Option Term × Term)
knows_in (a_role r) = []
knows_in (a_feature f) = []
knows_in (a_move r m) = []
knows_in (a_percept r e) = []
knows_in (a_fact p) = []
knows_in (a_goal r v) = []
knows_in (a_knows r p) = (Some r, p) ∷ []
knows_in (a_common p) = (None, p) ∷ []

abbrev pub same_goal : Term × ℕ → Term × ℕ → Bool
same_goal x y = same_term x.0 y.0 && x.1 == y.1

abbrev pub same_knower : Option Term → Option Term → Bool
same_knower None None = true
same_knower None (Some s) = false
same_knower (Some r) None = false
same_knower (Some r) (Some s) = same_term r s

abbrev pub same_knows : Option Term × Term → Option Term × Term → Bool
same_knows x y = same_knower x.0 y.0 && same_term x.1 y.1

-- a list of moves and one of percepts for each role, in the order of the roles
pub record Tables : Type 0 where
  pub roles : List Term
  pub features : List Term
  pub moves : List (List Term)
  pub percepts : List (List Term)
  pub facts : List Term
  pub goals : List (Term × ℕ)
  pub knows : List (Option Term × Term)

abbrev pub tables : List Form → Tables
tables fs =
    let ms = mentions fs in
    let rs = firsts same_term (joined roles_in ms) in
    record {
      roles = rs;
      features = firsts same_term (joined features_in ms);
      moves = map (λ r. firsts same_term (joined (moves_in r) ms)) rs;
      percepts = map (λ r. firsts same_term (joined (percepts_in r) ms)) rs;
      facts = firsts same_term (joined facts_in ms);
      goals = firsts same_goal (joined goals_in ms);
      knows = firsts same_knows (joined knows_in ms);
    }

abbrev pub rules_of : Form → List (Rule Term)
rules_of (declares r) = []
rules_of (opens f) = []
rules_of (rules r) = r ∷ []

-- every literal counts, each alternative, each that is negated and each that is settled
abbrev pub literals : Rule Term → List (Literal Term)
literals r = joined (λ p. p) r.parts

abbrev pub counted : List Form → Bool
counted fs =
    let t = tables fs in
    let rs = joined rules_of fs in
    nat_le (length t.roles) 8
    && nat_le (length t.features) 64
    && all (λ ms. leb (length ms) 32) t.moves
    && all (λ es. leb (length es) 64) t.percepts
    && nat_le (length t.goals) 64
    && nat_le (length t.knows) 64
    && nat_le (length t.facts) 256
    && nat_le (length rs) 1024
    && nat_le (length (joined literals rs)) 4096

-- the number of a term in a table, and the table's length where it is not there
abbrev pub number : List Term → Term → ℕ
number ts t = first_like same_term ts t

module _ (t : Tables) where
  abbrev pub role_number : Term → ℕ
  role_number r = number t.roles r

  abbrev pub move_number : Term → Term → ℕ
  move_number r m = number (slice_index_or t.moves (role_number r) []) m

  abbrev pub percept_number : Term → Term → ℕ
  percept_number r e = number (slice_index_or t.percepts (role_number r) []) e

  abbrev pub numbered_atom : Atom Term → Atom ℕ
  numbered_atom (Atom.role r) = Atom.role (role_number r)
  numbered_atom (Atom.true_now f) = Atom.true_now (number t.features f)
  numbered_atom (Atom.does r m) = Atom.does (role_number r) (move_number r m)
  numbered_atom (Atom.knows r p) = Atom.knows (role_number r) (number t.facts p)
  numbered_atom (Atom.common p) = Atom.common (number t.facts p)
  numbered_atom (Atom.legal r m) = Atom.legal (role_number r) (move_number r m)
  numbered_atom (Atom.goal r v) = Atom.goal (role_number r) v
  numbered_atom Atom.terminal = Atom.terminal
  numbered_atom (Atom.fact p) = Atom.fact (number t.facts p)
  numbered_atom (Atom.next f) = Atom.next (number t.features f)
  numbered_atom (Atom.sees r e) = Atom.sees (role_number r) (percept_number r e)

  abbrev pub numbered_literal : Literal Term → Literal ℕ
  numbered_literal (settled b) = settled b
  numbered_literal (bare a) = bare (numbered_atom a)
  numbered_literal (negated a) = negated (numbered_atom a)

  abbrev pub numbered : Rule Term → Rule ℕ
  numbered r = record { head = numbered_atom r.head; parts = map (map numbered_literal) r.parts }

-- a table has the names of its kind by first appearance, and no other list has
abbrev pub NamesByFirstAppearance : Type 0
NamesByFirstAppearance = (xs : List Term) → FirstAppearance same_term xs (firsts same_term xs) × ((ys : List Term) → FirstAppearance same_term xs ys → ys ≡ firsts same_term xs)

-- names and their numbers are one to one
abbrev pub NumbersTell : Type 0
NumbersTell = (ts : List Term) (t u : Term) → In t ts → In u ts → Decides (number ts t == number ts u) (t ≡ u)
