-- Dependence among atoms, and levels.
--     uses, strict_uses     the atoms that a rule rests on, and those that must lie below its head
--     Depends               an atom depends on another
--     Respects, Least       levels that fit every rule, and the least of them
--     reaches, level        the functions that compute dependence and the least levels
--     rests_on_knowledge    a fact depends on a knows atom
use Rattle.std.specs.Prelude.{◌≡◌, ℕ, suc, ◌<◌, ◌≤◌, max, Bool, true, false, cond, ◌&&◌, ◌||◌, ◌⊎◌, List, [], ◌∷◌, ◌++◌, length, Decides, ◌==◌, nat_lt}
use Rattle.definitions.specs.Form.{Atom, Literal, settled, bare, negated, Rule}
use Rattle.definitions.specs.Lists.{In, joined, keep, any, most, repeat}

-- an atom as three numbers: its kind and its arguments
abbrev pub shape : Atom ℕ → ℕ × ℕ × ℕ
shape (Atom.role r) = (0, r, 0)
shape (Atom.true_now f) = (1, f, 0)
shape (Atom.does r m) = (2, r, m)
shape (Atom.knows r p) = (3, r, p)
shape (Atom.common p) = (4, p, 0)
shape (Atom.legal r m) = (5, r, m)
shape (Atom.goal r v) = (6, r, v)
shape Atom.terminal = (7, 0, 0)
shape (Atom.fact p) = (8, p, 0)
shape (Atom.next f) = (9, f, 0)
shape (Atom.sees r e) = (10, r, e)

abbrev pub same_atom : Atom ℕ → Atom ℕ → Bool
same_atom a b = (shape a).0 == (shape b).0 && (shape a).1 == (shape b).1 && (shape a).2 == (shape b).2

abbrev pub member : List (Atom ℕ) → Atom ℕ → Bool
member [] a = false
member (b ∷ bs) a = same_atom b a || member bs a

-- a knows atom brings the fact that it is about
abbrev pub about : Atom ℕ → List (Atom ℕ)
about (Atom.role r) = []
about (Atom.true_now f) = []
about (Atom.does r m) = []
about (Atom.knows r p) = Atom.fact p ∷ []
about (Atom.common p) = Atom.fact p ∷ []
about (Atom.legal r m) = []
about (Atom.goal r v) = []
about Atom.terminal = []
about (Atom.fact p) = []
about (Atom.next f) = []
about (Atom.sees r e) = []

abbrev pub named : Literal ℕ → List (Atom ℕ)
named (settled b) = []
named (bare a) = a ∷ []
named (negated a) = a ∷ []

abbrev pub under_not : Literal ℕ → List (Atom ℕ)
under_not (settled b) = []
under_not (bare a) = []
under_not (negated a) = a ∷ []

abbrev pub body : Rule ℕ → List (Literal ℕ)
body r = joined (λ p. p) r.parts

-- the atoms in a body, and the facts that its knows atoms are about
abbrev pub uses : Rule ℕ → List (Atom ℕ)
uses r = joined named (body r) ++ joined about (joined named (body r))

-- those under `not`, and those facts
abbrev pub strict_uses : Rule ℕ → List (Atom ℕ)
strict_uses r = joined under_not (body r) ++ joined about (joined named (body r))

pub data Depends (rules : List (Rule ℕ)) : Atom ℕ → Atom ℕ → Type 0 where
  by_rule : {r : Rule ℕ} {b : Atom ℕ} → In r rules → In b (uses r) → Depends rules r.head b
  onward : {a b c : Atom ℕ} → Depends rules a b → Depends rules b c → Depends rules a c

-- levels fit if a head is at least as high as what its rules use, and higher than what they use strictly
abbrev pub Respects : (Atom ℕ → ℕ) → List (Rule ℕ) → Type 0
Respects level rules =
    (r : Rule ℕ) → In r rules → ((a : Atom ℕ) → In a (uses r) → level a ≤ level r.head) × ((a : Atom ℕ) → In a (strict_uses r) → level a < level r.head)

pub record Least (level : Atom ℕ → ℕ) (rules : List (Rule ℕ)) : Type 0 where
  pub fits : Respects level rules
  pub least : (other : Atom ℕ → ℕ) → Respects other rules → (a : Atom ℕ) → level a ≤ other a

-- what is not there yet is added
abbrev pub with_all : List (Atom ℕ) → List (Atom ℕ) → List (Atom ℕ)
with_all [] set = set
with_all (a ∷ more) set = with_all more (cond (member set a) set (a ∷ set))

-- a set of atoms with what the rules of its members use
abbrev pub widen : List (Rule ℕ) → List (Atom ℕ) → List (Atom ℕ)
widen [] set = set
widen (r ∷ rs) set = widen rs (cond (member set r.head) (with_all (uses r) set) set)

-- the atoms that an atom depends on: those that its rules use, and what the rules of these use
abbrev pub below : List (Rule ℕ) → Atom ℕ → List (Atom ℕ)
below rules a = repeat (length rules) (widen rules) (with_all (joined uses (keep (λ r. same_atom r.head a) rules)) [])

abbrev pub reaches : List (Rule ℕ) → Atom ℕ → Atom ℕ → Bool
reaches rules a b = member (below rules a) b

abbrev pub is_knows : Atom ℕ → Bool
is_knows (Atom.role r) = false
is_knows (Atom.true_now f) = false
is_knows (Atom.does r m) = false
is_knows (Atom.knows r p) = true
is_knows (Atom.common p) = true
is_knows (Atom.legal r m) = false
is_knows (Atom.goal r v) = false
is_knows Atom.terminal = false
is_knows (Atom.fact p) = false
is_knows (Atom.next f) = false
is_knows (Atom.sees r e) = false

abbrev pub is_does : Atom ℕ → Bool
is_does (Atom.role r) = false
is_does (Atom.true_now f) = false
is_does (Atom.does r m) = true
is_does (Atom.knows r p) = false
is_does (Atom.common p) = false
is_does (Atom.legal r m) = false
is_does (Atom.goal r v) = false
is_does Atom.terminal = false
is_does (Atom.fact p) = false
is_does (Atom.next f) = false
is_does (Atom.sees r e) = false

abbrev pub rests_on_knowledge : List (Rule ℕ) → ℕ → Bool
rests_on_knowledge rules p = any is_knows (below rules (Atom.fact p))

-- levels so far, as a list of atoms with theirs; an atom that is not in it has level 0
abbrev pub level_in : List (Atom ℕ × ℕ) → Atom ℕ → ℕ
level_in [] a = 0
level_in (l ∷ ls) a = cond (same_atom l.0 a) l.1 (level_in ls a)

-- the level that a rule asks of its head
abbrev pub asked : List (Atom ℕ × ℕ) → Rule ℕ → ℕ
asked ls r = max (most (level_in ls) (uses r)) (most (λ a. suc (level_in ls a)) (strict_uses r))

-- each head raised to what its rules ask
abbrev pub raise : List (Rule ℕ) → List (Atom ℕ × ℕ) → List (Atom ℕ × ℕ)
raise [] ls = ls
raise (r ∷ rs) ls = raise rs (cond (nat_lt (level_in ls r.head) (asked ls r)) ((r.head, asked ls r) ∷ ls) ls)

abbrev pub levels : List (Rule ℕ) → List (Atom ℕ × ℕ)
levels rules = repeat (length rules) (raise rules) []

abbrev pub level : List (Rule ℕ) → Atom ℕ → ℕ
level rules a = level_in (levels rules) a

abbrev pub highest : List (Rule ℕ) → ℕ
highest rules = most (λ r. level rules r.head) rules

-- a rule whose head comes back to it through something that must lie below
abbrev pub comes_back : List (Rule ℕ) → Rule ℕ → Bool
comes_back rules r = any (λ a. same_atom a r.head || reaches rules a r.head) (strict_uses r)

-- the facts that knows atoms are about
abbrev pub known_facts : List (Rule ℕ) → List (Atom ℕ)
known_facts rules = joined (λ r. joined about (joined named (body r))) rules

-- the heads that no joint move may decide
abbrev pub before_moves : List (Rule ℕ) → Atom ℕ → Bool
before_moves rules (Atom.role r) = false
before_moves rules (Atom.true_now f) = false
before_moves rules (Atom.does r m) = false
before_moves rules (Atom.knows r p) = false
before_moves rules (Atom.common p) = false
before_moves rules (Atom.legal r m) = true
before_moves rules (Atom.goal r v) = true
before_moves rules Atom.terminal = true
before_moves rules (Atom.fact p) = member (known_facts rules) (Atom.fact p)
before_moves rules (Atom.next f) = false
before_moves rules (Atom.sees r e) = false

-- such a head with a rule that has, or depends on, a move that is made
abbrev pub looks_ahead : List (Rule ℕ) → Rule ℕ → Bool
looks_ahead rules r = before_moves rules r.head && any (λ a. is_does a || any is_does (below rules a)) (uses r)

-- dependence is decided, levels exist exactly where no head comes back, and then the function gives the least
abbrev pub ReachesDecides : Type 0
ReachesDecides = (rules : List (Rule ℕ)) (a b : Atom ℕ) → Decides (reaches rules a b) (Depends rules a b)

abbrev pub LevelsLeast : Type 0
LevelsLeast = (rules : List (Rule ℕ)) → any (comes_back rules) rules ≡ false → Least (level rules) rules

abbrev pub NoLevels : Type 0
NoLevels = (rules : List (Rule ℕ)) → any (comes_back rules) rules ≡ true → (l : Atom ℕ → ℕ) → Respects l rules → ⊥

-- a rule comes back if something that it uses strictly is, or depends on, its head
abbrev pub ComingBackDecided : Type 0
ComingBackDecided = (rules : List (Rule ℕ)) (r : Rule ℕ) → Decides (comes_back rules r) ((a : Atom ℕ) × In a (strict_uses r) × ((a ≡ r.head) ⊎ Depends rules a r.head))

-- a fact rests on knowledge if it depends on a knows atom
abbrev pub RestingDecided : Type 0
RestingDecided = (rules : List (Rule ℕ)) (p : ℕ) → Decides (rests_on_knowledge rules p) ((a : Atom ℕ) × Depends rules (Atom.fact p) a × (is_knows a ≡ true))

-- a rule looks ahead if its head is decided before moves and its body has, or depends on, a move that is made
abbrev pub LookingAheadDecided : Type 0
LookingAheadDecided =
    (rules : List (Rule ℕ)) (r : Rule ℕ)
    → Decides (looks_ahead rules r) ((before_moves rules r.head ≡ true) × ((a : Atom ℕ) × In a (uses r) × ((is_does a ≡ true) ⊎ ((b : Atom ℕ) × Depends rules a b × (is_does b ≡ true)))))
