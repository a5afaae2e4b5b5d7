-- What holds in a position: the standard model of the rules, level by level.
--     Position, given      a state, a joint move or none, and a knowledge set; the atoms that these give
--     fires                a rule's body holds
--     Standard             each level is the least set closed under its rules, with what is below it fixed
--     holds                the function that computes it
use Rattle.std.specs.Prelude.{◌≡◌, ℕ, zero, suc, ◌/◌, ◌%◌, ◌^◌, ◌<◌, ◌≤◌, Bool, true, false, cond, not, ◌&&◌, ◌||◌, List, [], ◌∷◌, length, Some, None, Option, ◌==◌}
use Rattle.definitions.specs.Form.{Atom, Literal, settled, bare, negated, Rule}
use Rattle.definitions.specs.Lists.{In, all, any, repeat}
use Rattle.definitions.specs.Level.{member, levels, level, level_in, highest, Respects, rests_on_knowledge}

-- bit f of a state says whether feature f holds; a joint move has the move of each role in turn; a knowledge set is a list of knows atoms
pub record Position : Type 0 where
  pub state : ℕ
  pub moves : Option (List ℕ)
  pub knowledge : List (Atom ℕ)

abbrev pub bit : ℕ → ℕ → Bool
bit f s = s / 2 ^ f % 2 == 1

abbrev pub nth_is : List ℕ → ℕ → ℕ → Bool
nth_is [] r m = false
nth_is (n ∷ ns) zero m = n == m
nth_is (n ∷ ns) (suc r) m = nth_is ns r m

abbrev pub made : Option (List ℕ) → ℕ → ℕ → Bool
made None r m = false
made (Some ns) r m = nth_is ns r m

abbrev pub given : Position → Atom ℕ → Bool
given p (Atom.role r) = true
given p (Atom.true_now f) = bit f p.state
given p (Atom.does r m) = made p.moves r m
given p (Atom.knows r q) = member p.knowledge (Atom.knows r q)
given p (Atom.common q) = member p.knowledge (Atom.common q)
given p (Atom.legal r m) = false
given p (Atom.goal r v) = false
given p Atom.terminal = false
given p (Atom.fact q) = false
given p (Atom.next f) = false
given p (Atom.sees r e) = false

-- a set of atoms
abbrev pub Atoms : Type 0
Atoms = Atom ℕ → Bool

abbrev pub literal_holds : Atoms → Literal ℕ → Bool
literal_holds S (settled b) = b
literal_holds S (bare a) = S a
literal_holds S (negated a) = not (S a)

abbrev pub fires : Atoms → Rule ℕ → Bool
fires S r = all (any (literal_holds S)) r.parts

-- every atom of one set is in the other
abbrev pub Includes : Atoms → Atoms → Type 0
Includes G S = (a : Atom ℕ) → G a ≡ true → S a ≡ true

-- closed under the rules whose heads have level k
abbrev pub ClosedAt : (Atom ℕ → ℕ) → List (Rule ℕ) → ℕ → Atoms → Type 0
ClosedAt level rules k S = (r : Rule ℕ) → In r rules → level r.head ≡ k → fires S r ≡ true → S r.head ≡ true

-- two sets have the same atoms of levels below k
abbrev pub SameBelow : (Atom ℕ → ℕ) → ℕ → Atoms → Atoms → Type 0
SameBelow level k S X = (a : Atom ℕ) → level a < k → S a ≡ X a

pub record Standard (level : Atom ℕ → ℕ) (rules : List (Rule ℕ)) (G S : Atoms) : Type 0 where
  pub has : Includes G S
  pub closed : (k : ℕ) → ClosedAt level rules k S
  pub least : (k : ℕ) (X : Atoms) → SameBelow level k S X → Includes G X → ClosedAt level rules k X → (a : Atom ℕ) → level a ≡ k → S a ≡ true → X a ≡ true

-- what is given, and what has been derived
abbrev pub with_derived : Atoms → List (Atom ℕ) → Atoms
with_derived G set a = G a || member set a

-- the heads of level k that the rules add to what is derived so far, rule by rule
abbrev pub derive : (Atom ℕ → ℕ) → Atoms → ℕ → List (Rule ℕ) → List (Atom ℕ) → List (Atom ℕ)
derive level G k [] set = set
derive level G k (r ∷ rs) set =
    derive level G k rs (cond (level r.head == k && not (member set r.head) && fires (with_derived G set) r) (r.head ∷ set) set)

-- the levels below k, each until nothing more can come
abbrev pub climb : (Atom ℕ → ℕ) → Atoms → List (Rule ℕ) → ℕ → List (Atom ℕ)
climb level G rules zero = []
climb level G rules (suc k) = repeat (length rules) (derive level G k rules) (climb level G rules k)

abbrev pub derived : List (Rule ℕ) → Position → List (Atom ℕ)
derived rules p =
    let ls = levels rules in
    climb (level_in ls) (given p) rules (suc (highest rules))

abbrev pub holds : List (Rule ℕ) → Position → Atoms
holds rules p = let set = derived rules p in λ a. with_derived (given p) set a

-- where levels fit, what is computed is the standard model, and there is one only
abbrev pub HoldsStandard : Type 0
HoldsStandard = (rules : List (Rule ℕ)) → Respects (level rules) rules → (p : Position) → Standard (level rules) rules (given p) (holds rules p)

abbrev pub StandardOne : Type 0
StandardOne = (l : Atom ℕ → ℕ) (rules : List (Rule ℕ)) (G S X : Atoms) → Standard l rules G S → Standard l rules G X → (a : Atom ℕ) → S a ≡ X a

-- two positions that differ only in knowledge of facts of level k or more have the same atoms up to level k
abbrev pub AgreeBelow : List (Rule ℕ) → ℕ → Position → Position → Type 0
AgreeBelow rules k p q =
    (p.state ≡ q.state) × (p.moves ≡ q.moves)
    × ((r f : ℕ) → level rules (Atom.fact f) < k → member p.knowledge (Atom.knows r f) ≡ member q.knowledge (Atom.knows r f))
    × ((f : ℕ) → level rules (Atom.fact f) < k → member p.knowledge (Atom.common f) ≡ member q.knowledge (Atom.common f))

abbrev pub LevelLocal : Type 0
LevelLocal = (rules : List (Rule ℕ)) → Respects (level rules) rules → (k : ℕ) (p q : Position) → AgreeBelow rules k p q → (f : ℕ) → level rules (Atom.fact f) ≤ k → holds rules p (Atom.fact f) ≡ holds rules q (Atom.fact f)

-- a fact that rests on no knowledge is the same for every knowledge set
abbrev pub WithoutKnowledge : Type 0
WithoutKnowledge = (rules : List (Rule ℕ)) (f : ℕ) → rests_on_knowledge rules f ≡ false → (p q : Position) → p.state ≡ q.state → p.moves ≡ q.moves → holds rules p (Atom.fact f) ≡ holds rules q (Atom.fact f)
