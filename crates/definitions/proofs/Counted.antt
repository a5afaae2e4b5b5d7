-- Forms that are counted keep to each count.
use Rattle.std.proofs.Common.{◌≡◌, ℕ, zero, suc, ◌≤◌, true, leb, List, [], ◌∷◌, length, get_or, arith}
use Rattle.std.proofs.lemmas.Bool.{and_parts, leb-true}
use Rattle.definitions.specs.Form.{Form}
use Rattle.definitions.specs.Lists.{joined, all}
use Rattle.definitions.specs.Numbering.{tables, rules_of, literals, counted}

all_short : {X : Type 0} (n : ℕ) (xs : List (List X)) → all (λ ys. leb (length ys) n) xs ≡ true → (i : ℕ) → length (get_or xs i []) ≤ n
all_short n [] e i = omega arith
all_short n (ys ∷ xs) e zero = leb-true (length ys) n (and_parts _ _ e).0
all_short n (ys ∷ xs) e (suc i) = all_short n xs (and_parts (leb (length ys) n) _ e).1 i

pub record Counts (fs : List Form) : Type 0 where
  pub roles : length (tables fs).roles ≤ 8
  pub features : length (tables fs).features ≤ 64
  pub moves : (r : ℕ) → length (get_or (tables fs).moves r []) ≤ 32
  pub percepts : (r : ℕ) → length (get_or (tables fs).percepts r []) ≤ 64
  pub goals : length (tables fs).goals ≤ 64
  pub knows : length (tables fs).knows ≤ 64
  pub facts : length (tables fs).facts ≤ 256
  pub rules : length (joined rules_of fs) ≤ 1024
  pub literals : length (joined literals (joined rules_of fs)) ≤ 4096

pub counted_counts : (fs : List Form) → counted fs ≡ true → Counts fs
counted_counts fs e =
    let (e₈, literals) = and_parts _ _ e in
    let (e₇, rules) = and_parts _ _ e₈ in
    let (e₆, facts) = and_parts _ _ e₇ in
    let (e₅, knows) = and_parts _ _ e₆ in
    let (e₄, goals) = and_parts _ _ e₅ in
    let (e₃, percepts) = and_parts _ _ e₄ in
    let (e₂, moves) = and_parts _ _ e₃ in
    let (roles, features) = and_parts _ _ e₂ in
    record {
      roles = leb-true _ _ roles;
      features = leb-true _ _ features;
      moves = all_short 32 _ moves;
      percepts = all_short 64 _ percepts;
      goals = leb-true _ _ goals;
      knows = leb-true _ _ knows;
      facts = leb-true _ _ facts;
      rules = leb-true _ _ rules;
      literals = leb-true _ _ literals;
    }
