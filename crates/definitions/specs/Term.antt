-- Terms: a word, or a bracket pair round terms.
--     Tree P, Trees P   a term, and a list of terms, with a P at each word and pair
--     Term, Terms       the same with nothing there: two are equal if alike in words and brackets
--     Placed            a term with the place, in its text, of each word and opening bracket
--     bare, bares       a placed term and a list of them without the places
--     Fit d, Fits d     what stands under d brackets goes at most eight deep, and has no empty pair
use Rattle.std.specs.Prelude.{ℕ, suc, ◌<◌, List}

infixr 50 ◌&◌
infixl 40 ◌▹◌
mutual
  pub data Tree (P : Type 0) : Type 0 where
    word : P → List ℕ → Tree P
    pair : P → Trees P → Tree P

  pub data Trees (P : Type 0) : Type 0 where
    none : Trees P
    ◌&◌ : Tree P → Trees P → Trees P

abbrev pub Term : Type 0
Term = Tree (Unit {0})

abbrev pub Terms : Type 0
Terms = Trees (Unit {0})

abbrev pub Placed : Type 0
Placed = Trees ℕ

-- one more term at the end of a list
abbrev pub ◌▹◌ : {P : Type 0} → Trees P → Tree P → Trees P
none ▹ t = t & none
(u & us) ▹ t = u & (us ▹ t)

abbrev mutual
  pub bare : Tree ℕ → Term
  bare (Tree.word at w) = Tree.word tt w
  bare (Tree.pair at ts) = Tree.pair tt (bares ts)

  pub bares : Trees ℕ → Terms
  bares none = none
  bares (t & ts) = bare t & bares ts

abbrev pub Filled : {P : Type 0} → Trees P → Type 0
Filled none = ⊥
Filled (t & ts) = Unit {0}

abbrev mutual
  pub Fit : ℕ → Tree ℕ → Type 0
  Fit d (Tree.word at w) = Unit {0}
  Fit d (Tree.pair at ts) = (d < 8) × Filled ts × Fits (suc d) ts

  pub Fits : ℕ → Trees ℕ → Type 0
  Fits d none = Unit {0}
  Fits d (t & ts) = Fit d t × Fits d ts
