-- The forms of the language: declarations, rules and their atoms, over terms and, once they are numbered, over numbers.
--     Keyword, keyword     the words with a meaning of their own
--     is_term, plain       terms, and those whose first word is no keyword
--     Atom X, Literal X    what a rule speaks of
--     Rule X               a head, and parts that must all hold, each of alternatives of which one must
--     Form, form           the form that a term is, if it is one
use Rattle.std.specs.Prelude.{◌≡◌, ℕ, ◌+◌, ◌-◌, ◌*◌, ◌≤◌, Bool, true, false, cond, not, ◌&&◌, ◌↔◌, List, [], ◌∷◌, Some, None, codes, decimal, Decides, Option, ◌==◌, ◌≢◌, nat_le}
use Rattle.definitions.specs.Term.{Tree, none, ◌&◌, Term, Terms}

pub data Keyword : Type 0 where
  role : Keyword
  init : Keyword
  true_now : Keyword
  next : Keyword
  legal : Keyword
  does : Keyword
  sees : Keyword
  goal : Keyword
  terminal : Keyword
  knows : Keyword
  distinct : Keyword
  negation : Keyword
  disjunction : Keyword
  arrow : Keyword

abbrev pub spelling : Keyword → List ℕ
spelling Keyword.role = codes "role"
spelling Keyword.init = codes "init"
spelling Keyword.true_now = codes "true"
spelling Keyword.next = codes "next"
spelling Keyword.legal = codes "legal"
spelling Keyword.does = codes "does"
spelling Keyword.sees = codes "sees"
spelling Keyword.goal = codes "goal"
spelling Keyword.terminal = codes "terminal"
spelling Keyword.knows = codes "knows"
spelling Keyword.distinct = codes "distinct"
spelling Keyword.negation = codes "not"
spelling Keyword.disjunction = codes "or"
spelling Keyword.arrow = codes "<="

abbrev pub keywords : List Keyword
keywords = Keyword.role ∷ Keyword.init ∷ Keyword.true_now ∷ Keyword.next ∷ Keyword.legal ∷ Keyword.does ∷ Keyword.sees ∷ Keyword.goal ∷ Keyword.terminal ∷ Keyword.knows ∷ Keyword.distinct ∷ Keyword.negation ∷ Keyword.disjunction ∷ Keyword.arrow ∷ []

abbrev pub same_word : List ℕ → List ℕ → Bool
same_word [] [] = true
same_word [] (c ∷ cs) = false
same_word (b ∷ bs) [] = false
same_word (b ∷ bs) (c ∷ cs) = b == c && same_word bs cs

abbrev pub among : List Keyword → List ℕ → Option Keyword
among [] w = None
among (k ∷ ks) w = cond (same_word (spelling k) w) (Some k) (among ks w)

abbrev pub keyword : List ℕ → Option Keyword
keyword w = among keywords w

abbrev mutual
  pub same_term : Term → Term → Bool
  same_term (Tree.word p v) (Tree.word q w) = same_word v w
  same_term (Tree.word p v) (Tree.pair q us) = false
  same_term (Tree.pair p ts) (Tree.word q w) = false
  same_term (Tree.pair p ts) (Tree.pair q us) = same_terms ts us

  pub same_terms : Terms → Terms → Bool
  same_terms none none = true
  same_terms none (u & us) = false
  same_terms (t & ts) none = false
  same_terms (t & ts) (u & us) = same_term t u && same_terms ts us

-- a word first and at least one more term
abbrev pub headed : Terms → Bool
headed none = false
headed (Tree.pair p us & ts) = false
headed (Tree.word p w & none) = false
headed (Tree.word p w & (t & ts)) = true

abbrev mutual
  pub is_term : Term → Bool
  is_term (Tree.word p w) = true
  is_term (Tree.pair p ts) = headed ts && are_terms ts

  pub are_terms : Terms → Bool
  are_terms none = true
  are_terms (t & ts) = is_term t && are_terms ts

abbrev pub list : Terms → List Term
list none = []
list (t & ts) = t ∷ list ts

-- the word that a term is or begins with
abbrev pub leading : Term → Option (List ℕ)
leading (Tree.word p w) = Some w
leading (Tree.pair p none) = None
leading (Tree.pair p (Tree.word q w & ts)) = Some w
leading (Tree.pair p (Tree.pair q us & ts)) = None

abbrev pub no_keyword : Option (List ℕ) → Bool
no_keyword None = false
no_keyword (Some w) = elim (keyword w) [ None ↦ true | Some k ↦ false ]

-- a plain fact is a term whose first word is no keyword
abbrev pub plain : Term → Bool
plain t = is_term t && no_keyword (leading t)

-- X is what roles, features, moves, percepts and facts are named by: terms, or numbers
pub data Atom (X : Type 0) : Type 0 where
  role : X → Atom X
  true_now : X → Atom X
  does : X → X → Atom X
  knows : X → X → Atom X
  common : X → Atom X
  legal : X → X → Atom X
  goal : X → ℕ → Atom X
  terminal : Atom X
  fact : X → Atom X
  next : X → Atom X
  sees : X → X → Atom X

-- a literal that compares two terms is settled where it stands
pub data Literal (X : Type 0) : Type 0 where
  settled : Bool → Literal X
  bare : Atom X → Literal X
  negated : Atom X → Literal X

pub record Rule (X : Type 0) : Type 0 where
  pub head : Atom X
  pub parts : List (List (Literal X))

pub data Form : Type 0 where
  declares : Term → Form
  opens : Term → Form
  rules : Rule Term → Form

abbrev pub when : {X : Type 0} → Bool → X → Option X
when b x = cond b (Some x) None

abbrev pub digit : ℕ → Bool
digit c = nat_le 48 c && nat_le c 57

-- 0 to 100 without leading zeros
abbrev pub value : Term → Option ℕ
value (Tree.pair p ts) = None
value (Tree.word p []) = None
value (Tree.word p (c ∷ [])) = when (digit c) (c - 48)
value (Tree.word p (c ∷ d ∷ [])) = when (digit c && digit d && not (c == 48)) (10 * (c - 48) + (d - 48))
value (Tree.word p (c ∷ d ∷ e ∷ [])) = when (c == 49 && d == 48 && e == 48) 100
value (Tree.word p (c ∷ d ∷ e ∷ f ∷ w)) = None

abbrev pub after : {X Y : Type 0} → Option X → (X → Option Y) → Option Y
after None f = None
after (Some x) f = f x

abbrev pub goal_of : Term → Term → Option (Atom Term)
goal_of r v = after (value v) (λ n. when (is_term r) (Atom.goal r n))

abbrev pub two_terms : (Term → Term → Atom Term) → List Term → Option (Atom Term)
two_terms f [] = None
two_terms f (t ∷ []) = None
two_terms f (t ∷ u ∷ []) = when (is_term t && is_term u) (f t u)
two_terms f (t ∷ u ∷ v ∷ ts) = None

abbrev pub one_term : (Term → Atom Term) → List Term → Option (Atom Term)
one_term f [] = None
one_term f (t ∷ []) = when (is_term t) (f t)
one_term f (t ∷ u ∷ ts) = None

abbrev pub a_goal : List Term → Option (Atom Term)
a_goal [] = None
a_goal (t ∷ []) = None
a_goal (t ∷ u ∷ []) = goal_of t u
a_goal (t ∷ u ∷ v ∷ ts) = None

abbrev pub a_knows : List Term → Option (Atom Term)
a_knows [] = None
a_knows (t ∷ []) = when (plain t) (Atom.common t)
a_knows (t ∷ u ∷ []) = when (is_term t && plain u) (Atom.knows t u)
a_knows (t ∷ u ∷ v ∷ ts) = None

-- what may stand in a body
abbrev pub body_atom : Keyword → List Term → Option (Atom Term)
body_atom Keyword.role ts = one_term Atom.role ts
body_atom Keyword.init ts = None
body_atom Keyword.true_now ts = one_term Atom.true_now ts
body_atom Keyword.next ts = None
body_atom Keyword.legal ts = two_terms Atom.legal ts
body_atom Keyword.does ts = two_terms Atom.does ts
body_atom Keyword.sees ts = None
body_atom Keyword.goal ts = a_goal ts
body_atom Keyword.terminal ts = None
body_atom Keyword.knows ts = a_knows ts
body_atom Keyword.distinct ts = None
body_atom Keyword.negation ts = None
body_atom Keyword.disjunction ts = None
body_atom Keyword.arrow ts = None

-- what a rule may conclude
abbrev pub head_atom : Keyword → List Term → Option (Atom Term)
head_atom Keyword.role ts = None
head_atom Keyword.init ts = None
head_atom Keyword.true_now ts = None
head_atom Keyword.next ts = one_term Atom.next ts
head_atom Keyword.legal ts = two_terms Atom.legal ts
head_atom Keyword.does ts = None
head_atom Keyword.sees ts = two_terms Atom.sees ts
head_atom Keyword.goal ts = a_goal ts
head_atom Keyword.terminal ts = None
head_atom Keyword.knows ts = None
head_atom Keyword.distinct ts = None
head_atom Keyword.negation ts = None
head_atom Keyword.disjunction ts = None
head_atom Keyword.arrow ts = None

-- a word alone is `terminal` or a plain fact
abbrev pub word_atom : Option Keyword → Term → Option (Atom Term)
word_atom None t = Some (Atom.fact t)
word_atom (Some Keyword.terminal) t = Some Atom.terminal
word_atom (Some Keyword.role) t = None
word_atom (Some Keyword.init) t = None
word_atom (Some Keyword.true_now) t = None
word_atom (Some Keyword.next) t = None
word_atom (Some Keyword.legal) t = None
word_atom (Some Keyword.does) t = None
word_atom (Some Keyword.sees) t = None
word_atom (Some Keyword.goal) t = None
word_atom (Some Keyword.knows) t = None
word_atom (Some Keyword.distinct) t = None
word_atom (Some Keyword.negation) t = None
word_atom (Some Keyword.disjunction) t = None
word_atom (Some Keyword.arrow) t = None

abbrev pub pair_atom : (Keyword → List Term → Option (Atom Term)) → Option Keyword → Term → Terms → Option (Atom Term)
pair_atom f None t ts = when (is_term t) (Atom.fact t)
pair_atom f (Some k) t ts = f k (list ts)

-- the atom that a term is, by what its keyword may make of its arguments
abbrev pub an_atom : (Keyword → List Term → Option (Atom Term)) → Term → Option (Atom Term)
an_atom f (Tree.word p w) = word_atom (keyword w) (Tree.word p w)
an_atom f (Tree.pair p none) = None
an_atom f (Tree.pair p (Tree.pair q us & ts)) = None
an_atom f (Tree.pair p (Tree.word q w & ts)) = pair_atom f (keyword w) (Tree.pair p (Tree.word q w & ts)) ts

abbrev pub atom : Term → Option (Atom Term)
atom t = an_atom body_atom t

abbrev pub head : Term → Option (Atom Term)
head t = an_atom head_atom t

abbrev pub map_some : {X Y : Type 0} → (X → Y) → Option X → Option Y
map_some f None = None
map_some f (Some x) = Some (f x)

abbrev pub a_not : List Term → Option (Literal Term)
a_not [] = None
a_not (t ∷ []) = map_some Literal.negated (atom t)
a_not (t ∷ u ∷ ts) = None

abbrev pub a_distinct : List Term → Option (Literal Term)
a_distinct [] = None
a_distinct (t ∷ []) = None
a_distinct (t ∷ u ∷ []) = when (is_term t && is_term u) (Literal.settled (not (same_term t u)))
a_distinct (t ∷ u ∷ v ∷ ts) = None

-- whether a term is a pair that begins with the keyword, and then what follows it
abbrev pub led_by : Keyword → Term → Option (List Term)
led_by k (Tree.word p w) = None
led_by k (Tree.pair p none) = None
led_by k (Tree.pair p (Tree.pair q us & ts)) = None
led_by k (Tree.pair p (Tree.word q w & ts)) = when (same_word (spelling k) w) (list ts)

abbrev pub literal : Term → Option (Literal Term)
literal t = elim (led_by Keyword.negation t) [
  | Some ts ↦ a_not ts
  | None ↦ elim (led_by Keyword.distinct t) [ Some ts ↦ a_distinct ts | None ↦ map_some Literal.bare (atom t) ]
]

-- each of some things, if each is there
abbrev pub all_of : {X Y : Type 0} → (X → Option Y) → List X → Option (List Y)
all_of f [] = Some []
all_of f (x ∷ xs) = after (f x) (λ y. map_some (λ ys. y ∷ ys) (all_of f xs))

abbrev pub part : Term → Option (List (Literal Term))
part t = elim (led_by Keyword.disjunction t) [
  | Some ts ↦ elim ts [ [] ↦ None | u ∷ us ↦ all_of literal (u ∷ us) ]
  | None ↦ map_some (λ l. l ∷ []) (literal t)
]

abbrev pub a_rule : List Term → Option Form
a_rule [] = None
a_rule (h ∷ []) = None
a_rule (h ∷ p ∷ ps) = after (head h) (λ a. map_some (λ bs. Form.rules (record { head = a; parts = bs })) (all_of part (p ∷ ps)))

abbrev pub a_declaration : (Term → Form) → List Term → Option Form
a_declaration f [] = None
a_declaration f (t ∷ []) = when (is_term t) (f t)
a_declaration f (t ∷ u ∷ ts) = None

abbrev pub form : Term → Option Form
form t = elim (led_by Keyword.role t) [
  | Some ts ↦ a_declaration Form.declares ts
  | None ↦ elim (led_by Keyword.init t) [
    | Some ts ↦ a_declaration Form.opens ts
    | None ↦ elim (led_by Keyword.arrow t) [
      | Some ts ↦ a_rule ts
      | None ↦ map_some (λ a. Form.rules (record { head = a; parts = [] })) (head t)
    ]
  ]
]

-- a word is a keyword exactly if it is spelt as one
abbrev pub KeywordsSpelt : Type 0
KeywordsSpelt = (w : List ℕ) → ((k : Keyword) → (keyword w ≡ Some k) ↔ (w ≡ spelling k)) × ((keyword w ≡ None) ↔ ((k : Keyword) → w ≢ spelling k))

-- a goal value is a number up to 100 as it is written in decimal
abbrev pub ValuesDecimal : Type 0
ValuesDecimal = (w : List ℕ) (n : ℕ) → (value (Tree.word tt w) ≡ Some n) ↔ ((n ≤ 100) × (w ≡ decimal n))

-- terms are equal if alike in words and brackets
abbrev pub TermsAlike : Type 0
TermsAlike = (t u : Term) → Decides (same_term t u) (t ≡ u)
