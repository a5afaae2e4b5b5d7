-- Deals: possible worlds, what each role can't tell apart, and the world that is real.
--     Deck, Seats, Deal    worlds, and on top of them classes and the real world
--     Lawful               what every deal keeps to
--     standing             the worlds that stand, in order
--     opening              the deal of a game's own opening
--     Record, Sheet        a setter's list of records
--     sheet_verdict        its deal, or where it is broken
use Rattle.std.specs.Prelude.{◌≡◌, ℕ, zero, suc, ◌+◌, ◌*◌, ◌^◌, ◌<◌, ◌≤◌, Bool, true, false, cond, List, [], ◌∷◌, ◌++◌, length, take, drop, Some, None, Option, ◌==◌, nat_le, nat_lt, slice_index, slice_index_or}
use Rattle.definitions.specs.Refusal.{Refusal, deal_layer, Verdict, accepted, refused, AtVerdict}
use Rattle.definitions.specs.Lists.{joined, keep, upto}
use Rattle.definitions.specs.Ruleset.{Game, then, game_verdict}

-- a world's state has bit f for feature f
pub record Deck : Type 0 where
  pub size : ℕ
  pub stands : ℕ → Bool
  pub state : ℕ → ℕ

-- role r can't tell apart the worlds whose classes for r are equal
pub record Seats : Type 0 where
  pub class : ℕ → ℕ → ℕ
  pub real : ℕ

pub record Deal : Type 0 where
  pub deck : Deck
  pub seats : Seats

pub record Lawful (d : Deal) : Type 0 where
  pub some : 0 < d.deck.size
  pub few : d.deck.size ≤ 4096
  pub states : (w : ℕ) → d.deck.state w < 2 ^ 64
  pub classes : (r w : ℕ) → d.seats.class r w < 65536
  pub within : d.seats.real < d.deck.size
  pub stands : d.deck.stands d.seats.real ≡ true
  pub past : (w : ℕ) → d.deck.size ≤ w → (d.deck.stands w ≡ false) × (d.deck.state w ≡ 0) × ((r : ℕ) → d.seats.class r w ≡ 0)
  pub unseated : (r w : ℕ) → 8 ≤ r → d.seats.class r w ≡ 0

abbrev pub standing : Deal → List ℕ
standing d = keep d.deck.stands (upto d.deck.size)

-- the state in which exactly the listed features hold, of n features
abbrev pub among : List ℕ → ℕ → Bool
among [] f = false
among (g ∷ gs) f = cond (g == f) true (among gs f)

abbrev pub state_where : (ℕ → Bool) → List ℕ → ℕ
state_where test [] = 0
state_where test (f ∷ fs) = cond (test f) (2 ^ f) 0 + state_where test fs

abbrev pub one_world : ℕ → Deal
one_world s = record {
  deck = record { size = 1; stands = λ w. (w == 0); state = λ w. cond (w == 0) s 0 };
  seats = record { class = λ r w. 0; real = 0 };
}

abbrev pub opening : Game → Deal
opening g = one_world (state_where (among g.opening) (upto (length g.names.features)))

-- a record of a sheet: a world with its state and its class for each of the eight roles, or the real world
pub data Record : Type 0 where
  world : ℕ → List ℕ → Record
  real : ℕ → Record

-- the worlds of a sheet in order, and its real world with the place of its record
pub record Sheet : Type 0 where
  pub worlds : List (ℕ × List ℕ)
  pub real : Option (ℕ × ℕ)

abbrev pub in_deal : ℕ → ℕ → Refusal
in_deal n p = record { number = n; layer = deal_layer; place = p }

-- high bytes come first
abbrev pub big_endian : ℕ → List ℕ → ℕ
big_endian acc [] = acc
big_endian acc (b ∷ bs) = big_endian (acc * 256 + b) bs

abbrev pub pairs : List ℕ → List ℕ
pairs [] = []
pairs (a ∷ []) = []
pairs (a ∷ b ∷ bs) = (a * 256 + b) ∷ pairs bs

-- the length of a record's body, by its kind: W is 87 and R is 82
abbrev pub body_length : ℕ → Option ℕ
body_length k = cond (k == 87) (Some 24) (cond (k == 82) (Some 2) None)

abbrev pub record_of : ℕ → List ℕ → Record
record_of k b = cond (k == 87) (Record.world (big_endian 0 (take 8 b)) (pairs (drop 8 b))) (Record.real (big_endian 0 b))

-- one record more: at most 64 worlds, and one real world
abbrev pub noted : ℕ → Sheet → Record → Verdict Sheet
noted p s (Record.world st cs) =
    cond (nat_lt (length s.worlds) 64) (accepted (record { worlds = s.worlds ++ (st, cs) ∷ []; real = s.real })) (refused (in_deal 11 p))
noted p s (Record.real w) = elim s.real [ None ↦ accepted (record { worlds = s.worlds; real = Some (p, w) }) | Some r ↦ refused (in_deal 11 p) ]

-- the records that are left, of which the first stands at place p; each takes a byte at least, so the number of bytes bounds them
abbrev pub records : ℕ → ℕ → Sheet → List ℕ → Verdict Sheet
records fuel p s [] = accepted s
records zero p s (k ∷ bs) = refused (in_deal 11 p)
records (suc fuel) p s (k ∷ bs) = elim (body_length k) [
  | None ↦ refused (in_deal 11 p)
  | Some n ↦ elim (nat_le n (length bs)) [
    | false ↦ refused (in_deal 11 p)
    | true ↦ then (noted p s (record_of k (take n bs))) (λ more. records fuel (p + 1 + n) more (drop n bs))
  ]
]

abbrev pub sheet_deal : List (ℕ × List ℕ) → ℕ → Deal
sheet_deal ws r =
    let n = length ws in
    let nth : ℕ → ℕ × List ℕ = λ w. slice_index_or ws w (0, []) in
    record {
      deck = record { size = n; stands = λ w. nat_lt w n; state = λ w. (nth w).0 };
      seats = record { class = λ q w. slice_index (nth w).1 q; real = r };
    }

-- the real world is judged last
abbrev pub settled : ℕ → Sheet → Verdict Deal
settled end s = elim s.real [
  | None ↦ refused (in_deal 11 end)
  | Some r ↦ cond (nat_lt r.1 (length s.worlds)) (accepted (sheet_deal s.worlds r.1)) (refused (in_deal 11 r.0))
]

abbrev pub sheet_verdict : List ℕ → Verdict Deal
sheet_verdict bs = then (records (length bs) 0 (record { worlds = []; real = None }) bs) (settled (length bs))

-- a record as it is laid out: its kind byte and a body of the length that the kind fixes
pub record Laid : Type 0 where
  pub kind : ℕ
  pub content : List ℕ
  pub fits : body_length kind ≡ Some (length content)

abbrev pub laid_bytes : Laid → List ℕ
laid_bytes l = l.kind ∷ l.content

abbrev pub worlds_in : Laid → List (ℕ × List ℕ)
worlds_in l = elim (record_of l.kind l.content) [ Record.world st cs ↦ (st, cs) ∷ [] | Record.real w ↦ [] ]

abbrev pub reals_in : Laid → List ℕ
reals_in l = elim (record_of l.kind l.content) [ Record.world st cs ↦ [] | Record.real w ↦ w ∷ [] ]

-- the bytes are those of a list of records with at most 64 worlds and one real world among them, and this is their deal
pub record SheetOf (bs : List ℕ) (d : Deal) : Type 0 where
  pub laid : List Laid
  pub bytes : joined laid_bytes laid ≡ bs
  pub few : length (joined worlds_in laid) ≤ 64
  pub real : ℕ
  pub one : joined reals_in laid ≡ real ∷ []
  pub within : real < length (joined worlds_in laid)
  pub deal : d ≡ sheet_deal (joined worlds_in laid) real

-- records with which nothing is wrong yet
pub record FineSoFar (done : List Laid) : Type 0 where
  pub few : length (joined worlds_in done) ≤ 64
  pub one : length (joined reals_in done) ≤ 1

abbrev pub laid_length : List Laid → ℕ
laid_length done = length (joined laid_bytes done)

-- the first record with which something is wrong, at its kind byte; at the end a real world that is missing, at the length, or that is no world of the sheet, at its record
pub data SheetWrong (bs : List ℕ) : ℕ → Type 0 where
  unknown_kind : (done : List Laid) (k : ℕ) (rest : List ℕ) → FineSoFar done → bs ≡ joined laid_bytes done ++ k ∷ rest → body_length k ≡ None → SheetWrong bs (laid_length done)
  cut_body : (done : List Laid) (k n : ℕ) (rest : List ℕ) → FineSoFar done → bs ≡ joined laid_bytes done ++ k ∷ rest → body_length k ≡ Some n → length rest < n → SheetWrong bs (laid_length done)
  one_too_many : (done : List Laid) (l : Laid) (rest : List ℕ) → FineSoFar done → bs ≡ joined laid_bytes done ++ (laid_bytes l ++ rest) → (FineSoFar (done ++ l ∷ []) → ⊥) → SheetWrong bs (laid_length done)
  no_real : (done : List Laid) → FineSoFar done → bs ≡ joined laid_bytes done → joined reals_in done ≡ [] → SheetWrong bs (length bs)
  real_no_world : (before : List Laid) (l : Laid) (rest : List Laid) (r : ℕ) → FineSoFar (before ++ l ∷ rest) → bs ≡ joined laid_bytes (before ++ l ∷ rest) → reals_in l ≡ r ∷ [] → length (joined worlds_in (before ++ l ∷ rest)) ≤ r → SheetWrong bs (laid_length before)

-- a refused sheet is refused with 11 where it is wrong, and it is wrong at one place
abbrev pub SheetsRefused : Type 0
SheetsRefused = (bs : List ℕ) → AtVerdict (sheet_verdict bs) (λ d. (p : ℕ) → SheetWrong bs p → ⊥) (λ r. (p : ℕ) × (r ≡ in_deal 11 p) × SheetWrong bs p × ((q : ℕ) → SheetWrong bs q → q ≡ p))

-- a sheet is accepted exactly if it is laid out so, in one way
abbrev pub SheetsDecided : Type 0
SheetsDecided = (bs : List ℕ) → AtVerdict (sheet_verdict bs) (λ d. SheetOf bs d × ((e : Deal) → SheetOf bs e → e ≡ d)) (λ r. (d : Deal) → SheetOf bs d → ⊥)

-- the deals that are made keep to what every deal keeps to
abbrev pub MadeLawful : Type 0
MadeLawful =
    ((text : List ℕ) (g : Game) → game_verdict text ≡ accepted g → Lawful (opening g))
    × ((bs : List ℕ) (d : Deal) → ((i : ℕ) → slice_index bs i < 256) → sheet_verdict bs ≡ accepted d → Lawful d)
