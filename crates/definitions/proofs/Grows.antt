-- How the levels grow by the words and brackets of a text.
use Rattle.std.proofs.Common.{◌≡◌, ℕ, ◌<◌, List, [], ◌∷◌, ◌++◌, sym, refl}
use Rattle.definitions.specs.Term.{Tree, Trees, none, ◌&◌, Placed, Filled, Fit, Fits}
use Rattle.definitions.specs.Text.{Token, flat, flats, Levels, outer, inner, open_brackets, spread, Hold}
use Rattle.definitions.specs.Reading.{add}
use Rattle.definitions.proofs.Levels.{adds, adds_none, adds_first, open_add}

-- the tokens ts lead from the levels ls to the levels ks
abbrev pub Grows : Levels → List Token → Levels → Type 0
Grows ls [] ks = ls ≡ ks
Grows ls (Token.word at w ∷ ts) ks = Grows (add ls (Tree.word at w)) ts ks
Grows ls (Token.opening at ∷ ts) ks = (open_brackets ls < 8) × Grows (inner ls at none) ts ks
Grows ls (Token.closing ∷ ts) ks = (js : Levels) × (from : ℕ) × (us : Placed) × (ls ≡ inner js from us) × Filled us × Grows (add js (Tree.pair from us)) ts ks

grows_append : (js : Levels) (xs : List Token) (ls : Levels) (ys : List Token) (ks : Levels) → Grows js xs ls → Grows ls ys ks → Grows js (xs ++ ys) ks
grows_append js [] ls ys ks g h = rw g h
grows_append js (Token.word at w ∷ xs) ls ys ks g h = grows_append (add js (Tree.word at w)) xs ls ys ks g h
grows_append js (Token.opening at ∷ xs) ls ys ks g h = (g.0, grows_append (inner js at none) xs ls ys ks g.1 h)
grows_append js (Token.closing ∷ xs) ls ys ks g h = (g.0, g.1, g.2, g.3, g.4, grows_append (add g.0 (Tree.pair g.1 g.2)) xs ls ys ks g.5 h)

pub grows_split : (js : Levels) (xs ys : List Token) (ks : Levels) → Grows js (xs ++ ys) ks → (ls : Levels) × Grows js xs ls × Grows ls ys ks
grows_split js [] ys ks g = (js, refl, g)
grows_split js (Token.word at w ∷ xs) ys ks g = grows_split (add js (Tree.word at w)) xs ys ks g
grows_split js (Token.opening at ∷ xs) ys ks g =
    let r = grows_split (inner js at none) xs ys ks g.1 in (r.0, (g.0, r.1), r.2)
grows_split js (Token.closing ∷ xs) ys ks g =
    let r = grows_split (add g.0 (Tree.pair g.1 g.2)) xs ys ks g.5 in (r.0, (g.0, g.1, g.2, g.3, g.4, r.1), r.2)

mutual
  grows_flat : (t : Tree ℕ) (ls : Levels) → Fit (open_brackets ls) t → Grows ls (flat t) (add ls t)
  grows_flat (Tree.word at w) ls h = refl
  grows_flat (Tree.pair at ts) ls h =
      (h.0, grows_append (inner ls at none) (flats ts) (inner ls at ts) (Token.closing ∷ []) _ (grows_flats ts (inner ls at none) h.2) (ls, at, ts, refl, h.1, refl))

  grows_flats : (ts : Trees ℕ) (ls : Levels) → Fits (open_brackets ls) ts → Grows ls (flats ts) (adds ls ts)
  grows_flats none ls h = sym (adds_none ls)
  grows_flats (t & ts) ls h =
      grows_append ls (flat t) (add ls t) (flats ts) _ (grows_flat t ls h.0)
      (rw (← adds_first ls t ts) (grows_flats ts (add ls t) (rw (open_add ls t) h.1)))

pub grows_spread : (ls : Levels) → Hold ls → Grows (outer none) (spread ls) ls
grows_spread (outer ts) h = grows_flats ts (outer none) h
grows_spread (inner ls at ts) h =
    grows_append (outer none) (spread ls) ls _ _ (grows_spread ls h.0) (h.1, grows_flats ts (inner ls at none) h.2)
