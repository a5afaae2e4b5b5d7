-- Lists of terms and levels with more terms at the end.
use Rattle.std.proofs.Common.{◌≡◌, ℕ, suc, ◌≤◌, ◌++◌, refl, ap, append_assoc, append-nil, arith}
use Rattle.definitions.specs.Term.{Tree, none, ◌&◌, Placed, ◌▹◌, Fit, Fits}
use Rattle.definitions.specs.Text.{flat, flats, Levels, outer, inner, open_brackets, spread, Hold}
use Rattle.definitions.specs.Reading.{add}

infixl 40 ◌▹▹◌
abbrev pub ◌▹▹◌ : Placed → Placed → Placed
none ▹▹ ts = ts
(u & us) ▹▹ ts = u & (us ▹▹ ts)

more_none : (us : Placed) → us ▹▹ none ≡ us
more_none none = refl
more_none (u & us) = ap (λ ts. u & ts) (more_none us)

more_first : (us : Placed) (t : Tree ℕ) (ts : Placed) → (us ▹ t) ▹▹ ts ≡ us ▹▹ (t & ts)
more_first none t ts = refl
more_first (u & us) t ts = ap (λ vs. u & vs) (more_first us t ts)

-- more terms, in the innermost bracket that is open
abbrev pub adds : Levels → Placed → Levels
adds (outer us) ts = outer (us ▹▹ ts)
adds (inner ls at us) ts = inner ls at (us ▹▹ ts)

pub adds_none : (ls : Levels) → adds ls none ≡ ls
adds_none (outer us) = ap outer (more_none us)
adds_none (inner ls at us) = ap (inner ls at) (more_none us)

pub adds_first : (ls : Levels) (t : Tree ℕ) (ts : Placed) → adds (add ls t) ts ≡ adds ls (t & ts)
adds_first (outer us) t ts = ap outer (more_first us t ts)
adds_first (inner ls at us) t ts = ap (inner ls at) (more_first us t ts)

flats_more : (ts : Placed) (t : Tree ℕ) → flats (ts ▹ t) ≡ flats ts ++ flat t
flats_more none t = append-nil (flat t)
flats_more (u & ts) t = rw (flats_more ts t, append_assoc)

pub spread_add : (ls : Levels) (t : Tree ℕ) → spread (add ls t) ≡ spread ls ++ flat t
spread_add (outer ts) t = flats_more ts t
spread_add (inner ls at ts) t = rw (flats_more ts t, append_assoc)

pub open_add : (ls : Levels) (t : Tree ℕ) → open_brackets (add ls t) ≡ open_brackets ls
open_add (outer ts) t = refl
open_add (inner ls at ts) t = refl

fits_more : (d : ℕ) (ts : Placed) (t : Tree ℕ) → Fits d ts → Fit d t → Fits d (ts ▹ t)
fits_more d none t h k = (k, tt)
fits_more d (u & ts) t h k = (h.0, fits_more d ts t h.1 k)

pub hold_add : (ls : Levels) (t : Tree ℕ) → Hold ls → Fit (open_brackets ls) t → Hold (add ls t)
hold_add (outer ts) t h k = fits_more 0 ts t h k
hold_add (inner ls at ts) t h k = (h.0, h.1, fits_more (suc (open_brackets ls)) ts t h.2 k)

pub hold_eight : (ls : Levels) → Hold ls → open_brackets ls ≤ 8
hold_eight (outer ts) h = omega arith
hold_eight (inner ls at ts) h = h.1
