-- The deals that are made, of a game's opening or of a sheet, are lawful.
use Rattle.std.proofs.Common.{◌≡◌, ℕ, zero, suc, ◌+◌, ◌*◌, ◌^◌, ◌<◌, ◌≤◌, Bool, false, cond, eqb, List, [], ◌∷◌, length, get_or, take, drop, Some, None, Option, sym, refl, ap, ◌∙◌, subst, ⊎_elim, pow-suc, arith, pow_pos, pow_mono}
use Rattle.std.proofs.lemmas.List.{length-take-le, length-drop, take-append-drop, get_or_past}
use Rattle.std.proofs.lemmas.Bool.{cond-true, cond_both, cases_lt, ne_eqb, lt-ltb, le-ltb}
use Rattle.definitions.specs.Refusal.{accepted, AtVerdict}
use Rattle.definitions.specs.Lists.{In, here, there, joined, from_to, upto}
use Rattle.definitions.specs.Ruleset.{Game, game_verdict}
use Rattle.definitions.specs.Deal.{Deal, Lawful, among, state_where, opening, Record, big_endian, pairs, sheet_deal, sheet_verdict, Laid, laid_bytes, worlds_in, SheetOf, MadeLawful}
use Rattle.definitions.proofs.Listed.{either_in, in_left, in_right, in_joined, joined_in}
use Rattle.definitions.proofs.Elements.{get_or_in, in_place}
use Rattle.definitions.proofs.Accepted.{accepted_sound}
use Rattle.definitions.proofs.Noted.{worlds_of}
use Rattle.definitions.proofs.Sheets.{sheets_decided}

state_where_below : (test : ℕ → Bool) (a n : ℕ) → state_where test (from_to a n) + 2 ^ a ≤ 2 ^ (a + n)
state_where_below test a zero = omega (arith, pow_mono {i = a} {j = a + 0} (omega arith))
state_where_below test a (suc n) =
    let on = state_where_below test (a + 1) n in
    let twice : 2 ^ (a + 1) ≡ 2 ^ a * 2 = ap (λ m. 2 ^ m) (omega arith) ∙ pow-suc 2 a in
    let same : 2 ^ (a + 1 + n) ≡ 2 ^ (a + suc n) = ap (λ m. 2 ^ m) (omega arith) in
    cond_both (test a) (2 ^ a) 0 (λ m. m + state_where test (from_to (a + 1) n) + 2 ^ a ≤ 2 ^ (a + suc n)) (λ e. omega arith) (λ e. omega arith)

opening_lawful : (text : List ℕ) (g : Game) → game_verdict text ≡ accepted g → Lawful (opening g)
opening_lawful text g e = record {
  some = omega arith;
  few = omega arith;
  states = λ w. cond_both (eqb w 0) state 0 (λ s. s < 2 ^ 64) (λ k. small) (λ k. pow_pos 64);
  classes = λ r w. omega arith;
  within = omega arith;
  stands = refl;
  past = λ w far. let off : eqb w 0 ≡ false = ne_eqb w 0 (λ z. omega arith) in (off, rw off refl, λ r. refl);
  unseated = λ r w far. refl;
}
  where
    n : ℕ
    n = length g.names.features

    state : ℕ
    state = state_where (among g.opening) (upto n)

    small : state < 2 ^ 64
    small = omega (arith, state_where_below (among g.opening) 0 n, pow_mono {i = 0 + n} {j = 64} (omega (arith, (accepted_sound text g e).few_features)))

abbrev Bytes : List ℕ → Type 0
Bytes bs = (b : ℕ) → In b bs → b < 256

in_bytes : (bs : List ℕ) → ((i : ℕ) → get_or bs i 0 < 256) → Bytes bs
in_bytes bs h b i = let p = in_place i in subst (λ n. n < 256) (p.2 0) (h p.0)

-- m times 256 for each of n bytes
abbrev widened : ℕ → ℕ → ℕ
widened m zero = m
widened m (suc n) = widened (m * 256) n

big_endian_below : (acc m : ℕ) (bs : List ℕ) → acc < m → Bytes bs → big_endian acc bs < widened m (length bs)
big_endian_below acc m [] low h = low
big_endian_below acc m (b ∷ bs) low h = big_endian_below (acc * 256 + b) (m * 256) bs (omega (arith, h b here)) (λ c i. h c (there i))

pairs_below : (bs : List ℕ) → Bytes bs → (i : ℕ) → get_or (pairs bs) i 0 < 65536
pairs_below [] h i = omega arith
pairs_below (a ∷ []) h i = omega arith
pairs_below (a ∷ b ∷ bs) h zero = omega (arith, h a here, h b (there here))
pairs_below (a ∷ b ∷ bs) h (suc i) = pairs_below bs (λ c j. h c (there (there j))) i

pairs_few : (n : ℕ) (bs : List ℕ) → length bs ≤ n + n → length (pairs bs) ≤ n
pairs_few n [] h = omega arith
pairs_few n (a ∷ []) h = omega arith
pairs_few zero (a ∷ b ∷ bs) h = absurd (omega arith)
pairs_few (suc n) (a ∷ b ∷ bs) h = omega (arith, pairs_few n bs (omega arith))

record World (x : ℕ × List ℕ) : Type 0 where
  state : x.0 < 2 ^ 64
  classes : (r : ℕ) → get_or x.1 r 0 < 65536
  seats : length x.1 ≤ 8

world_blank : World (0, [])
world_blank = record { state = pow_pos 64; classes = λ r. omega arith; seats = omega arith }

content_world : (bs : List ℕ) → length bs ≡ 24 → Bytes bs → World (big_endian 0 (take 8 bs), pairs (drop 8 bs))
content_world bs long h =
    let eight : length (take 8 bs) ≡ 8 = length-take-le 8 bs (omega arith) in
    let whole = take-append-drop 8 bs in
    let behind : Bytes (drop 8 bs) = λ b i. h b (subst (In b) whole (in_right (take 8 bs) i)) in
    record {
      state = subst (λ n. big_endian 0 (take 8 bs) < widened 1 n) eight (big_endian_below 0 1 (take 8 bs) (omega arith) (λ b i. h b (subst (In b) whole (in_left (drop 8 bs) i))));
      classes = pairs_below (drop 8 bs) behind;
      seats = pairs_few 8 (drop 8 bs) (omega (arith, length-drop 8 bs));
    }

laid_world : (l : Laid) → Bytes l.content → (x : ℕ × List ℕ) → In x (worlds_in l) → World x
laid_world l h x =
    let k = l.kind in
    let bs = l.content in
    cond_both (eqb k 87) (Record.world (big_endian 0 (take 8 bs)) (pairs (drop 8 bs))) (Record.real (big_endian 0 bs)) (λ r. In x (worlds_of r) → World x)
    (λ e i.
    let long : length bs ≡ 24 = cc (l.fits, cond-true {A = Option ℕ} (eqb k 87) (Some 24) (cond (eqb k 82) (Some 2) None) e) in
    ⊎_elim (λ same. subst World same (content_world bs long h)) (λ j. elim j [ ]) (either_in i))
    (λ e i. elim i [ ])

worlds_lawful : (ws : List (ℕ × List ℕ)) (r : ℕ) → length ws ≤ 64 → r < length ws → ((x : ℕ × List ℕ) → In x ws → World x) → Lawful (sheet_deal ws r)
worlds_lawful ws r few low each = record {
  some = omega arith;
  few = omega arith;
  states = λ w. (nth w).state;
  classes = λ q w. (nth w).classes q;
  within = low;
  stands = lt-ltb r (length ws) low;
  past = λ w far. let blank = get_or_past ws w (0, []) far in (le-ltb w (length ws) far, ap (λ x. x.0) blank, λ q. ap (λ x. get_or x.1 q 0) blank);
  unseated = λ q w far. get_or_past (get_or ws w (0, [])).1 q 0 (omega (arith, (nth w).seats));
}
  where
    nth : (w : ℕ) → World (get_or ws w (0, []))
    nth w = ⊎_elim (λ l. each _ (get_or_in ws w (0, []) l)) (λ l. rw (get_or_past ws w (0, []) l) world_blank) (cases_lt w (length ws))

sheet_lawful : (bs : List ℕ) (d : Deal) → ((i : ℕ) → get_or bs i 0 < 256) → sheet_verdict bs ≡ accepted d → Lawful d
sheet_lawful bs d h e =
    let s : SheetOf bs d = (subst (λ v. AtVerdict v (λ d. SheetOf bs d × ((e : Deal) → SheetOf bs e → e ≡ d)) (λ r. (d : Deal) → SheetOf bs d → ⊥)) e (sheets_decided bs)).0 in
    let each : (x : ℕ × List ℕ) → In x (joined worlds_in s.laid) → World x = λ x i.
    let (l, j, k) = joined_in worlds_in s.laid i in
    laid_world l (λ b m. in_bytes bs h b (subst (In b) s.bytes (in_joined laid_bytes j (there m)))) x k in
    subst Lawful (sym s.deal) (worlds_lawful (joined worlds_in s.laid) s.real s.few s.within each)

pub made_lawful : MadeLawful
made_lawful = (opening_lawful, sheet_lawful)
