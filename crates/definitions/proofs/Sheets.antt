-- A sheet is accepted exactly if its bytes are laid out as records, and its deal is theirs.
use Rattle.std.proofs.Common.{◌≡◌, ℕ, zero, suc, ◌+◌, ◌≤◌, Bool, true, false, ltb, leb, List, [], ◌∷◌, ◌++◌, length, take, drop, Some, None, Option, sym, refl, ap, ◌∙◌, subst, arith}
use Rattle.std.proofs.lemmas.List.{length-append, length-take-le, take-append-drop, take_at, drop_at}
use Rattle.std.proofs.lemmas.Bool.{cond_both, ltb-true, ltb-false, le-leb, leb-true}
use Rattle.definitions.specs.Refusal.{Verdict, accepted, refused, AtVerdict}
use Rattle.definitions.specs.Lists.{joined}
use Rattle.definitions.specs.Ruleset.{then}
use Rattle.definitions.specs.Deal.{Deal, Sheet, in_deal, body_length, record_of, noted, records, sheet_deal, settled, Laid, laid_bytes, worlds_in, reals_in, SheetOf, SheetsDecided}
use Rattle.definitions.proofs.Noted.{worlds_of, reals_of, reals, Grown, grown_none, grown_more, Room, room_first, room_rest, noted_grows, noted_accepts}

module _ (fuel p : ℕ) (s : Sheet) (k : ℕ) (bs : List ℕ) where
  -- a first record with a body of n bytes, and what follows it
  abbrev pub first_of : ℕ → Verdict Sheet
  first_of n = noted p s (record_of k (take n bs))

  abbrev pub rest_of : ℕ → Sheet → Verdict Sheet
  rest_of n t = records fuel (p + 1 + n) t (drop n bs)

  abbrev pub by_length : ℕ → Bool → Verdict Sheet
  by_length n b = elim b [ false ↦ refused (in_deal 11 p) | true ↦ then (first_of n) (rest_of n) ]

  abbrev pub by_kind : Option ℕ → Verdict Sheet
  by_kind o = elim o [ None ↦ refused (in_deal 11 p) | Some n ↦ by_length n (leb n (length bs)) ]

  records_by : (n : ℕ) → body_length k ≡ Some n → n ≤ length bs → records (suc fuel) p s (k ∷ bs) ≡ then (first_of n) (rest_of n)
  records_by n e low = ap by_kind e ∙ ap (by_length n) (le-leb n (length bs) low)

  abbrev First : Sheet → Type 0
  First t = (n : ℕ) × (u : Sheet) × (body_length k ≡ Some n) × (n ≤ length bs) × (first_of n ≡ accepted u) × (rest_of n u ≡ accepted t)

  records_first : (t : Sheet) → records (suc fuel) p s (k ∷ bs) ≡ accepted t → First t
  records_first t h = from_kind (body_length k) refl h
    where
      from_note : (n : ℕ) → body_length k ≡ Some n → n ≤ length bs → (v : Verdict Sheet) → first_of n ≡ v → then v (rest_of n) ≡ accepted t → First t
      from_note n e low (accepted u) f h = (n, u, e, low, f, h)
      from_note n e low (refused x) f h = cc

      from_length : (n : ℕ) → body_length k ≡ Some n → (b : Bool) → leb n (length bs) ≡ b → by_length n b ≡ accepted t → First t
      from_length n e true f h = from_note n e (leb-true _ _ f) (first_of n) refl h
      from_length n e false f h = cc

      from_kind : (o : Option ℕ) → body_length k ≡ o → by_kind o ≡ accepted t → First t
      from_kind None e h = cc
      from_kind (Some n) e h = from_length n e (leb n (length bs)) refl h

-- what is accepted is laid out as records
records_laid : (fuel p : ℕ) (s : Sheet) (bs : List ℕ) (t : Sheet) → records fuel p s bs ≡ accepted t → (laid : List Laid) × (joined laid_bytes laid ≡ bs) × Grown s (joined worlds_in laid) (joined reals_in laid) t
records_laid fuel p s [] t h = ([], refl, subst (Grown s [] []) (cc) (grown_none s))
records_laid zero p s (k ∷ bs) t h = cc
records_laid (suc fuel) p s (k ∷ bs) t h =
    let (n, u, e, low, f, on) = records_first fuel p s k bs t h in
    let (laid, bytes, grown) = records_laid fuel (p + 1 + n) u (drop n bs) t on in
    let l : Laid = record { kind = k; content = take n bs; fits = e ∙ ap Some (sym (length-take-le n bs low)) } in
    (l ∷ laid, ap (λ xs. k ∷ take n bs ++ xs) bytes ∙ ap (λ xs. k ∷ xs) (take-append-drop n bs), grown_more (noted_grows p s (record_of k (take n bs)) u f) grown)

pub records_more : (fuel p : ℕ) (s : Sheet) (l : Laid) (rest : List ℕ) → records (suc fuel) p s (laid_bytes l ++ rest) ≡ then (noted p s (record_of l.kind l.content)) (λ u. records fuel (p + 1 + length l.content) u rest)
records_more fuel p s l rest =
    let n = length l.content in
    let bs = l.content ++ rest in
    records_by fuel p s l.kind bs n l.fits (simp length-append (omega arith))
    ∙ ap (λ xs. then (noted p s (record_of l.kind xs)) (rest_of fuel p s l.kind bs n)) (take_at l.content rest n refl)
    ∙ ap (λ xs. then (noted p s (record_of l.kind l.content)) (λ u. records fuel (p + 1 + n) u xs)) (drop_at l.content rest n refl)

-- records for which the sheet has room are accepted
records_accepts : (laid : List Laid) (fuel p : ℕ) (s : Sheet) → length (joined laid_bytes laid) ≤ fuel → Room s (joined worlds_in laid) (joined reals_in laid) → (t : Sheet) × (records fuel p s (joined laid_bytes laid) ≡ accepted t) × Grown s (joined worlds_in laid) (joined reals_in laid) t
records_accepts [] fuel p s low room = (s, refl, grown_none s)
records_accepts (l ∷ laid) zero p s low room = absurd (omega arith)
records_accepts (l ∷ laid) (suc fuel) p s low room =
    let r = record_of l.kind l.content in
    let (u, f) = noted_accepts p s r (room_first s (worlds_of r) (joined worlds_in laid) (reals_of r) (joined reals_in laid) room) in
    let grown = noted_grows p s r u f in
    let short : length (joined laid_bytes laid) ≤ fuel = omega (arith, length-append l.content (joined laid_bytes laid)) in
    let (t, on, more) = records_accepts laid fuel (p + 1 + length l.content) u short (room_rest (joined worlds_in laid) (joined reals_in laid) grown room) in
    (t, records_more fuel p s l (joined laid_bytes laid) ∙ ap (λ v. then v (λ x. records fuel (p + 1 + length l.content) x (joined laid_bytes laid))) f ∙ on, grown_more grown more)

abbrev pub blank : Sheet
blank = record { worlds = []; real = None }

pub sheets_decided : SheetsDecided
sheets_decided bs = judged read refl
  where
    read : Verdict Sheet
    read = records (length bs) 0 blank bs

    Judged : Verdict Deal → Type 0
    Judged v = AtVerdict v (λ d. SheetOf bs d × ((e : Deal) → SheetOf bs e → e ≡ d)) (λ r. (d : Deal) → SheetOf bs d → ⊥)

    -- what is read of bytes that are laid out
    led : (d : Deal) (h : SheetOf bs d) → (t : Sheet) × (read ≡ accepted t) × (joined worlds_in h.laid ≡ t.worlds) × (h.real ∷ [] ≡ reals t)
    led d h =
        let room : Room blank (joined worlds_in h.laid) (joined reals_in h.laid) = record { worlds = h.few; real = omega (arith, ap length h.one) } in
        let (t, on, grown) = records_accepts h.laid (length bs) 0 blank (omega (arith, ap length h.bytes)) room in
        (t, subst (λ xs. records (length bs) 0 blank xs ≡ accepted t) h.bytes on, grown.worlds, sym h.one ∙ grown.real)

    settles : (ws : List (ℕ × List ℕ)) (o : Option (ℕ × ℕ)) → let t : Sheet = record { worlds = ws; real = o } in read ≡ accepted t → Judged (settled (length bs) t)
    settles ws None e = λ d h. let (t, f, worlds, real) = led d h in cc
    settles ws (Some r) e =
        cond_both (ltb r.1 (length ws)) (accepted _) (refused _) Judged
        (λ b.
        let (laid, bytes, grown) = records_laid (length bs) 0 blank bs (record { worlds = ws; real = Some r }) e in
        let same = ap length grown.worlds in (
          record {
            laid = laid;
            bytes = bytes;
            few = omega (arith, grown.few (omega arith));
            real = r.1;
            one = grown.real;
            within = omega (arith, ltb-true _ _ b);
            deal = ap (λ vs. sheet_deal vs r.1) (sym grown.worlds);
          },
          λ d h. let (t, f, worlds, real) = led d h in let same : h.real ≡ r.1 = cc in let all : joined worlds_in h.laid ≡ ws = cc in h.deal ∙ (λ i. sheet_deal (all i) (same i)),
        ))
        (λ b d h.
        let (t, f, worlds, real) = led d h in
        let same : h.real ≡ r.1 = cc in
        let long : length (joined worlds_in h.laid) ≡ length ws = cc in
        omega (arith, ltb-false _ _ b, h.within))

    judged : (v : Verdict Sheet) → read ≡ v → Judged (then v (settled (length bs)))
    judged (accepted t) e = settles t.worlds t.real e
    judged (refused r) e = λ d h. let (t, f, worlds, real) = led d h in cc
