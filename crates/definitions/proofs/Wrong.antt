-- A sheet that is wrong at a place is refused there, and no other sheet is refused.
use Rattle.std.proofs.Common.{◌≡◌, ℕ, zero, suc, ◌+◌, ◌≤◌, ltb, List, [], ◌∷◌, ◌++◌, length, Some, None, Option, sym, refl, ap, ◌∙◌, subst, arith}
use Rattle.std.proofs.lemmas.List.{append-nil, append_assoc, length-append}
use Rattle.std.proofs.lemmas.List.Concat.{flat_map-append}
use Rattle.std.proofs.lemmas.Bool.{cond-false, le-ltb, lt-leb}
use Rattle.definitions.specs.Refusal.{Verdict, accepted, refused, AtVerdict}
use Rattle.definitions.specs.Lists.{joined}
use Rattle.definitions.specs.Ruleset.{then}
use Rattle.definitions.specs.Deal.{Deal, Sheet, in_deal, record_of, noted, records, settled, sheet_verdict, Laid, laid_bytes, laid_length, worlds_in, reals_in, FineSoFar, SheetWrong, unknown_kind, cut_body, one_too_many, no_real, real_no_world, SheetsRefused}
use Rattle.definitions.proofs.Sheets.{by_length, by_kind, records_more, blank}
use Rattle.definitions.proofs.Tallied.{Placed, Tallied, TalliedMore, reals_split, real_counted, noted_tallied}
use Rattle.definitions.proofs.Stopped.{laid_length_push, WrongAt, refused_wrong}

fine_first : (xs ys : List Laid) → FineSoFar (xs ++ ys) → FineSoFar xs
fine_first xs ys h = record {
  few = omega (arith, h.few, ap length (flat_map-append worlds_in xs ys), length-append (joined worlds_in xs) (joined worlds_in ys));
  one = omega (arith, h.one, ap length (flat_map-append reals_in xs ys), length-append (joined reals_in xs) (joined reals_in ys));
}

noted_fine : (done : List Laid) (l : Laid) → FineSoFar (done ++ l ∷ []) → (v : Verdict Sheet) → TalliedMore done l v → (u : Sheet) × (v ≡ accepted u) × Tallied (done ++ l ∷ []) u
noted_fine done l fine (accepted u) m = (u, refl, m)
noted_fine done l fine (refused x) m = absurd (m.1 fine)

noted_wrong : (done : List Laid) (l : Laid) → (FineSoFar (done ++ l ∷ []) → ⊥) → (v : Verdict Sheet) → TalliedMore done l v → v ≡ refused (in_deal 11 (laid_length done))
noted_wrong done l wrong (accepted u) m = absurd (wrong m.fine)
noted_wrong done l wrong (refused x) m = ap refused m.0

-- the sheet after records with which nothing is wrong, and what is left to read
abbrev Run : List Laid → List ℕ → Verdict Sheet → Type 0
Run done rest v = (t : Sheet) × (left : ℕ) × Tallied done t × (v ≡ records left (laid_length done) t rest)

run : (more done : List Laid) (fuel : ℕ) (s : Sheet) (rest : List ℕ) → Tallied done s → FineSoFar (done ++ more) → length (joined laid_bytes more) ≤ fuel → Run (done ++ more) rest (records fuel (laid_length done) s (joined laid_bytes more ++ rest))
run [] done fuel s rest h fine low = subst (λ d. Run d rest (records fuel (laid_length done) s rest)) (sym (append-nil done)) (s, fuel, h, refl)
run (l ∷ more) done zero s rest h fine low = absurd (omega arith)
run (l ∷ more) done (suc fuel) s rest h fine low =
    let p = laid_length done in
    let bytes = joined laid_bytes more in
    let split = append_assoc done (l ∷ []) more in
    let whole = subst FineSoFar (sym split) fine in
    let (u, f, m) = noted_fine done l (fine_first (done ++ l ∷ []) more whole) (noted p s (record_of l.kind l.content)) (noted_tallied done s l h) in
    let (t, left, k, e) = run more (done ++ l ∷ []) fuel u rest m whole (omega (arith, length-append l.content bytes)) in
    let first : records (suc fuel) p s ((laid_bytes l ++ bytes) ++ rest) ≡ records fuel (laid_length (done ++ l ∷ [])) u (bytes ++ rest) =
    ap (records (suc fuel) p s) (append_assoc (laid_bytes l) bytes rest)
    ∙ records_more fuel p s l (bytes ++ rest)
    ∙ ap (λ v. then v (λ x. records fuel (p + 1 + length l.content) x (bytes ++ rest))) f
    ∙ ap (λ q. records fuel q u (bytes ++ rest)) (sym (laid_length_push done l)) in
    subst (λ d. Run d rest (records (suc fuel) p s ((laid_bytes l ++ bytes) ++ rest))) split (t, left, k, ◌∙◌ {c = records left (laid_length ((done ++ l ∷ []) ++ more)) t rest} first e)

blank_tallied : Tallied [] blank
blank_tallied = record { fine = record { few = omega arith; one = omega arith }; worlds = refl; placed = refl }

read : (bs : List ℕ) (done : List Laid) (rest : List ℕ) → FineSoFar done → bs ≡ joined laid_bytes done ++ rest → Run done rest (records (length bs) 0 blank bs)
read bs done rest fine e =
    subst (λ xs. Run done rest (records (length bs) 0 blank xs)) (sym e)
    (run done [] (length bs) blank rest blank_tallied fine (omega (arith, ap length e, length-append (joined laid_bytes done) rest)))

-- one record alone has the real world
real_once : (xs ys : List Laid) (l m : Laid) (us vs : List Laid) (r w : ℕ) → xs ++ l ∷ us ≡ ys ++ m ∷ vs → reals_in l ≡ r ∷ [] → reals_in m ≡ w ∷ [] → length (joined reals_in (xs ++ l ∷ us)) ≤ 1 → (laid_length xs ≡ laid_length ys) × (r ≡ w)
real_once [] [] l m us vs r w e f g low = (refl, cc)
real_once [] (y ∷ ys) l m us vs r w e f g low =
    let rest : us ≡ ys ++ m ∷ vs = cc in
    absurd (omega (arith, reals_split [] l us r f, reals_split ys m vs w g, ap (λ d. length (joined reals_in d)) rest))
real_once (x ∷ xs) [] l m us vs r w e f g low =
    let rest : xs ++ l ∷ us ≡ vs = cc in
    absurd (omega (arith, reals_split [] m vs w g, reals_split xs l us r f, ap (λ d. length (joined reals_in d)) rest, ap (λ d. length (joined reals_in d)) e))
real_once (x ∷ xs) (y ∷ ys) l m us vs r w e f g low =
    let same : x ≡ y = cc in
    let rest : xs ++ l ∷ us ≡ ys ++ m ∷ vs = cc in
    let (long, real) = real_once xs ys l m us vs r w rest f g (omega (arith, length-append (reals_in x) (joined reals_in (xs ++ l ∷ us)))) in
    (omega (arith, long, ap (λ z. length z.content) same, length-append x.content (joined laid_bytes xs), length-append y.content (joined laid_bytes ys)), real)

unsettled : (end : ℕ) (done : List Laid) (t : Sheet) → Tallied done t → joined reals_in done ≡ [] → settled end t ≡ refused (in_deal 11 end)
unsettled end done t h e = go t.real h.placed
  where
    go : (o : Option (ℕ × ℕ)) → Placed done o → settled end (record { worlds = t.worlds; real = o }) ≡ refused (in_deal 11 end)
    go None p = refl
    go (Some r) p = absurd (omega (arith, real_counted p, ap length e))

outside : (end : ℕ) (before : List Laid) (l : Laid) (after : List Laid) (r : ℕ) (t : Sheet) → let done = before ++ l ∷ after in Tallied done t → reals_in l ≡ r ∷ [] → length (joined worlds_in done) ≤ r → settled end t ≡ refused (in_deal 11 (laid_length before))
outside end before l after r t h e far = go t.real h.placed
  where
    go : (o : Option (ℕ × ℕ)) → Placed (before ++ l ∷ after) o → settled end (record { worlds = t.worlds; real = o }) ≡ refused (in_deal 11 (laid_length before))
    go None p = absurd (omega (arith, reals_split before l after r e, ap length p))
    go (Some q) p =
        let (long, real) = real_once before p.before l p.one after p.after r q.1 (sym p.split) e p.real h.fine.one in
        cond-false (ltb q.1 (length t.worlds)) _ _ (le-ltb _ _ (omega (arith, far, real, ap length h.worlds))) ∙ ap (λ x. refused (in_deal 11 x)) (sym (long ∙ p.place))

wrong_refused : (bs : List ℕ) (p : ℕ) → SheetWrong bs p → sheet_verdict bs ≡ refused (in_deal 11 p)
wrong_refused bs p (unknown_kind done k rest fine e f) =
    let (t, left, h, on) = read bs done (k ∷ rest) fine e in
    ap (λ v. then v (settled (length bs))) (on ∙ go left t)
  where
    go : (left : ℕ) (t : Sheet) → records left (laid_length done) t (k ∷ rest) ≡ refused (in_deal 11 (laid_length done))
    go zero t = refl
    go (suc left) t = ap (by_kind left (laid_length done) t k rest) f
wrong_refused bs p (cut_body done k n rest fine e f short) =
    let (t, left, h, on) = read bs done (k ∷ rest) fine e in
    ap (λ v. then v (settled (length bs))) (on ∙ go left t)
  where
    go : (left : ℕ) (t : Sheet) → records left (laid_length done) t (k ∷ rest) ≡ refused (in_deal 11 (laid_length done))
    go zero t = refl
    go (suc left) t = ap (by_kind left (laid_length done) t k rest) f ∙ ap (by_length left (laid_length done) t k rest n) (lt-leb n (length rest) short)
wrong_refused bs p (one_too_many done l rest fine e wrong) =
    let (t, left, h, on) = read bs done (laid_bytes l ++ rest) fine e in
    ap (λ v. then v (settled (length bs))) (on ∙ go left t h)
  where
    go : (left : ℕ) (t : Sheet) → Tallied done t → records left (laid_length done) t (laid_bytes l ++ rest) ≡ refused (in_deal 11 (laid_length done))
    go zero t h = refl
    go (suc left) t h =
        records_more left (laid_length done) t l rest
        ∙ ap (λ v. then v (λ u. records left (laid_length done + 1 + length l.content) u rest)) (noted_wrong done l wrong (noted (laid_length done) t (record_of l.kind l.content)) (noted_tallied done t l h))
wrong_refused bs p (no_real done fine e none) =
    let (t, left, h, on) = read bs done [] fine (e ∙ sym (append-nil (joined laid_bytes done))) in
    ap (λ v. then v (settled (length bs))) on ∙ unsettled (length bs) done t h none
wrong_refused bs p (real_no_world before l after r fine e f far) =
    let done = before ++ l ∷ after in
    let (t, left, h, on) = read bs done [] fine (e ∙ sym (append-nil (joined laid_bytes done))) in
    ap (λ v. then v (settled (length bs))) on ∙ outside (length bs) before l after r t h f far

pub sheets_refused : SheetsRefused
sheets_refused bs = go (sheet_verdict bs) refl (refused_wrong bs (length bs) [] blank bs blank_tallied refl (omega arith))
  where
    go : (v : Verdict Deal) → sheet_verdict bs ≡ v → WrongAt bs v → AtVerdict v (λ d. (p : ℕ) → SheetWrong bs p → ⊥) (λ r. (p : ℕ) × (r ≡ in_deal 11 p) × SheetWrong bs p × ((q : ℕ) → SheetWrong bs q → q ≡ p))
    go (accepted d) e h = λ p wrong. let f = wrong_refused bs p wrong in cc
    go (refused r) e (p, f, wrong) = (p, f, wrong, λ q other. let g = wrong_refused bs q other in let same : r ≡ in_deal 11 q = cc in ap (λ x. x.place) (sym same ∙ f))
