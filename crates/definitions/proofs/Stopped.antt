-- A refused sheet is wrong where it is refused.
use Rattle.std.proofs.Common.{◌≡◌, ℕ, zero, suc, ◌+◌, ◌≤◌, Bool, true, false, ltb, leb, List, [], ◌∷◌, ◌++◌, length, take, drop, Some, None, Option, sym, refl, ap, ◌∙◌, subst, arith}
use Rattle.std.proofs.lemmas.List.{append-nil, append_assoc, length-append, length-drop, length-take-le, take-append-drop}
use Rattle.std.proofs.lemmas.Bool.{cond_both, ltb-false, leb-true, leb-false}
use Rattle.definitions.specs.Refusal.{Verdict, accepted, refused, AtVerdict}
use Rattle.definitions.specs.Lists.{joined}
use Rattle.definitions.specs.Ruleset.{then}
use Rattle.definitions.specs.Deal.{Deal, Sheet, in_deal, body_length, records, settled, Laid, laid_bytes, laid_length, worlds_in, FineSoFar, SheetWrong, unknown_kind, cut_body, one_too_many, no_real, real_no_world}
use Rattle.definitions.proofs.Sheets.{first_of, rest_of, by_length, by_kind}
use Rattle.definitions.proofs.Tallied.{joined_push, Placed, Tallied, TalliedMore, noted_tallied}

pub laid_length_push : (done : List Laid) (l : Laid) → laid_length (done ++ l ∷ []) ≡ laid_length done + 1 + length l.content
laid_length_push done l = ap length (joined_push laid_bytes done l) ∙ length-append (joined laid_bytes done) (laid_bytes l) ∙ omega arith

bytes_push : (done : List Laid) (l : Laid) (rest : List ℕ) → joined laid_bytes done ++ (laid_bytes l ++ rest) ≡ joined laid_bytes (done ++ l ∷ []) ++ rest
bytes_push done l rest = sym (append_assoc (joined laid_bytes done) (laid_bytes l) rest) ∙ ap (λ xs. xs ++ rest) (sym (joined_push laid_bytes done l))

module _ (bs : List ℕ) where
  abbrev pub WrongAt : Verdict Deal → Type 0
  WrongAt v = AtVerdict v (λ d. Unit {0}) (λ r. (p : ℕ) × (r ≡ in_deal 11 p) × SheetWrong bs p)

  settled_wrong : (done : List Laid) (ws : List (ℕ × List ℕ)) (o : Option (ℕ × ℕ)) → bs ≡ joined laid_bytes done → FineSoFar done → joined worlds_in done ≡ ws → Placed done o → WrongAt (settled (length bs) (record { worlds = ws; real = o }))
  settled_wrong done ws None e fine all p = (length bs, refl, no_real done fine e p)
  settled_wrong done ws (Some r) e fine all p =
      cond_both (ltb r.1 (length ws)) (accepted _) (refused _) WrongAt
      (λ b. tt)
      (λ b.
      let far : length (joined worlds_in (p.before ++ p.one ∷ p.after)) ≤ r.1 = omega (arith, ltb-false _ _ b, ap (λ d. length (joined worlds_in d)) p.split, ap length all) in
      let wrong = real_no_world p.before p.one p.after r.1 (subst FineSoFar (sym p.split) fine) (e ∙ ap (joined laid_bytes) (sym p.split)) p.real far in
      (r.0, refl, subst (SheetWrong bs) p.place wrong))

  abbrev Onward : ℕ → List Laid → Type 0
  Onward fuel done = (t : Sheet) (rest : List ℕ) → Tallied done t → bs ≡ joined laid_bytes done ++ rest → length rest ≤ fuel → WrongAt (then (records fuel (laid_length done) t rest) (settled (length bs)))

  -- a first record, if what follows one that is noted is wrong where it is refused
  first_wrong : (fuel : ℕ) (done : List Laid) (s : Sheet) (k : ℕ) (rest : List ℕ) → Tallied done s → bs ≡ joined laid_bytes done ++ k ∷ rest → length rest ≤ fuel → ((l : Laid) → Onward fuel (done ++ l ∷ [])) → WrongAt (then (records (suc fuel) (laid_length done) s (k ∷ rest)) (settled (length bs)))
  first_wrong fuel done s k rest h e low on = from_kind (body_length k) refl
    where
      p : ℕ
      p = laid_length done

      from_note : (n : ℕ) (l : Laid) → p + 1 + n ≡ laid_length (done ++ l ∷ []) → bs ≡ joined laid_bytes done ++ (laid_bytes l ++ drop n rest) → (v : Verdict Sheet) → TalliedMore done l v → WrongAt (then (then v (rest_of fuel p s k rest n)) (settled (length bs)))
      from_note n l to bytes (accepted t) m =
          subst (λ q. WrongAt (then (records fuel q t (drop n rest)) (settled (length bs)))) (sym to)
          (on l t (drop n rest) m (bytes ∙ bytes_push done l (drop n rest)) (omega (arith, length-drop n rest)))
      from_note n l to bytes (refused x) m = (p, m.0, one_too_many done l (drop n rest) h.fine bytes m.1)

      from_length : (n : ℕ) → body_length k ≡ Some n → (b : Bool) → leb n (length rest) ≡ b → WrongAt (then (by_length fuel p s k rest n b) (settled (length bs)))
      from_length n f true g =
          let long = length-take-le n rest (leb-true _ _ g) in
          let l : Laid = record { kind = k; content = take n rest; fits = f ∙ ap Some (sym long) } in
          from_note n l (sym (laid_length_push done l ∙ ap (λ m. p + 1 + m) long)) (e ∙ ap (λ xs. joined laid_bytes done ++ k ∷ xs) (sym (take-append-drop n rest)))
          (first_of fuel p s k rest n) (noted_tallied done s l h)
      from_length n f false g = (p, refl, cut_body done k n rest h.fine e f (leb-false _ _ g))

      from_kind : (o : Option ℕ) → body_length k ≡ o → WrongAt (then (by_kind fuel p s k rest o) (settled (length bs)))
      from_kind None f = (p, refl, unknown_kind done k rest h.fine e f)
      from_kind (Some n) f = from_length n f (leb n (length rest)) refl

  pub refused_wrong : (fuel : ℕ) (done : List Laid) → Onward fuel done
  refused_wrong fuel done s [] h e low = settled_wrong done s.worlds s.real (e ∙ append-nil (joined laid_bytes done)) h.fine h.worlds h.placed
  refused_wrong zero done s (k ∷ rest) h e low = absurd (omega arith)
  refused_wrong (suc fuel) done s (k ∷ rest) h e low = first_wrong fuel done s k rest h e (omega arith) (λ l. refused_wrong fuel (done ++ l ∷ []))
