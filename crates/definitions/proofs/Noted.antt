-- A record is noted on a sheet exactly if the sheet has room for it.
use Rattle.std.proofs.Common.{◌≡◌, ℕ, ◌≤◌, ltb, List, [], ◌∷◌, ◌++◌, length, Some, None, Option, sym, refl, ap, ◌∙◌, subst, arith}
use Rattle.std.proofs.lemmas.List.{append-nil, append_assoc, length-append, length_push}
use Rattle.std.proofs.lemmas.Bool.{cond_both, ltb-true, ltb-false}
use Rattle.definitions.specs.Refusal.{Verdict, accepted, refused, AtVerdict}
use Rattle.definitions.specs.Deal.{Record, Sheet, noted}

abbrev pub worlds_of : Record → List (ℕ × List ℕ)
worlds_of r = elim r [ Record.world st cs ↦ (st, cs) ∷ [] | Record.real w ↦ [] ]

abbrev pub reals_of : Record → List ℕ
reals_of r = elim r [ Record.world st cs ↦ [] | Record.real w ↦ w ∷ [] ]

-- the real world of a sheet without its place
abbrev pub reals : Sheet → List ℕ
reals s = elim s.real [ None ↦ [] | Some r ↦ r.1 ∷ [] ]

-- t is s with these worlds and real worlds more
pub record Grown (s : Sheet) (ws : List (ℕ × List ℕ)) (rs : List ℕ) (t : Sheet) : Type 0 where
  pub worlds : s.worlds ++ ws ≡ t.worlds
  pub real : reals s ++ rs ≡ reals t
  pub few : length s.worlds ≤ 64 → length t.worlds ≤ 64

pub grown_none : (s : Sheet) → Grown s [] [] s
grown_none s = record { worlds = append-nil s.worlds; real = append-nil (reals s); few = λ h. h }

pub grown_more : {s t u : Sheet} {ws vs : List (ℕ × List ℕ)} {rs qs : List ℕ} → Grown s ws rs t → Grown t vs qs u → Grown s (ws ++ vs) (rs ++ qs) u
grown_more {s} {t} {u} {ws} {vs} {rs} {qs} h k = record {
  worlds = sym (append_assoc s.worlds ws vs) ∙ ap (λ l. l ++ vs) h.worlds ∙ k.worlds;
  real = sym (append_assoc (reals s) rs qs) ∙ ap (λ l. l ++ qs) h.real ∙ k.real;
  few = λ f. k.few (h.few f);
}

-- the sheet has room for so many more
pub record Room (s : Sheet) (ws : List (ℕ × List ℕ)) (rs : List ℕ) : Type 0 where
  pub worlds : length (s.worlds ++ ws) ≤ 64
  pub real : length (reals s ++ rs) ≤ 1

pub room_first : (s : Sheet) (ws vs : List (ℕ × List ℕ)) (rs qs : List ℕ) → Room s (ws ++ vs) (rs ++ qs) → Room s ws rs
room_first s ws vs rs qs h = record {
  worlds = omega (arith, simp length-append at h.worlds, length-append s.worlds ws);
  real = omega (arith, simp length-append at h.real, length-append (reals s) rs);
}

pub room_rest : {s t : Sheet} {ws : List (ℕ × List ℕ)} {rs : List ℕ} (vs : List (ℕ × List ℕ)) (qs : List ℕ) → Grown s ws rs t → Room s (ws ++ vs) (rs ++ qs) → Room t vs qs
room_rest {s} {t} {ws} {rs} vs qs g h = record {
  worlds = rw (← g.worlds, append_assoc) h.worlds;
  real = rw (← g.real, append_assoc) h.real;
}

-- the record is on the sheet, or there was no room for it
abbrev Judged : Sheet → Record → Verdict Sheet → Type 0
Judged s r v = AtVerdict v (Grown s (worlds_of r) (reals_of r)) (λ x. Room s (worlds_of r) (reals_of r) → ⊥)

noted_judged : (p : ℕ) (s : Sheet) (r : Record) → Judged s r (noted p s r)
noted_judged p s (Record.world st cs) =
    let more = length_push s.worlds (st, cs) in
    cond_both (ltb (length s.worlds) 64) (accepted _) (refused _) (Judged s (Record.world st cs))
    (λ e. record { worlds = refl; real = append-nil (reals s); few = λ f. omega (arith, more, ltb-true _ _ e) })
    (λ e h. omega (arith, more, ltb-false _ _ e, h.worlds))
noted_judged p s (Record.real w) = go s.worlds s.real
  where
    go : (ws : List (ℕ × List ℕ)) (o : Option (ℕ × ℕ)) → let t : Sheet = record { worlds = ws; real = o } in Judged t (Record.real w) (noted p t (Record.real w))
    go ws None = record { worlds = append-nil ws; real = refl; few = λ f. f }
    go ws (Some r) = λ h. omega (arith, h.real)

pub noted_grows : (p : ℕ) (s : Sheet) (r : Record) (t : Sheet) → noted p s r ≡ accepted t → Grown s (worlds_of r) (reals_of r) t
noted_grows p s r t e = subst (Judged s r) e (noted_judged p s r)

pub noted_accepts : (p : ℕ) (s : Sheet) (r : Record) → Room s (worlds_of r) (reals_of r) → (t : Sheet) × (noted p s r ≡ accepted t)
noted_accepts p s r h = go (noted p s r) refl (noted_judged p s r)
  where
    go : (v : Verdict Sheet) → noted p s r ≡ v → Judged s r v → (t : Sheet) × (noted p s r ≡ accepted t)
    go (accepted t) e k = (t, e)
    go (refused x) e k = absurd (k h)
