-- What a sheet is after records with which nothing is wrong, and after one record more.
use Rattle.std.proofs.Common.{◌≡◌, ℕ, ◌+◌, ◌<◌, ltb, List, [], ◌∷◌, ◌++◌, length, Some, None, Option, sym, refl, ap, ◌∙◌, arith}
use Rattle.std.proofs.lemmas.List.{flat_map_more, append-nil, append_assoc, length-append, length_push}
use Rattle.std.proofs.lemmas.List.Concat.{flat_map-append}
use Rattle.std.proofs.lemmas.Bool.{cond_both, ltb-true, ltb-false}
use Rattle.definitions.specs.Refusal.{Verdict, accepted, refused, AtVerdict}
use Rattle.definitions.specs.Lists.{joined}
use Rattle.definitions.specs.Deal.{Record, Sheet, in_deal, record_of, noted, Laid, laid_length, worlds_in, reals_in, FineSoFar}
use Rattle.definitions.proofs.Noted.{worlds_of, reals_of}

pub joined_push : {X Y : Type 0} (f : X → List Y) (xs : List X) (x : X) → joined f (xs ++ x ∷ []) ≡ joined f xs ++ f x
joined_push f xs x = sym (flat_map_more f [] xs x)

-- the real world w has its record at place q
pub record RealAt (done : List Laid) (q w : ℕ) : Type 0 where
  pub before : List Laid
  pub one : Laid
  pub after : List Laid
  pub split : before ++ one ∷ after ≡ done
  pub place : laid_length before ≡ q
  pub real : reals_in one ≡ w ∷ []

abbrev pub Placed : List Laid → Option (ℕ × ℕ) → Type 0
Placed done o = elim o [ None ↦ joined reals_in done ≡ [] | Some r ↦ RealAt done r.0 r.1 ]

pub record Tallied (done : List Laid) (s : Sheet) : Type 0 where
  pub fine : FineSoFar done
  pub worlds : joined worlds_in done ≡ s.worlds
  pub placed : Placed done s.real

pub reals_split : (before : List Laid) (l : Laid) (after : List Laid) (w : ℕ) → reals_in l ≡ w ∷ [] → length (joined reals_in (before ++ l ∷ after)) ≡ length (joined reals_in before) + 1 + length (joined reals_in after)
reals_split before l after w e =
    ap length (flat_map-append reals_in before (l ∷ after))
    ∙ length-append (joined reals_in before) (reals_in l ++ joined reals_in after)
    ∙ ap (λ xs. length (joined reals_in before) + length (xs ++ joined reals_in after)) e
    ∙ omega arith

pub real_counted : {done : List Laid} {q w : ℕ} → RealAt done q w → 0 < length (joined reals_in done)
real_counted h = omega (arith, reals_split h.before h.one h.after _ h.real, ap (λ d. length (joined reals_in d)) h.split)

placed_more : (done : List Laid) (l : Laid) (o : Option (ℕ × ℕ)) → reals_in l ≡ [] → Placed done o → Placed (done ++ l ∷ []) o
placed_more done l None e h = joined_push reals_in done l ∙ ap (λ xs. xs ++ reals_in l) h ∙ e
placed_more done l (Some r) e h = record {
  before = h.before;
  one = h.one;
  after = h.after ++ l ∷ [];
  split = sym (append_assoc h.before (h.one ∷ h.after) (l ∷ [])) ∙ ap (λ d. d ++ l ∷ []) h.split;
  place = h.place;
  real = h.real;
}

-- the record is on the sheet, or it is one too many
abbrev pub TalliedMore : List Laid → Laid → Verdict Sheet → Type 0
TalliedMore done l v = AtVerdict v (Tallied (done ++ l ∷ [])) (λ r. (r ≡ in_deal 11 (laid_length done)) × (FineSoFar (done ++ l ∷ []) → ⊥))

pub noted_tallied : (done : List Laid) (s : Sheet) (l : Laid) → Tallied done s → TalliedMore done l (noted (laid_length done) s (record_of l.kind l.content))
noted_tallied done s l h = go (record_of l.kind l.content) refl refl
  where
    real_more : (w : ℕ) (ws : List (ℕ × List ℕ)) (o : Option (ℕ × ℕ)) → joined worlds_in done ≡ ws → Placed done o → worlds_in l ≡ [] → reals_in l ≡ w ∷ [] → TalliedMore done l (noted (laid_length done) (record { worlds = ws; real = o }) (Record.real w))
    real_more w ws None all p ew er =
        let worlds : joined worlds_in (done ++ l ∷ []) ≡ joined worlds_in done = joined_push worlds_in done l ∙ ap (λ xs. joined worlds_in done ++ xs) ew ∙ append-nil (joined worlds_in done) in
        record {
          fine = record { few = omega (arith, h.fine.few, ap length worlds); one = omega (arith, reals_split done l [] w er, ap length p) };
          worlds = worlds ∙ all;
          placed = record { before = done; one = l; after = []; split = refl; place = refl; real = er };
        }
    real_more w ws (Some r) all p ew er = (refl, λ fine. omega (arith, fine.one, reals_split done l [] w er, real_counted p))

    go : (r : Record) → worlds_in l ≡ worlds_of r → reals_in l ≡ reals_of r → TalliedMore done l (noted (laid_length done) s r)
    go (Record.world st cs) ew er =
        let worlds : joined worlds_in (done ++ l ∷ []) ≡ s.worlds ++ (st, cs) ∷ [] = joined_push worlds_in done l ∙ (λ i. h.worlds i ++ ew i) in
        let reals : joined reals_in (done ++ l ∷ []) ≡ joined reals_in done = joined_push reals_in done l ∙ ap (λ xs. joined reals_in done ++ xs) er ∙ append-nil (joined reals_in done) in
        let long = length_push s.worlds (st, cs) in
        cond_both (ltb (length s.worlds) 64) (accepted _) (refused _) (TalliedMore done l)
        (λ b. record {
          fine = record { few = omega (arith, ltb-true _ _ b, ap length worlds, long); one = omega (arith, h.fine.one, ap length reals) };
          worlds = worlds;
          placed = placed_more done l s.real er h.placed;
        })
        (λ b. (refl, λ fine. omega (arith, ltb-false _ _ b, fine.few, ap length worlds, long)))
    go (Record.real w) ew er = real_more w s.worlds s.real h.worlds h.placed ew er
