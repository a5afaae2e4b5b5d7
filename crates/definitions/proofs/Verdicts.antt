-- What an accepted verdict was given for: each step before it was passed.
use Rattle.std.proofs.Common.{◌≡◌, ℕ, Bool, true, false, cond, List, [], ◌∷◌, map, Some, None, Option, refl, subst}
use Rattle.std.proofs.lemmas.Bool.{or_from}
use Rattle.definitions.specs.Refusal.{Refusal, Verdict, accepted, refused}
use Rattle.definitions.specs.Term.{none, ◌&◌, Term, Placed}
use Rattle.definitions.specs.Term as terms
use Rattle.definitions.specs.Reading.{verdict}
use Rattle.definitions.specs.Form.{Form, form}
use Rattle.definitions.specs.Lists.{In, here, any}
use Rattle.definitions.specs.Numbering.{counted}
use Rattle.definitions.specs.Level.{comes_back, looks_ahead}
use Rattle.definitions.specs.Ruleset.{Ruled, in_rules, place_of, one_more, then, forms_verdict, declared, first_place, refused_at, Game, rule_such, game, checked, some_role, game_verdict}

accepted_same : {X : Type 0} {x y : X} → accepted x ≡ accepted y → x ≡ y
accepted_same e = cc

then_accepted : {X Y : Type 0} (v : Verdict X) (f : X → Verdict Y) {y : Y} → then v f ≡ accepted y → (x : X) × (v ≡ accepted x) × (f x ≡ accepted y)
then_accepted (accepted x) f e = (x, refl, e)
then_accepted (refused r) f e = cc

refused_at_accepted : {X : Type 0} (n : ℕ) (o : Option ℕ) (v : Verdict X) {x : X} → refused_at n o v ≡ accepted x → (o ≡ None) × (v ≡ accepted x)
refused_at_accepted n None v e = (refl, e)
refused_at_accepted n (Some p) v e = cc

cond_accepted : {X : Type 0} (b : Bool) (x : X) (r : Refusal) {y : X} → cond b (accepted x) (refused r) ≡ accepted y → (b ≡ true) × (x ≡ y)
cond_accepted true x r e = (refl, accepted_same e)
cond_accepted false x r e = cc

abbrev pub forms_of : List Ruled → List Form
forms_of fs = map (λ r. r.form) fs

one_more_counted : (fs : List Ruled) (p : ℕ) (o : Option Form) {more : List Ruled} → one_more fs p o ≡ accepted more → counted (forms_of more) ≡ true
one_more_counted fs p None e = cc
one_more_counted fs p (Some f) e = let (c, same) = cond_accepted _ _ _ e in subst (λ rs. counted (forms_of rs) ≡ true) same c

forms_counted : (fs : List Ruled) (ts : Placed) {end : List Ruled} → counted (forms_of fs) ≡ true → forms_verdict fs ts ≡ accepted end → counted (forms_of end) ≡ true
forms_counted fs none c e = subst (λ rs. counted (forms_of rs) ≡ true) (accepted_same e) c
forms_counted fs (t & ts) c e =
    let (more, one, rest) = then_accepted (one_more fs (place_of t) (form (terms.bare t))) _ e in
    forms_counted more ts (one_more_counted fs (place_of t) (form (terms.bare t)) one) rest

no_place : (f : Ruled → Bool) (fs : List Ruled) → first_place f fs ≡ None → any f fs ≡ false
no_place f [] e = refl
no_place f (r ∷ rs) e = let (b, rest) = passed (f r) e in or_from (f r) (any f rs) b (no_place f rs rest)
  where
    passed : (b : Bool) → cond b (Some r.place) (first_place f rs) ≡ None → (b ≡ false) × (first_place f rs ≡ None)
    passed true e = cc
    passed false e = (refl, e)

some_role_accepted : (end : ℕ) (fs : List Ruled) {g : Game} → some_role end fs ≡ accepted g → (r : Term) × In r (declared (forms_of fs)) × (checked fs ≡ accepted g)
some_role_accepted end fs {g} e = go (declared (forms_of fs)) e
  where
    go : (ds : List Term) → elim ds [ [] ↦ refused (in_rules 6 end) | r ∷ rs ↦ checked fs ] ≡ accepted g → (r : Term) × In r ds × (checked fs ≡ accepted g)
    go [] e = cc
    go (r ∷ rs) e = (r, here, e)

-- the forms of an accepted text: their counts, a declared role, and no rule that passes one of the two tests
pub record Passed (fs : List Ruled) : Type 0 where
  pub counts : counted (forms_of fs) ≡ true
  pub role : Term
  pub role_declared : In role (declared (forms_of fs))
  pub steady : any (rule_such (game fs).names (comes_back (game fs).rules)) fs ≡ false
  pub early : any (rule_such (game fs).names (looks_ahead (game fs).rules)) fs ≡ false

pub accepted_passed : (text : List ℕ) (g : Game) → game_verdict text ≡ accepted g → (fs : List Ruled) × (game fs ≡ g) × Passed fs
accepted_passed text g e =
    let (ts, read, e₁) = then_accepted (verdict text) _ e in
    let (fs, made, e₂) = then_accepted (forms_verdict [] ts) _ e₁ in
    let (r, known, e₃) = some_role_accepted _ fs e₂ in
    let (declared_all, e₄) = refused_at_accepted 8 _ _ e₃ in
    let (steady, e₅) = refused_at_accepted 9 _ _ e₄ in
    let (early, e₆) = refused_at_accepted 10 _ _ e₅ in
    (fs, accepted_same e₆, record { counts = forms_counted [] ts refl made; role = r; role_declared = known; steady = no_place _ fs steady; early = no_place _ fs early })
