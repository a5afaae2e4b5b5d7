-- A rule that fires in one set of atoms fires in another that has its bare atoms and no more of its negated ones.
use Rattle.std.proofs.Common.{◌≡◌, ℕ, Bool, true, List, sym, ◌∙◌}
use Rattle.std.proofs.lemmas.Bool.{not-true, not_from_false, false_from_ne_true, both_ways}
use Rattle.std.proofs.lemmas.Bool.Decides.{same_from_decides}
use Rattle.definitions.specs.Form.{Atom, Literal, settled, bare, negated, Rule}
use Rattle.definitions.specs.Lists.{In, here, joined, all, any}
use Rattle.definitions.specs.Level.{named, under_not, body}
use Rattle.definitions.specs.Holds.{Atoms, literal_holds, fires}
use Rattle.definitions.proofs.Listed.{in_joined, joined_in, true_itself, any_true, all_true}

module _ {X : Type 0} (f g : X → Bool) (xs : List X) (h : (x : X) → In x xs → f x ≡ true → g x ≡ true) where
  all_more : all f xs ≡ true → all g xs ≡ true
  all_more e = (all_true g xs).1 (λ x i. h x i ((all_true f xs).0 e x i))

  any_more : any f xs ≡ true → any g xs ≡ true
  any_more e = let one = (any_true f xs).0 e in (any_true g xs).1 (one.0, one.1, h one.0 one.1 one.2)

module _ (S X : Atoms) where
  literal_more : (l : Literal ℕ) → ((a : Atom ℕ) → In a (named l) → S a ≡ true → X a ≡ true) → ((a : Atom ℕ) → In a (under_not l) → X a ≡ true → S a ≡ true) → literal_holds S l ≡ true → literal_holds X l ≡ true
  literal_more (settled b) h k e = e
  literal_more (bare a) h k e = h a here e
  literal_more (negated a) h k e = not_from_false _ (false_from_ne_true (X a) (λ t. both_ways (S a) (not-true _ e) (k a here t)))

  pub fires_more : (r : Rule ℕ) → ((a : Atom ℕ) → In a (joined named (body r)) → S a ≡ true → X a ≡ true) → ((a : Atom ℕ) → In a (joined under_not (body r)) → X a ≡ true → S a ≡ true) → fires S r ≡ true → fires X r ≡ true
  fires_more r h k e =
      all_more _ _ r.parts
      (λ p i. any_more _ _ p λ l j. let m = in_joined (λ q. q) i j in literal_more l (λ a n. h a (in_joined named m n)) (λ a n. k a (in_joined under_not m n))) e

under_not_named : (l : Literal ℕ) {a : Atom ℕ} → In a (under_not l) → In a (named l)
under_not_named (settled b) i = i
under_not_named (bare a) i = elim i [ ]
under_not_named (negated a) i = i

pub negated_in_body : (r : Rule ℕ) {a : Atom ℕ} → In a (joined under_not (body r)) → In a (joined named (body r))
negated_in_body r i = let l = joined_in under_not (body r) i in in_joined named l.1 (under_not_named l.0 l.2)

pub fires_same : (S X : Atoms) (r : Rule ℕ) → ((a : Atom ℕ) → In a (joined named (body r)) → S a ≡ X a) → fires S r ≡ fires X r
fires_same S X r h =
    same_from_decides {P = fires X r ≡ true} _ _ (
      fires_more S X r (λ a i e. sym (h a i) ∙ e) (λ a i e. h a (negated_in_body r i) ∙ e),
      fires_more X S r (λ a i e. h a i ∙ e) (λ a i e. sym (h a (negated_in_body r i)) ∙ e),
    )
    (true_itself _)
