-- Where a joint move stands among others, and a play among the plays that follow some.
use Rattle.std.proofs.Common.{◌≡◌, ℕ, zero, suc, ◌+◌, ◌<◌, List, [], ◌∷◌, ◌++◌, length, get_or, take, refl, ◌∙◌, arith}
use Rattle.std.proofs.lemmas.List.{length-append, get_or_append_left, get_or-append-add}
use Rattle.definitions.specs.Form.{Atom, same_word}
use Rattle.definitions.specs.Lists.{In, joined}
use Rattle.definitions.specs.Ruleset.{Game}
use Rattle.definitions.specs.Play.{Play, nth, each_with}
use Rattle.definitions.specs.Match.{Table, position_of}
use Rattle.definitions.proofs.Elements.{in_any}
use Rattle.definitions.proofs.Firsts.{like_place}
use Rattle.definitions.proofs.Spelled.{same_word_decides}

-- the place i of a list holds x
pub record HoldsAt {X : Type 0} (xs : List X) (i : ℕ) (x : X) : Type 0 where
  pub below : i < length xs
  pub is : (d : X) → get_or xs i d ≡ x

pub position_at : (t : Table) (ks : List (List ℕ)) (js : List ℕ) → In js ks → HoldsAt ks (position_of t ks js) js
position_at t ks js i =
    let r = like_place same_word ks js (in_any (λ k. same_word k js) i ((same_word_decides js js).1 refl)) in
    record { below = r.0; is = λ d. (same_word_decides _ js).0 (r.1 d) }

-- the plays that follow those before the place i come first, and then those that follow the play at i
module _ (g : Game) (f : Play → List (Atom ℕ) → List Play) where
  abbrev follow : List Play → List (List (Atom ℕ)) → List Play
  follow ps Ks = joined (λ qs. qs) (each_with g f ps Ks)

  pub follow_at : (ps : List Play) (Ks : List (List (Atom ℕ))) (i k : ℕ) (q : Play) → i < length ps → i < length Ks → HoldsAt (f (nth ps i) (get_or Ks i [])) k q → HoldsAt (follow ps Ks) (length (follow (take i ps) Ks) + k) q
  follow_at [] Ks i k q low few h = absurd (omega arith)
  follow_at (p ∷ ps) [] i k q low few h = absurd (omega arith)
  follow_at (p ∷ ps) (K ∷ Ks) zero k q low few h =
      let long = length-append (f p K) (follow ps Ks) in
      let e : 0 + k ≡ k = omega arith in
      rw e (record { below = omega (arith, h.below); is = λ d. get_or_append_left (f p K) (follow ps Ks) d k h.below ∙ h.is d })
  follow_at (p ∷ ps) (K ∷ Ks) (suc i) k q low few h =
      let r = follow_at ps Ks i k q (omega arith) (omega arith) h in
      let n = length (follow (take i ps) Ks) in
      let long = length-append (f p K) (follow ps Ks) in
      let e : length (f p K ++ follow (take i ps) Ks) + k ≡ length (f p K) + (n + k) = omega (arith, length-append (f p K) (follow (take i ps) Ks)) in
      rw e (record { below = omega (arith, r.below); is = λ d. get_or-append-add (f p K) (follow ps Ks) (n + k) d ∙ r.is d })
