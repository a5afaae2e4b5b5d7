-- What the parts are once one more alternative is there.
use Rattle.std.proofs.Common.{◌≡◌, List, [], ◌∷◌, ◌++◌, Some, None, Option, sym, refl, ap, ◌∙◌, append_assoc, append-nil}
use Rattle.definitions.specs.Form.{all_of, after, map_some}
use Rattle.definitions.specs.Term.{Term}
use Rattle.text.specs.declared.term.Term as terms
use Rattle.forms.specs.declared.body.Alternative.{Alternative}
use Rattle.forms.specs.declared.literal.Literal.{Literal}
use Rattle.forms.specs.Bodies.{others, parts, joined}
use Rattle.forms.specs.Literals.{literal_view}

joined_front : {X : Type 0} (x y : X) (p q : List X) (ps qs : List (List X)) → q ∷ qs ≡ joined (p ∷ ps) y → (x ∷ q) ∷ qs ≡ joined ((x ∷ p) ∷ ps) y
joined_front x y p q [] qs e = cc
joined_front x y p q (r ∷ ps) qs e = cc

others_first : (xs : List Alternative) (l : Literal terms.Term) → others (xs ++ Alternative.First l ∷ []) ≡ others xs
others_first [] l = refl
others_first (Alternative.First k ∷ xs) l = refl
others_first (Alternative.Another k ∷ xs) l = ap (λ ls. literal_view k ∷ ls) (others_first xs l)

pub parts_first : (xs : List Alternative) (l : Literal terms.Term) → parts (xs ++ Alternative.First l ∷ []) ≡ parts xs ++ (literal_view l ∷ []) ∷ []
parts_first [] l = refl
parts_first (Alternative.First k ∷ xs) l = ap (λ ls. (literal_view k ∷ ls) ∷ parts (xs ++ Alternative.First l ∷ [])) (others_first xs l) ∙ ap (λ ps. (literal_view k ∷ others xs) ∷ ps) (parts_first xs l)
parts_first (Alternative.Another k ∷ xs) l = parts_first xs l

others_another : (xs : List Alternative) (l : Literal terms.Term) → others (xs ++ Alternative.Another l ∷ []) ∷ parts (xs ++ Alternative.Another l ∷ []) ≡ joined (others xs ∷ parts xs) (literal_view l)
others_another [] l = refl
others_another (Alternative.First k ∷ xs) l = ap (λ ps. [] ∷ ps) (joined_front (literal_view k) _ _ _ _ _ (others_another xs l))
others_another (Alternative.Another k ∷ xs) l = joined_front (literal_view k) _ _ _ _ _ (others_another xs l)

pub parts_another : (xs : List Alternative) (l : Literal terms.Term) → parts (xs ++ Alternative.Another l ∷ []) ≡ joined (parts xs) (literal_view l)
parts_another [] l = refl
parts_another (Alternative.First k ∷ xs) l = joined_front (literal_view k) _ _ _ _ _ (others_another xs l)
parts_another (Alternative.Another k ∷ xs) l = parts_another xs l

-- the last part with all of some more
abbrev pub lengthened : {X : Type 0} → List (List X) → List X → List (List X)
lengthened ps [] = ps
lengthened ps (x ∷ xs) = lengthened (joined ps x) xs

joined_last : {X : Type 0} (ps : List (List X)) (p : List X) (x : X) → joined (ps ++ p ∷ []) x ≡ ps ++ (p ++ x ∷ []) ∷ []
joined_last [] p x = refl
joined_last (q ∷ []) p x = refl
joined_last (q ∷ r ∷ ps) p x = ap (λ qs. q ∷ qs) (joined_last (r ∷ ps) p x)

lengthened_last : {X : Type 0} (ps : List (List X)) (p xs : List X) → lengthened (ps ++ p ∷ []) xs ≡ ps ++ (p ++ xs) ∷ []
lengthened_last ps p [] = ap (λ q. ps ++ q ∷ []) (sym (append-nil p))
lengthened_last ps p (x ∷ xs) = ap (λ qs. lengthened qs xs) (joined_last ps p x) ∙ lengthened_last ps (p ++ x ∷ []) xs ∙ ap (λ q. ps ++ q ∷ []) (append_assoc p (x ∷ []) xs)

-- the whole as a part after the old ones is what those that are left give, joined to the last of the new ones
abbrev pub Joining : {X : Type 0} → (Term → Option X) → Option (List X) → List Term → List (List X) → List (List X) → Type 0
Joining f whole rest old new = map_some (λ xs. old ++ xs ∷ []) whole ≡ map_some (lengthened new) (all_of f rest)

pub joining_first : {X : Type 0} (f : Term → Option X) (whole : Option (List X)) (rest : List Term) (t : Term) (old new : List (List X)) → whole ≡ all_of f (t ∷ rest) → map_some (λ xs. old ++ xs ∷ []) (map_some (λ x. x ∷ []) (f t)) ≡ Some new → Joining f whole rest old new
joining_first {X = X} f whole rest t old new is put = ap (map_some (λ xs. old ++ xs ∷ [])) is ∙ go (f t) (all_of f rest) put
  where
    go : (o : Option X) (q : Option (List X)) → map_some (λ xs. old ++ xs ∷ []) (map_some (λ x. x ∷ []) o) ≡ Some new → map_some (λ xs. old ++ xs ∷ []) (after o (λ y. map_some (λ ys. y ∷ ys) q)) ≡ map_some (lengthened new) q
    go None q e = cc
    go (Some y) None e = refl
    go (Some y) (Some ys) e =
        let begun : old ++ (y ∷ []) ∷ [] ≡ new = cc in
        ap Some (sym (lengthened_last old (y ∷ []) ys) ∙ ap (λ ps. lengthened ps ys) begun)

pub joining_more : {X : Type 0} (f : Term → Option X) (whole : Option (List X)) (left rest : List Term) (t : Term) (old mid new : List (List X)) → Joining f whole left old mid → left ≡ t ∷ rest → map_some (joined mid) (f t) ≡ Some new → Joining f whole rest old new
joining_more {X = X} f whole left rest t old mid new sofar is put = sofar ∙ ap (λ us. map_some (lengthened mid) (all_of f us)) is ∙ go (f t) (all_of f rest) put
  where
    go : (o : Option X) (q : Option (List X)) → map_some (joined mid) o ≡ Some new → map_some (lengthened mid) (after o (λ y. map_some (λ ys. y ∷ ys) q)) ≡ map_some (lengthened new) q
    go None q e = cc
    go (Some y) None e = refl
    go (Some y) (Some ys) e = let longer : joined mid y ≡ new = cc in ap (λ ps. Some (lengthened ps ys)) longer
