-- What some terms give, put one after the other.
use Rattle.std.proofs.Common.{◌≡◌, List, [], ◌∷◌, ◌++◌, Some, None, Option, sym, refl, ap, ◌∙◌, append_assoc, append-nil}
use Rattle.definitions.specs.Form.{all_of, after, map_some}
use Rattle.definitions.specs.Term.{Term}

-- what all give, after what was there, is what those that are left give, after what is there
abbrev pub Sofar : {X : Type 0} → (Term → Option X) → List Term → List Term → List X → List X → Type 0
Sofar f all rest old new = map_some (λ xs. old ++ xs) (all_of f all) ≡ map_some (λ xs. new ++ xs) (all_of f rest)

one_more : {X : Type 0} (mid new : List X) (o : Option X) (p : Option (List X)) → map_some (λ x. mid ++ x ∷ []) o ≡ Some new → map_some (λ xs. mid ++ xs) (after o (λ y. map_some (λ ys. y ∷ ys) p)) ≡ map_some (λ xs. new ++ xs) p
one_more mid new None p e = cc
one_more mid new (Some x) None e = refl
one_more mid new (Some x) (Some xs) e =
    let grown : mid ++ x ∷ [] ≡ new = cc in
    ap Some (sym (append_assoc mid (x ∷ []) xs) ∙ ap (λ ys. ys ++ xs) grown)

pub sofar_more : {X : Type 0} (f : Term → Option X) (all left rest : List Term) (t : Term) (old mid new : List X) → Sofar f all left old mid → left ≡ t ∷ rest → map_some (λ x. mid ++ x ∷ []) (f t) ≡ Some new → Sofar f all rest old new
sofar_more f all left rest t old mid new sofar is put =
    sofar ∙ ap (λ us. map_some (λ xs. mid ++ xs) (all_of f us)) is ∙ one_more mid new (f t) (all_of f rest) put

pub nothing : {X : Type 0} (old : List X) (o : Option (List X)) → map_some (λ xs. old ++ xs) o ≡ None → o ≡ None
nothing old None e = refl
nothing old (Some xs) e = cc

pub sofar_all : {X : Type 0} (f : Term → Option X) (all left : List Term) (old new : List X) → Sofar f all left old new → left ≡ [] → map_some (λ xs. old ++ xs) (all_of f all) ≡ Some new
sofar_all f all left old new sofar is = sofar ∙ ap (λ us. map_some (λ xs. new ++ xs) (all_of f us)) is ∙ ap Some (append-nil new)
