-- Whether two atoms are the same, and whether a list has an atom.
use Rattle.std.proofs.Common.{◌≡◌, ℕ, List, [], ◌∷◌, get_or, Decides, sym, refl, ap, ◌∙◌}
use Rattle.std.proofs.lemmas.Bool.{false≢true}
use Rattle.std.proofs.lemmas.Bool.Decides.{Decides-like, Decides-and, Decides-or, Decides-eqb}
use Rattle.definitions.specs.Form.{Atom}
use Rattle.definitions.specs.Lists.{In}
use Rattle.definitions.specs.Level.{shape, same_atom, member}
use Rattle.definitions.proofs.Listed.{in_either, either_in}

-- the atom that three numbers stand for
abbrev back : ℕ → ℕ → ℕ → Atom ℕ
back k x y = get_or (Atom.role x ∷ Atom.true_now x ∷ Atom.does x y ∷ Atom.knows x y ∷ Atom.common x ∷ Atom.legal x y ∷ Atom.goal x y ∷ Atom.terminal ∷ Atom.fact x ∷ Atom.next x ∷ Atom.sees x y ∷ []) k Atom.terminal

back_shape : (a : Atom ℕ) → back (shape a).0 (shape a).1 (shape a).2 ≡ a
back_shape (Atom.role r) = refl
back_shape (Atom.true_now f) = refl
back_shape (Atom.does r m) = refl
back_shape (Atom.knows r p) = refl
back_shape (Atom.common p) = refl
back_shape (Atom.legal r m) = refl
back_shape (Atom.goal r v) = refl
back_shape Atom.terminal = refl
back_shape (Atom.fact p) = refl
back_shape (Atom.next f) = refl
back_shape (Atom.sees r e) = refl

pub same_atom_decides : (a b : Atom ℕ) → Decides (same_atom a b) (a ≡ b)
same_atom_decides a b = Decides-like _ equal (λ e. ((ap (λ c. (shape c).0) e, ap (λ c. (shape c).1) e), ap (λ c. (shape c).2) e)) parts
  where
    Parts : Type 0
    Parts = (((shape a).0 ≡ (shape b).0) × ((shape a).1 ≡ (shape b).1)) × ((shape a).2 ≡ (shape b).2)

    parts : Decides (same_atom a b) Parts
    parts = Decides-and _ _ (Decides-and _ _ (Decides-eqb (shape a).0 (shape b).0) (Decides-eqb (shape a).1 (shape b).1)) (Decides-eqb (shape a).2 (shape b).2)

    equal : Parts → a ≡ b
    equal p = sym (back_shape a) ∙ (rw (p.0.0, p.0.1, p.1) (back_shape b))

pub member_decides : (xs : List (Atom ℕ)) (a : Atom ℕ) → Decides (member xs a) (In a xs)
member_decides [] a = (λ e. absurd (false≢true e), λ i. elim i [ ])
member_decides (b ∷ bs) a = Decides-like _ in_either either_in (Decides-or _ _ (same_atom_decides b a) (member_decides bs a))
