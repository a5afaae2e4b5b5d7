-- Tests that decide whether two things are equal, or have equal keys.
use Rattle.std.proofs.Common.{◌≡◌, ℕ, Bool, false, Decides, sym, refl, ◌∙◌, arith}
use Rattle.std.proofs.lemmas.Bool.{false≢true}
use Rattle.definitions.specs.Lists.{Same}

pub decides_never : {P : Type 0} → (P → ◌≡◌ {A = ℕ} 0 1) → Decides false P
decides_never f = ((λ e. absurd (false≢true e)), λ p. let z = f p in absurd (omega arith))

pub same_by_key : {X K : Type 0} (key : X → K) (same : X → X → Bool) → ((x y : X) → Decides (same x y) (key x ≡ key y)) → Same same
same_by_key key same h = record {
  itself = λ x. (h x x).1 refl;
  turned = λ x y e. (h y x).1 (sym ((h x y).0 e));
  onward = λ x y z e f. (h x z).1 ((h x y).0 e ∙ (h y z).0 f);
}
