-- The rules of an accepted game look only at the bits of their own features in a state.
use Rattle.std.proofs.Common.{◌≡◌, ℕ, suc, ◌/◌, ◌%◌, ◌^◌, ◌<◌, true, eqb, List, length, Option, sym, refl, ap, ◌∙◌, subst, arith}
use Rattle.std.specs.Int.{bit_at}
use Rattle.std.proofs.lemmas.Nat.{shr_split}
use Rattle.std.proofs.lemmas.Nat.Bits.{bit_at_cat_low}
use Rattle.definitions.specs.Refusal.{accepted}
use Rattle.definitions.specs.Term.{Term}
use Rattle.definitions.specs.Form.{Atom, Rule}
use Rattle.definitions.specs.Lists.{In, here, joined}
use Rattle.definitions.specs.Level.{shape, named, body, level, highest}
use Rattle.definitions.specs.Numbering.{a_feature, in_atom, mentions, features_in, Tables, number, numbered_atom}
use Rattle.definitions.specs.Holds.{bit, given, holds}
use Rattle.definitions.specs.Ruleset.{Ruled, Game, game, game_verdict}
use Rattle.definitions.proofs.Listed.{in_joined}
use Rattle.definitions.proofs.Local.{climb_same_in}
use Rattle.definitions.proofs.Agreed.{position_with}
use Rattle.definitions.proofs.Mentioned.{atom_spoken}
use Rattle.definitions.proofs.Numbers.{mentioned_once}
use Rattle.definitions.proofs.Verdicts.{forms_of, accepted_passed}

numbered_feature : (t : Tables) (b : Atom Term) {f : ℕ} → numbered_atom t b ≡ Atom.true_now f → (s : Term) × In (a_feature s) (in_atom b) × (number t.features s ≡ f)
numbered_feature t (Atom.role s) e = absurd (omega (arith, ap (λ a. (shape a).0) e))
numbered_feature t (Atom.true_now f) e = (f, here, ap (λ a. (shape a).1) e)
numbered_feature t (Atom.does s m) e = absurd (omega (arith, ap (λ a. (shape a).0) e))
numbered_feature t (Atom.knows s q) e = absurd (omega (arith, ap (λ a. (shape a).0) e))
numbered_feature t (Atom.common q) e = absurd (omega (arith, ap (λ a. (shape a).0) e))
numbered_feature t (Atom.legal s m) e = absurd (omega (arith, ap (λ a. (shape a).0) e))
numbered_feature t (Atom.goal s v) e = absurd (omega (arith, ap (λ a. (shape a).0) e))
numbered_feature t Atom.terminal e = absurd (omega (arith, ap (λ a. (shape a).0) e))
numbered_feature t (Atom.fact q) e = absurd (omega (arith, ap (λ a. (shape a).0) e))
numbered_feature t (Atom.next f) e = absurd (omega (arith, ap (λ a. (shape a).0) e))
numbered_feature t (Atom.sees s x) e = absurd (omega (arith, ap (λ a. (shape a).0) e))

-- the rules name features that the game has
abbrev pub FeaturesWithin : Game → Type 0
FeaturesWithin g = (x : Rule ℕ) → In x g.rules → (f : ℕ) → In (Atom.true_now f) (joined named (body x)) → f < length g.names.features

feature_below : (fs : List Ruled) → FeaturesWithin (game fs)
feature_below fs x x_in f i =
    let (b, same, within) = atom_spoken fs x x_in i in
    let (s, s_in, is) = numbered_feature (game fs).names b same in
    subst (λ n. n < length (game fs).names.features) is (mentioned_once (joined features_in (mentions (forms_of fs))) s (in_joined features_in (within _ s_in) here)).0

pub accepted_features : (text : List ℕ) (g : Game) → game_verdict text ≡ accepted g → FeaturesWithin g
accepted_features text g e = let (fs, same, p) = accepted_passed text g e in subst FeaturesWithin same (feature_below fs)

-- the bits below n are those of the remainder
low_bit : (s f n : ℕ) → f < n → bit f (s % 2 ^ n) ≡ bit f s
low_bit s f n low = ap (λ m. eqb m 1) (sym (bit_at_cat_low (s / 2 ^ n) n (s % 2 ^ n) f low) ∙ ap (λ m. bit_at m f) (shr_split s n))

module _ (g : Game) (within : FeaturesWithin g) (s : ℕ) (moves : Option (List ℕ)) (known : List (Atom ℕ)) where
  abbrev short : ℕ
  short = s % 2 ^ length g.names.features

  given_short : (a : Atom ℕ) → ((f : ℕ) → a ≡ Atom.true_now f → f < length g.names.features) → given (position_with short moves known) a ≡ given (position_with s moves known) a
  given_short (Atom.role r) h = refl
  given_short (Atom.true_now f) h = low_bit s f _ (h f refl)
  given_short (Atom.does r m) h = refl
  given_short (Atom.knows r f) h = refl
  given_short (Atom.common f) h = refl
  given_short (Atom.legal r m) h = refl
  given_short (Atom.goal r v) h = refl
  given_short Atom.terminal h = refl
  given_short (Atom.fact f) h = refl
  given_short (Atom.next f) h = refl
  given_short (Atom.sees r e) h = refl

  -- a fact does not turn on the bits beyond the features
  pub holds_short : (p : ℕ) → holds g.rules (position_with short moves known) (Atom.fact p) ≡ holds g.rules (position_with s moves known) (Atom.fact p)
  holds_short p = climb_same_in (level g.rules) g.rules (given (position_with short moves known)) (given (position_with s moves known)) (λ a. true) (λ r i e a j. (refl, given_short a λ f is. within r i f (subst (λ b. In b (joined named (body r))) is j))) (suc (highest g.rules)) (Atom.fact p) refl
