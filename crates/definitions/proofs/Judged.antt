-- What is judged of rules by dependence.
use Rattle.std.proofs.Common.{◌≡◌, ℕ, Bool, true, List, Decides}
use Rattle.std.proofs.lemmas.Bool.Decides.{Decides-like, Decides-and, Decides-or}
use Rattle.definitions.specs.Form.{Atom, Rule}
use Rattle.definitions.specs.Lists.{any}
use Rattle.definitions.specs.Level.{uses, strict_uses, Depends, below, same_atom, reaches, is_knows, is_does, before_moves, ComingBackDecided, RestingDecided, LookingAheadDecided}
use Rattle.definitions.proofs.Atoms.{same_atom_decides}
use Rattle.definitions.proofs.Listed.{any_decides, true_itself, any_true}
use Rattle.definitions.proofs.Reach.{reaches_decides, depends_below, below_depends}

pub coming_back_decided : ComingBackDecided
coming_back_decided rules r =
    any_decides _ _ (λ a. Decides-or (same_atom a r.head) (reaches rules a r.head) (same_atom_decides a r.head) (reaches_decides rules a r.head)) (strict_uses r)

-- some atom that an atom depends on passes a test
some_below : (rules : List (Rule ℕ)) (a : Atom ℕ) (f : Atom ℕ → Bool) → Decides (any f (below rules a)) ((b : Atom ℕ) × Depends rules a b × (f b ≡ true))
some_below rules a f =
    Decides-like _ (λ (b, i, t). (b, below_depends rules a b i, t)) (λ (b, d, t). (b, depends_below rules d, t))
    (any_true f (below rules a))

pub resting_decided : RestingDecided
resting_decided rules p = some_below rules (Atom.fact p) is_knows

pub looking_ahead_decided : LookingAheadDecided
looking_ahead_decided rules r =
    Decides-and (before_moves rules r.head) _ (true_itself (before_moves rules r.head))
    (any_decides _ _ (λ a. Decides-or (is_does a) _ (true_itself (is_does a)) (some_below rules a is_does)) (uses r))
