-- The terms that are left, one by one.
use Rattle.std.proofs.Common.{◌≡◌, ◌∷◌, map, refl, ap}
use Rattle.definitions.specs.Form.{list}
use Rattle.definitions.specs.Term.{Placed, none, ◌&◌, bare, bares}
use Rattle.text.specs.Terms.{listed}

pub listed_bare : (ts : Placed) → map bare (listed ts) ≡ list (bares ts)
listed_bare none = refl
listed_bare (t & ts) = ap (λ us. bare t ∷ us) (listed_bare ts)
