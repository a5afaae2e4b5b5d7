-- Positions that agree on knowledge of a game's roles and facts, up to a level, have the same atoms up to that level.
use Rattle.std.proofs.Common.{◌≡◌, ℕ, suc, ◌<◌, ◌≤◌, Bool, false, ◌||◌, leb, List, length, Option, refl, ap₂, arith}
use Rattle.std.proofs.lemmas.Bool.{both_ways, leb-true, le-leb}
use Rattle.definitions.specs.Form.{Atom}
use Rattle.definitions.specs.Lists.{In, here, joined}
use Rattle.definitions.specs.Level.{member, named, body, about, is_knows, level, highest}
use Rattle.definitions.specs.Holds.{Position, given, holds}
use Rattle.definitions.specs.Ruleset.{Game, roles, SoundGame}
use Rattle.definitions.proofs.Listed.{in_left, in_right, in_joined}
use Rattle.definitions.proofs.Local.{RestsIn, climb_same_in, given_same}

-- two knowledge sets have the same knows atoms of roles of the game and its facts of levels below k
pub record Agree (g : Game) (k : ℕ) (xs ys : List (Atom ℕ)) : Type 0 where
  pub own : (r f : ℕ) → r < roles g → f < length g.names.facts → level g.rules (Atom.fact f) < k → member xs (Atom.knows r f) ≡ member ys (Atom.knows r f)
  pub shared : (f : ℕ) → f < length g.names.facts → level g.rules (Atom.fact f) < k → member xs (Atom.common f) ≡ member ys (Atom.common f)

pub agree_none : (g : Game) (xs ys : List (Atom ℕ)) → Agree g 0 xs ys
agree_none g xs ys = record { own = λ r f few small below. absurd (omega arith); shared = λ f small below. absurd (omega arith) }

abbrev pub position_with : ℕ → Option (List ℕ) → List (Atom ℕ) → Position
position_with s ms xs = record { state = s; moves = ms; knowledge = xs }

module _ (g : Game) (sound : SoundGame g) (k s : ℕ) (ms : Option (List ℕ)) (xs ys : List (Atom ℕ)) (agree : Agree g k xs ys) where
  abbrev low : Atom ℕ → Bool
  low a = leb (level g.rules a) k

  abbrev same_given : (a : Atom ℕ) → ((r f : ℕ) → a ≡ Atom.knows r f → member xs (Atom.knows r f) ≡ member ys (Atom.knows r f)) → ((f : ℕ) → a ≡ Atom.common f → member xs (Atom.common f) ≡ member ys (Atom.common f)) → given (position_with s ms xs) a ≡ given (position_with s ms ys) a
  same_given = given_same (position_with s ms xs) (position_with s ms ys) refl refl

  -- rules for atoms up to level k name only knowledge on which the two agree
  rests : RestsIn g.rules (given (position_with s ms xs)) (given (position_with s ms ys)) low
  rests x i into a j = (le-leb _ _ (omega (arith, top, (sound.levels x i).0 a (in_left _ j))), same_given a knows common)
    where
      top : level g.rules x.head ≤ k
      top = leb-true (level g.rules x.head) k into

      below : (f : ℕ) → In (Atom.fact f) (joined about (joined named (body x))) → level g.rules (Atom.fact f) < k
      below f m = omega (arith, top, (sound.levels x i).1 (Atom.fact f) (in_right _ m))

      knows : (r f : ℕ) → a ≡ Atom.knows r f → member xs (Atom.knows r f) ≡ member ys (Atom.knows r f)
      knows r f e =
          let n = rw e at j in
          let m = in_joined about n here in
          agree.own r f (sound.knowers x i r f n) (sound.known x i f m) (below f m)

      common : (f : ℕ) → a ≡ Atom.common f → member xs (Atom.common f) ≡ member ys (Atom.common f)
      common f e = let m = in_joined about (rw e at j) here in agree.shared f (sound.known x i f m) (below f m)

  pub holds_same : (a : Atom ℕ) → is_knows a ≡ false → level g.rules a ≤ k → holds g.rules (position_with s ms xs) a ≡ holds g.rules (position_with s ms ys) a
  holds_same a plain l =
      ap₂ ◌||◌ (same_given a (λ r f e. absurd (both_ways (is_knows a) plain (rw e refl))) (λ f e. absurd (both_ways (is_knows a) plain (rw e refl))))
      (climb_same_in (level g.rules) g.rules (given (position_with s ms xs)) (given (position_with s ms ys)) low rests (suc (highest g.rules)) a (le-leb _ _ l))
