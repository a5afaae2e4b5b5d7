-- The state in which a match begins.
use Rattle.std.proofs.Common.{◌≡◌, ℕ, false, leb, map, length, Some, None, Option, sym, refl, ap, ◌∙◌, subst, arith}
use Rattle.std.proofs.lemmas.List.{length-map, get_or-map}
use Rattle.std.proofs.lemmas.Bool.{cond_both}
use Rattle.definitions.specs.Refusal.{accepted, refused}
use Rattle.definitions.specs.Lists.{In}
use Rattle.definitions.specs.Deal.{Lawful, standing}
use Rattle.definitions.specs.Knowledge.{index, in_match}
use Rattle.definitions.specs.Play.{no_play, start, book, uneven}
use Rattle.definitions.specs.Match.{Table, State, no_commits, real_play, even_state, deal_match}
use Rattle.definitions.proofs.Positions.{HoldsAt}
use Rattle.definitions.proofs.Plain.{index_place, real_stands}
use Rattle.definitions.proofs.Reached.{Reached, none_noted}

-- where a match begins whose real world is w
abbrev pub begun : Table → ℕ → State
begun t w = record { closed = 0; plays = book t.game t.deal 0; real = index (standing t.deal) w; commits = no_commits; untold = false }

module _ (t : Table) (w : ℕ) (stands : In w (standing t.deal)) where
  begun_at : HoldsAt (map (start t.game t.deal) (standing t.deal)) (index (standing t.deal) w) (start t.game t.deal w)
  begun_at =
      let ws = standing t.deal in
      let first = start t.game t.deal in
      let (low, same) = index_place ws stands in
      record { below = omega (arith, length-map ws first); is = λ d. get_or-map first ws (index ws w) 0 d low ∙ ap first same }

  pub begun_play : real_play t (begun t w) ≡ start t.game t.deal w
  begun_play = begun_at.is no_play

  pub begun_reached : uneven t.game t.deal (book t.game t.deal 0) ≡ None → Reached t (begun t w)
  begun_reached even = record {
    booked = refl;
    low = begun_at.below;
    eight = refl;
    legal = λ r m few e. let f = none_noted 8 r in cc;
    even = even;
    rounds = ap (λ p. length p.turns) begun_play;
  }

-- a match that is dealt begins with its first state, whose book is even
pub dealt : (t : Table) (s : State) → deal_match t ≡ accepted s → (s ≡ begun t t.deal.seats.real) × (uneven t.game t.deal (book t.game t.deal 0) ≡ None)
dealt t s =
    let first = begun t t.deal.seats.real in
    cond_both (leb (length first.plays) t.places) (even_state t (uneven t.game t.deal first.plays) first) (refused (in_match 12 0))
    (λ v. v ≡ accepted s → (s ≡ first) × (uneven t.game t.deal first.plays ≡ None))
    (λ e. go (uneven t.game t.deal first.plays))
    (λ e f. cc)
  where
    go : (o : Option ℕ) → even_state t o (begun t t.deal.seats.real) ≡ accepted s → (s ≡ begun t t.deal.seats.real) × (o ≡ None)
    go None e = (cc, refl)
    go (Some r) e = cc

pub dealt_reached : (t : Table) (s : State) → Lawful t.deal → deal_match t ≡ accepted s → Reached t s
dealt_reached t s lawful e = let (same, even) = dealt t s e in subst (Reached t) (sym same) (begun_reached t t.deal.seats.real (real_stands t.deal lawful) even)
