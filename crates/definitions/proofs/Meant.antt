-- What a state that a run reaches stands for, by any reading of which plays are legal and what is known in them.
use Rattle.std.proofs.Common.{◌≡◌, ℕ, ◌<◌, Bool, true, false, List, length, None, sym, ap, ◌∙◌, subst, add-one}
use Rattle.definitions.specs.Form.{Atom}
use Rattle.definitions.specs.Lists.{any}
use Rattle.definitions.specs.Level.{member}
use Rattle.definitions.specs.Ruleset.{roles, SoundGame}
use Rattle.definitions.specs.Play.{Play, nth, same_play, next_book, Plays, in_book, book_knowledge}
use Rattle.definitions.specs.Match.{Table, State, real_play, real_knowledge}
use Rattle.definitions.specs.Law.{Means, StatesMean, end}
use Rattle.definitions.proofs.Agreed.{Agree}
use Rattle.definitions.proofs.Accepted.{accepted_sound}
use Rattle.definitions.proofs.Knowing.{knowing_knows}
use Rattle.definitions.proofs.Books.{books_are_plays}
use Rattle.definitions.proofs.Once.{plays_once}
use Rattle.definitions.proofs.Readings.{plays_one, plain_same, legal_moves_same}
use Rattle.definitions.proofs.Reached.{Reached, end_reached}
use Rattle.definitions.proofs.Begun.{dealt_reached}
use Rattle.definitions.proofs.Exactly.{real_legal, real_known}

module _ (t : Table) (s : State) (h : Reached t s) (sound : SoundGame t.game) (L : ℕ → Play → Bool) (K : ℕ → Play → List (Atom ℕ)) (reading : Plays t.game t.deal L K) where
  abbrev real_known_by : List (Atom ℕ)
  real_known_by = K s.closed (real_play t s)

  books : Plays t.game t.deal (in_book t.game t.deal) (book_knowledge t.game t.deal)
  books = books_are_plays knowing_knows t.game t.deal sound

  legal_booked : (p : Play) → L s.closed p ≡ in_book t.game t.deal s.closed p
  legal_booked p = (plays_one t.game t.deal sound L _ K _ reading books s.closed p).0

  real_reads : L s.closed (real_play t s) ≡ true
  real_reads = legal_booked (real_play t s) ∙ real_legal t s h

  real_known_same : (p : ℕ) → p < length t.game.names.facts
      → ((r : ℕ) → r < roles t.game → member (real_knowledge t s) (Atom.knows r p) ≡ member real_known_by (Atom.knows r p))
      × (member (real_knowledge t s) (Atom.common p) ≡ member real_known_by (Atom.common p))
  real_known_same p small =
      let same = (plays_one t.game t.deal sound L _ K _ reading books s.closed (real_play t s)).1 real_reads p small in (
        λ r few. ap (λ k. member k (Atom.knows r p)) (real_known t s h) ∙ sym (same.0 r few),
        ap (λ k. member k (Atom.common p)) (real_known t s h) ∙ sym same.1,
      )

  real_agree : (k : ℕ) → Agree t.game k (real_knowledge t s) real_known_by
  real_agree k = record { own = λ r p few small below. (real_known_same p small).0 r few; shared = λ p small below. (real_known_same p small).1 }

  reached_means : Means t s L K
  reached_means = record {
    plays = λ p. ap (any (λ q. same_play q p)) h.booked ∙ sym (legal_booked p);
    once = subst (λ ps. (i j : ℕ) → i < j → j < length ps → same_play (nth ps i) (nth ps j) ≡ false) (sym h.booked) (plays_once t.game t.deal s.closed);
    next = rw add-one (ap (next_book t.game t.deal) h.booked);
    real = real_reads;
    moves = legal_moves_same t.game sound (real_play t s) _ _ real_agree;
    holding = plain_same t.game sound (real_play t s) _ _ real_agree None;
    known = λ r p few small. (real_known_same p small).0 r few;
    common = λ p small. (real_known_same p small).1;
  }

pub states_mean : StatesMean
states_mean t (text, e) lawful s dealt xs = reached_means t (end t s xs) (end_reached t s xs (dealt_reached t s lawful dealt)) (accepted_sound text t.game e)
