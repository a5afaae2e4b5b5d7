-- Known is answered exactly if the fact holds in every legal play that the seat can't tell from the real one.
use Rattle.std.proofs.Common.{◌≡◌, ℕ, ◌<◌, Bool, true, ◌&&◌, List, [], length, get_or, Decides, sym, refl, ap, ◌∙◌, subst}
use Rattle.std.proofs.lemmas.Bool.{lt-ltb, and_from}
use Rattle.std.proofs.lemmas.Bool.Decides.{Decides-at}
use Rattle.definitions.specs.Form.{Atom}
use Rattle.definitions.specs.Level.{member}
use Rattle.definitions.specs.Holds.{holds}
use Rattle.definitions.specs.Ruleset.{roles, SoundGame}
use Rattle.definitions.specs.Play.{Play, nth, alike, before, knowledge, Plays, in_book, book_knowledge}
use Rattle.definitions.specs.Match.{Table, State, Answer, asked_of, real_knowledge, real_play, has_role, has_fact}
use Rattle.definitions.specs.Law.{KnownExactly, end}
use Rattle.definitions.proofs.Accepted.{accepted_sound}
use Rattle.definitions.proofs.Knowing.{knowing_knows}
use Rattle.definitions.proofs.Books.{books_are_plays}
use Rattle.definitions.proofs.Readings.{plays_one}
use Rattle.definitions.proofs.Places.{nth_listed, row_nth}
use Rattle.definitions.proofs.Reached.{Reached, end_reached}
use Rattle.definitions.proofs.Begun.{dealt_reached}

-- the real play is legal, and the book has its knowledge
module _ (t : Table) (s : State) (h : Reached t s) where
  pub real_legal : in_book t.game t.deal s.closed (real_play t s) ≡ true
  real_legal =
      subst (λ ps. s.real < length ps → in_book t.game t.deal s.closed (nth ps s.real) ≡ true) (sym h.booked)
      (nth_listed t.game t.deal s.closed s.real) h.low

  pub real_known : real_knowledge t s ≡ book_knowledge t.game t.deal s.closed (real_play t s)
  real_known =
      subst (λ ps. s.real < length ps → get_or (knowledge t.game t.deal ps) s.real [] ≡ book_knowledge t.game t.deal s.closed (nth ps s.real)) (sym h.booked)
      (λ low. sym (row_nth t.game t.deal s.closed s.real low)) h.low

  module _ (sound : SoundGame t.game) (L : ℕ → Play → Bool) (K : ℕ → Play → List (Atom ℕ)) (reading : Plays t.game t.deal L K) where
    known_decides : (r p : ℕ) → r < roles t.game → p < length t.game.names.facts
        → Decides (member (real_knowledge t s) (Atom.knows r p)) ((q : Play) → L s.closed q ≡ true → alike t.deal r (real_play t s) q ≡ true → holds t.game.rules (before t.game q (K s.closed q)) (Atom.fact p) ≡ true)
    known_decides r p few small =
        let same = plays_one t.game t.deal sound L _ K _ reading (books_are_plays knowing_knows t.game t.deal sound) s.closed (real_play t s) in
        let legal : L s.closed (real_play t s) ≡ true = same.0 ∙ real_legal in
        Decides-at _ _ (ap (λ k. member k (Atom.knows r p)) real_known ∙ sym ((same.1 legal p small).0 r few)) (reading.own s.closed (real_play t s) r p legal few small)

flagged : (t : Table) (a c : Bool) → a ≡ true → asked_of t a (Answer.flag c) ≡ Answer.flag c
flagged t a c e = rw e refl

pub known_exactly : KnownExactly
known_exactly t (text, e) lawful s dealt xs L K reading r p few small =
    let now_at = end t s xs in
    let reached = end_reached t s xs (dealt_reached t s lawful dealt) in (
      member (real_knowledge t now_at) (Atom.knows r p),
      flagged t (has_role t r && has_fact t p) _ (and_from _ _ (lt-ltb r (roles t.game) few) (lt-ltb p (length t.game.names.facts) small)),
      known_decides t now_at reached (accepted_sound text t.game e) L K reading r p few small,
    )
