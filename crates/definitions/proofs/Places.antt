-- Where the plays of a book stand, and the knowledge sets that they have there.
use Rattle.std.proofs.Common.{◌≡◌, ℕ, ◌<◌, true, List, [], length, get_or, ap, subst, ⊎_elim}
use Rattle.std.proofs.lemmas.Bool.{cases_order, both_ways}
use Rattle.definitions.specs.Form.{Atom}
use Rattle.definitions.specs.Lists.{In, first_like}
use Rattle.definitions.specs.Ruleset.{Game}
use Rattle.definitions.specs.Deal.{Deal}
use Rattle.definitions.specs.Play.{Play, no_play, nth, knowledge, book, same_play, in_book, book_knowledge}
use Rattle.definitions.proofs.Elements.{get_or_in, in_any}
use Rattle.definitions.proofs.Firsts.{like_place}
use Rattle.definitions.proofs.Plays.{same_play_decides, same_play_laws}
use Rattle.definitions.proofs.Once.{plays_once}

module _ (g : Game) (d : Deal) (n : ℕ) where
  abbrev pub plays : List Play
  plays = book g d n

  abbrev pub row : ℕ → List (Atom ℕ)
  row i = get_or (knowledge g d plays) i []

  abbrev pub place : Play → ℕ
  place p = first_like same_play plays p

  pub listed : (p : Play) → In p plays → in_book g d n p ≡ true
  listed p i = in_any (λ q. same_play q p) i (same_play_laws.itself p)

  module _ (p : Play) (l : in_book g d n p ≡ true) where
    pub place_below : place p < length plays
    place_below = (like_place same_play plays p l).0

    pub at_place : nth plays (place p) ≡ p
    at_place = (same_play_decides _ p).0 ((like_place same_play plays p l).1 no_play)

    pub found : In p plays
    found = subst (λ q. In q plays) at_place (get_or_in plays (place p) no_play place_below)

  module _ (i : ℕ) (low : i < length plays) where
    pub nth_listed : in_book g d n (nth plays i) ≡ true
    nth_listed = listed (nth plays i) (get_or_in plays i no_play low)

    place_nth : place (nth plays i) ≡ i
    place_nth =
        let p = nth plays i in
        let j = place p in
        let below = place_below p nth_listed in
        let same = (like_place same_play plays p nth_listed).1 no_play in
        ⊎_elim (λ e. e)
        (⊎_elim
        (λ under. absurd (both_ways _ (plays_once g d n j i under low) same))
        (λ over. absurd (both_ways _ (plays_once g d n i j over below) (same_play_laws.turned (nth plays j) p same))))
        (cases_order j i)

    pub row_nth : book_knowledge g d n (nth plays i) ≡ row i
    row_nth = ap row place_nth
