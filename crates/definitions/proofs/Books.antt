-- The books have exactly the legal plays, with the knowledge in them.
use Rattle.std.proofs.Common.{◌≡◌, ℕ, suc, ◌<◌, true, List, length, Decides, sym, subst, subst₂, arith}
use Rattle.std.proofs.lemmas.Bool.Decides.{Decides-like}
use Rattle.definitions.specs.Form.{Atom}
use Rattle.definitions.specs.Level.{member}
use Rattle.definitions.specs.Lists.{In}
use Rattle.definitions.specs.Holds.{holds}
use Rattle.definitions.specs.Ruleset.{Game, roles}
use Rattle.definitions.specs.Deal.{Deal, standing}
use Rattle.definitions.specs.Knowledge.{Chain, Knowledge, KnowingKnows}
use Rattle.definitions.specs.Play.{Play, nth, alike, frame, before, start, after, joint_moves, successors, knowledge, each_with, LegalIn, PlayChain, in_book, book_knowledge, BooksArePlays}
use Rattle.definitions.proofs.Listed.{in_joined, joined_in}
use Rattle.definitions.proofs.Upto.{map_in, in_map}
use Rattle.definitions.proofs.Chains.{chain_below}
use Rattle.definitions.proofs.Evenness.{knowing_length}
use Rattle.definitions.proofs.Joint.{joint_legal, legal_joint}
use Rattle.definitions.proofs.Beside.{each_in, in_each}
use Rattle.definitions.proofs.Places.{plays, row, place, listed, place_below, at_place, found, nth_listed, row_nth}

module _ (g : Game) (d : Deal) (n : ℕ) where
  abbrev ps : List Play
  ps = plays g d n

  abbrev Legal : Play → Type 0
  Legal p = in_book g d n p ≡ true

  abbrev known : Play → List (Atom ℕ)
  known p = book_knowledge g d n p

  book_goes_on : (q : Play) (ms : List ℕ) → Legal q → LegalIn g q (known q) ms → in_book g d (suc n) (after g q (known q) ms) ≡ true
  book_goes_on q ms l legal =
      let i = place g d n q in
      let low = place_below g d n q l in
      let next = in_each g (successors g) ps (knowledge g d ps) i low (omega (arith, knowing_length g (frame d ps))) in
      listed g d (suc n) _ (in_joined (λ qs. qs) (subst (λ u. In (successors g u (known q)) (each_with g (successors g) ps (knowledge g d ps))) (at_place g d n q l) next) (in_map (after g q (known q)) (legal_joint g q (known q) ms legal)))

  book_gone_on : (p : Play) → in_book g d (suc n) p ≡ true → (q : Play) × (ms : List ℕ) × Legal q × LegalIn g q (known q) ms × (p ≡ after g q (known q) ms)
  book_gone_on p l =
      let r = joined_in (λ qs. qs) (each_with g (successors g) ps (knowledge g d ps)) (found g d (suc n) p l) in
      let s = each_in g (successors g) ps (knowledge g d ps) r.1 in
      let q = nth ps s.0 in
      let K = row g d n s.0 in
      let same : K ≡ known q = sym (row_nth g d n s.0 s.1) in
      let t = map_in (after g q K) (joint_moves g q K) (subst (In p) s.2 r.2) in
      (q, t.0, nth_listed g d n s.0 s.1, subst (λ J. LegalIn g q J t.0) same (joint_legal g q K t.0 t.1), subst (λ J. p ≡ after g q J t.0) same t.2)

  -- chains of places and of plays
  abbrev PlacesChain : ℕ → ℕ → Type 0
  PlacesChain i j = Chain (roles g) (frame d ps) i j

  abbrev LegalChain : Play → Play → Type 0
  LegalChain p u = PlayChain g d (in_book g d n) p u

  alike_places : (r : ℕ) (p u : Play) → Legal p → Legal u → alike d r p u ≡ true → alike d r (nth ps (place g d n p)) (nth ps (place g d n u)) ≡ true
  alike_places r p u l m e = subst₂ (λ x y. alike d r x y ≡ true) (sym (at_place g d n p l)) (sym (at_place g d n u m)) e

  chain_plays : {i v : ℕ} → PlacesChain i v → LegalChain (nth ps i) (nth ps v)
  chain_plays Chain.none = PlayChain.none
  chain_plays (Chain.more {u} r c few low e) = PlayChain.more r (chain_plays c) few (nth_listed g d n u low) e

  plays_chain : {p u : Play} → Legal p → LegalChain p u → Legal u × PlacesChain (place g d n p) (place g d n u)
  plays_chain l PlayChain.none = (l, Chain.none)
  plays_chain l (PlayChain.more {q} {u} r c few m e) = let s = plays_chain l c in (m, Chain.more r s.1 few (place_below g d n u m) (alike_places r q u s.0 m e))

  -- a fact holds in a play with a knowledge set
  abbrev Shows : ℕ → Play → List (Atom ℕ) → Type 0
  Shows f p K = holds g.rules (before g p K) (Atom.fact f) ≡ true

  play_shows : (f : ℕ) (p : Play) → Legal p → Shows f (nth ps (place g d n p)) (known p) → Shows f p (known p)
  play_shows f p l = subst (λ u. Shows f u (known p)) (at_place g d n p l)

  place_shows : (f i : ℕ) → i < length ps → Shows f (nth ps i) (known (nth ps i)) → Shows f (nth ps i) (row g d n i)
  place_shows f i low = subst (Shows f (nth ps i)) (row_nth g d n i low)

  module _ (knows : Knowledge g (frame d ps) (row g d n)) (p : Play) (l : Legal p) where
    book_own : (r f : ℕ) → r < roles g → f < length g.names.facts → Decides (member (known p) (Atom.knows r f)) ((u : Play) → Legal u → alike d r p u ≡ true → Shows f u (known u))
    book_own r f few small = Decides-like _
        (λ h u m e. play_shows f u m (h (place g d n u) (place_below g d n u m) (alike_places r p u l m e)))
        (λ h v low e. place_shows f v low (h (nth ps v) (nth_listed g d n v low) (subst (λ x. alike d r x (nth ps v) ≡ true) (at_place g d n p l) e)))
        (knows.own (place g d n p) r f (place_below g d n p l) few small)

    book_shared : (f : ℕ) → f < length g.names.facts → Decides (member (known p) (Atom.common f)) ((u : Play) → LegalChain p u → Shows f u (known u))
    book_shared f small = Decides-like _
        (λ h u c. let s = plays_chain l c in play_shows f u s.0 (h (place g d n u) s.1))
        (λ h v c. place_shows f v (chain_below (place_below g d n p l) c) (h (nth ps v) (subst (λ x. LegalChain x (nth ps v)) (at_place g d n p l) (chain_plays c))))
        (knows.shared (place g d n p) f (place_below g d n p l) small)

pub books_are_plays : KnowingKnows → BooksArePlays
books_are_plays knows g d sound = record {
  opens = λ w i. listed g d 0 _ (in_map (start g d) i);
  opened = λ p l. map_in (start g d) (standing d) (found g d 0 p l);
  goes_on = book_goes_on g d;
  gone_on = book_gone_on g d;
  own = λ n p r f l. book_own g d n (knows g (frame d (plays g d n)) sound) p l r f;
  shared = λ n p f l. book_shared g d n (knows g (frame d (plays g d n)) sound) p l f;
}
