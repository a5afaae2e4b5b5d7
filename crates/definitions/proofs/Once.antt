-- No play comes twice in a book: two plays of a book differ in their worlds or in their turns.
use Rattle.std.proofs.Common.{◌≡◌, ℕ, zero, suc, ◌≢◌, List, [], get_or, sym, ap, ◌∙◌, subst}
use Rattle.std.proofs.lemmas.List.{same_from_push}
use Rattle.std.proofs.lemmas.Bool.{false_from_ne_true}
use Rattle.definitions.specs.Form.{Atom}
use Rattle.definitions.specs.Lists.{In}
use Rattle.definitions.specs.Ruleset.{Game}
use Rattle.definitions.specs.Deal.{Deal, standing}
use Rattle.definitions.specs.Play.{Play, no_play, nth, start, after, joint_moves, successors, knowledge, each_with, book, same_play, PlaysOnce}
use Rattle.definitions.proofs.Upto.{map_in}
use Rattle.definitions.proofs.Pairwise.{Pairwise, pairwise_like, pairwise_places}
use Rattle.definitions.proofs.Repeats.{pairwise_map, pairwise_joined, kept_once}
use Rattle.definitions.proofs.Joint.{joint_moves_once}
use Rattle.definitions.proofs.Beside.{each_in, pairwise_each}
use Rattle.definitions.proofs.Plays.{same_play_decides}

abbrev Apart : Play → Play → Type 0
Apart p q = p.world ≡ q.world → p.turns ≡ q.turns → ⊥

module _ (g : Game) where
  -- the plays that follow one, and those that follow two
  successors_apart : (p : Play) (K : List (Atom ℕ)) → Pairwise Apart (successors g p K)
  successors_apart p K =
      pairwise_map Apart (after g p K) (joint_moves g p K)
      (pairwise_like (λ x y. x ≢ y) _ (joint_moves g p K) (λ ms ns i j apart e f. apart (ap (λ t. t.moves) (same_from_push _ _ _ _ f).1)) (joint_moves_once g p K))

  follow_apart : (p q : Play) (K J : List (Atom ℕ)) → Apart p q → (u v : Play) → In u (successors g p K) → In v (successors g q J) → Apart u v
  follow_apart p q K J apart u v i j e f =
      let r = map_in (after g p K) (joint_moves g p K) i in
      let s = map_in (after g q J) (joint_moves g q J) j in
      apart (sym (ap (λ x. x.world) r.2) ∙ e ∙ ap (λ x. x.world) s.2)
      (same_from_push _ _ _ _ (sym (ap (λ x. x.turns) r.2) ∙ f ∙ ap (λ x. x.turns) s.2)).0

  module _ (d : Deal) where
    book_apart : (n : ℕ) → Pairwise Apart (book g d n)
    book_apart zero = pairwise_map Apart (start g d) (standing d) (pairwise_like (λ x y. x ≢ y) _ _ (λ x y i j apart e f. apart e) (kept_once d.deck.stands d.deck.size))
    book_apart (suc n) =
        let ps = book g d n in
        let Ks = knowledge g d ps in
        pairwise_joined Apart (λ qs. qs) (each_with g (successors g) ps Ks)
        (pairwise_each g (successors g) Apart _ follow_apart ps Ks (book_apart n))
        (λ qs i. let r = each_in g (successors g) ps Ks i in subst (Pairwise Apart) (sym r.2) (successors_apart (nth ps r.0) (get_or Ks r.0 [])))

pub plays_once : PlaysOnce
plays_once g d n i j low high =
    let p = nth (book g d n) i in
    let q = nth (book g d n) j in
    false_from_ne_true (same_play p q) λ e.
    let same = (same_play_decides p q).0 e in
    pairwise_places Apart _ (book_apart g d n) no_play i j low high (ap (λ x. x.world) same) (ap (λ x. x.turns) same)
