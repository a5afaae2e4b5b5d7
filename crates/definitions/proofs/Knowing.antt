-- What is computed is the knowledge in a frame, and there is one only.
use Rattle.std.proofs.Common.{◌≡◌, ℕ, zero, suc, ◌<◌, ◌≤◌, min, List, [], map, length, None, sym, refl, ◌∙◌, arith}
use Rattle.std.proofs.lemmas.Bool.Decides.{same_from_decides, Decides-at, Decides-like}
use Rattle.definitions.specs.Form.{Atom, Rule}
use Rattle.definitions.specs.Lists.{upto, repeat}
use Rattle.definitions.specs.Level.{level_in, raise, level, highest, Respects}
use Rattle.definitions.specs.Holds.{holds}
use Rattle.definitions.specs.Ruleset.{Game, SoundGame}
use Rattle.definitions.specs.Knowledge.{Frame, position, Knowledge, deeper, KnowingKnows, KnowledgeOne}
use Rattle.definitions.proofs.Listed.{most_above, repeat_keeps}
use Rattle.definitions.proofs.Ranks.{Under, raise_under}
use Rattle.definitions.proofs.Chains.{chain_below}
use Rattle.definitions.proofs.Agreed.{Agree, agree_none, holds_same}
use Rattle.definitions.proofs.Known.{rows, Known, deeper_known}

repeat_last : {X : Type 0} (f : X → X) (n : ℕ) (x : X) → repeat (suc n) f x ≡ f (repeat n f x)
repeat_last f zero x = refl
repeat_last f (suc n) x = repeat_last f n (f x)

-- levels that are cut at the highest of a head still fit, so none is higher
level_highest : (rules : List (Rule ℕ)) → Respects (level rules) rules → (a : Atom ℕ) → level rules a ≤ highest rules
level_highest rules fits a =
    omega (arith, repeat_keeps (raise rules) (λ ls. Under (level_in ls) cut) (raise_under rules cut cut_fits) (length rules) [] (λ b. omega arith) a)
  where
    cut : Atom ℕ → ℕ
    cut b = min (level rules b) (highest rules)

    cut_fits : Respects cut rules
    cut_fits r i =
        let top = most_above (λ x. level rules x.head) i in
        (λ b j. omega (arith, (fits r i).0 b j), λ b j. omega (arith, (fits r i).1 b j))

module _ (g : Game) (f : Frame) where
  -- rows agree below a level in every world
  abbrev RowsAgree : ℕ → (ℕ → List (Atom ℕ)) → (ℕ → List (Atom ℕ)) → Type 0
  RowsAgree k J K = (w : ℕ) → w < f.size → Agree g k (J w) (K w)

  none_agree : (J K : ℕ → List (Atom ℕ)) → RowsAgree 0 J K
  none_agree J K w low = agree_none g (J w) (K w)

  -- the rows after n turns
  abbrev turn : ℕ → ℕ → List (Atom ℕ)
  turn n = rows (repeat n (deeper g f) (map (λ w. []) (upto f.size)))

  turn_known : (n : ℕ) → Known g f (turn n) (turn (suc n))
  turn_known n = rw (repeat_last (deeper g f) n (map (λ w. []) (upto f.size))) (deeper_known g f _)

  module _ (sound : SoundGame g) where
    true_same : (k : ℕ) (J K : ℕ → List (Atom ℕ)) → RowsAgree k J K → (p : ℕ) → level g.rules (Atom.fact p) ≤ k → (v : ℕ) → v < f.size → holds g.rules (position f J v) (Atom.fact p) ≡ holds g.rules (position f K v) (Atom.fact p)
    true_same k J K agree p below v low = holds_same g sound k (f.state v) None (J v) (K v) (agree v low) (Atom.fact p) refl below

    agree_more : (k : ℕ) (J K J' K' : ℕ → List (Atom ℕ)) → Known g f J J' → Known g f K K' → RowsAgree k J K → RowsAgree (suc k) J' K'
    agree_more k J K J' K' h j agree w low = record {
      own = λ r p few small below.
          let same = true_same k J K agree p (omega arith) in
          same_from_decides _ _ (h.own w r p low few small)
          (Decides-like _ (λ t v inside e. same v inside ∙ t v inside e) (λ t v inside e. sym (same v inside) ∙ t v inside e) (j.own w r p low few small));
      shared = λ p small below.
          let same = true_same k J K agree p (omega arith) in
          same_from_decides _ _ (h.shared w p low small)
          (Decides-like _ (λ t v c. same v (chain_below low c) ∙ t v c) (λ t v c. sym (same v (chain_below low c)) ∙ t v c) (j.shared w p low small));
    }

    known_agree : (J K : ℕ → List (Atom ℕ)) → Known g f J J → Known g f K K → (k : ℕ) → RowsAgree k J K
    known_agree J K h j zero = none_agree J K
    known_agree J K h j (suc k) = agree_more k J K J K h j (known_agree J K h j k)

    turns_agree : (n : ℕ) → RowsAgree n (turn n) (turn (suc n))
    turns_agree zero = none_agree _ _
    turns_agree (suc n) = agree_more n _ _ _ _ (turn_known n) (turn_known (suc n)) (turns_agree n)

pub knowledge_one : KnowledgeOne
knowledge_one g f sound J K h j w low p small =
    let known : (L : ℕ → List (Atom ℕ)) → Knowledge g f L → Known g f L L = λ L k. record { own = k.own; shared = k.shared } in
    let agree = known_agree g f sound J K (known J h) (known K j) (suc (level g.rules (Atom.fact p))) w low in
    (λ r few. agree.own r p few small (omega arith), agree.shared p small (omega arith))

-- one turn more changes nothing
pub knowing_knows : KnowingKnows
knowing_knows g f sound =
    let end = suc (highest g.rules) in
    let more = turn_known g f end in
    let same = turns_agree g f sound end in
    let below : (p : ℕ) → level g.rules (Atom.fact p) < end = λ p. omega (arith, level_highest g.rules sound.levels (Atom.fact p)) in
    record {
      own = λ w r p low few small. Decides-at _ _ ((same w low).own r p few small (below p)) (more.own w r p low few small);
      shared = λ w p low small. Decides-at _ _ ((same w low).shared p small (below p)) (more.shared w p low small);
    }
