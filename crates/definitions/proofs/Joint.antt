-- Joint moves: every choice of one from each list, each once.
use Rattle.std.proofs.Common.{◌≡◌, ℕ, zero, suc, ◌<◌, ◌≢◌, List, [], ◌∷◌, map, length, get_or, sym, refl, ap, ◌∙◌, subst, arith}
use Rattle.std.proofs.lemmas.List.FromFn.{length-map-range_with_len}
use Rattle.definitions.specs.Form.{Atom}
use Rattle.definitions.specs.Lists.{In, here, there, upto}
use Rattle.definitions.specs.Ruleset.{Game, roles}
use Rattle.definitions.specs.Play.{Play, legal_moves, joint, joint_moves, LegalIn}
use Rattle.definitions.proofs.Listed.{in_joined, joined_in}
use Rattle.definitions.proofs.Upto.{map_in, in_map, get_or_map_upto}
use Rattle.definitions.proofs.Pairwise.{Pairwise, pairwise_like}
use Rattle.definitions.proofs.Repeats.{pairwise_map, pairwise_joined, kept_once}

-- one from each list
record Chosen (lists : List (List ℕ)) (ms : List ℕ) : Type 0 where
  long : length ms ≡ length lists
  each : (r : ℕ) → r < length lists → In (get_or ms r 0) (get_or lists r [])

chosen_more : {m : ℕ} {xs : List ℕ} {lists : List (List ℕ)} {ms : List ℕ} → In m xs → Chosen lists ms → Chosen (xs ∷ lists) (m ∷ ms)
chosen_more {m} {xs} {lists} {ms} i c = record { long = ap suc c.long; each = each }
  where
    each : (r : ℕ) → r < suc (length lists) → In (get_or (m ∷ ms) r 0) (get_or (xs ∷ lists) r [])
    each zero low = i
    each (suc r) low = c.each r (omega arith)

module _ (g : Game) where
  joint_chosen : (lists : List (List ℕ)) (ms : List ℕ) → In ms (joint g lists) → Chosen lists ms
  joint_chosen [] ms here = record { long = refl; each = λ r low. absurd (omega arith) }
  joint_chosen [] ms (there i) = elim i [ ]
  joint_chosen (xs ∷ lists) ms i =
      let r = joined_in (λ m. map (λ js. m ∷ js) (joint g lists)) xs i in
      let s = map_in (λ js. r.0 ∷ js) (joint g lists) r.2 in
      subst (Chosen (xs ∷ lists)) (sym s.2) (chosen_more r.1 (joint_chosen lists s.0 s.1))

  chosen_joint : (lists : List (List ℕ)) (ms : List ℕ) → Chosen lists ms → In ms (joint g lists)
  chosen_joint [] [] c = here
  chosen_joint [] (m ∷ ms) c = absurd (omega (arith, c.long))
  chosen_joint (xs ∷ lists) [] c = absurd (omega (arith, c.long))
  chosen_joint (xs ∷ lists) (m ∷ ms) c =
      in_joined (λ m. map (λ js. m ∷ js) (joint g lists)) (c.each 0 (omega arith))
      (in_map (λ js. m ∷ js) (chosen_joint lists ms (record { long = omega (arith, c.long); each = λ r low. c.each (suc r) (omega arith) })))

  joint_once : (lists : List (List ℕ)) → ((ms : List ℕ) → In ms lists → Pairwise (λ x y. x ≢ y) ms) → Pairwise (λ x y. x ≢ y) (joint g lists)
  joint_once [] each = ((λ y i. elim i [ ]), tt)
  joint_once (xs ∷ lists) each =
      pairwise_joined (λ x y. x ≢ y) (λ m. map (λ js. m ∷ js) (joint g lists)) xs
      (pairwise_like (λ x y. x ≢ y) _ xs (λ m n i j apart u v k l e. let r = map_in _ (joint g lists) k in let s = map_in _ (joint g lists) l in apart cc) (each xs here))
      (λ m i. pairwise_map (λ x y. x ≢ y) (λ js. m ∷ js) (joint g lists) (pairwise_like (λ x y. x ≢ y) _ (joint g lists) (λ u v j k apart e. apart cc) (joint_once lists (λ ms j. each ms (there j)))))

  module _ (p : Play) (K : List (Atom ℕ)) where
    abbrev lists : List (List ℕ)
    lists = map (legal_moves g p K) (upto (roles g))

    lists_long : length lists ≡ roles g
    lists_long = length-map-range_with_len (legal_moves g p K) 0 (roles g)

    lists_each : (r : ℕ) → r < roles g → get_or lists r [] ≡ legal_moves g p K r
    lists_each r low = get_or_map_upto (legal_moves g p K) (roles g) r [] low

    pub joint_legal : (ms : List ℕ) → In ms (joint_moves g p K) → LegalIn g p K ms
    joint_legal ms i =
        let c = joint_chosen lists ms i in
        (c.long ∙ lists_long, λ r low. subst (In (get_or ms r 0)) (lists_each r low) (c.each r (omega (arith, lists_long))))

    pub legal_joint : (ms : List ℕ) → LegalIn g p K ms → In ms (joint_moves g p K)
    legal_joint ms l = chosen_joint lists ms (record {
      long = l.0 ∙ sym lists_long;
      each = λ r low. let few : r < roles g = omega (arith, lists_long) in subst (In (get_or ms r 0)) (sym (lists_each r few)) (l.1 r few);
    })

    pub joint_moves_once : Pairwise (λ x y. x ≢ y) (joint_moves g p K)
    joint_moves_once = joint_once lists (λ ms i. let r = map_in (legal_moves g p K) (upto (roles g)) i in subst (Pairwise (λ x y. x ≢ y)) (sym r.2) (kept_once _ (length (get_or g.names.moves r.0 []))))
