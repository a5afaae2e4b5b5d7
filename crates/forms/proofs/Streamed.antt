-- The terms of a pair taken one after another, to its closing bracket.
use Rattle.std.proofs.Common.{◌≡◌, ℕ, List, [], ◌∷◌, ◌++◌, Some, None, Err, Option, length, take, drop, sym, refl, ap, ◌∙◌, append_assoc}
use Rattle.std.proofs.lemmas.List.{take_at, drop_at}
use Rattle.definitions.specs.Form.{all_of, after, list, map_some}
use Rattle.definitions.specs.Term.{Tree, none, ◌&◌, Placed, Term, bare, bares}
use Rattle.definitions.specs.Text.{Token, flat, flats}
use Rattle.text.specs.Span.{span}
use Rattle.text.specs.Spelt.{term}
use Rattle.text.proofs.Spans.{spans}
use Rattle.text.proofs.Spelt.{term_flat}
use Rattle.forms.specs.declared.fault.FormFault.{FormFault}
use Rattle.forms.specs.Bodies.{Added, Put}
use Rattle.forms.specs.Tokens.{Closes}
use Rattle.forms.proofs.Putting.{Sofar, nothing, sofar_more, sofar_all}

-- tokens begin with one term only
pub record SameFirst (t u : Tree ℕ) (xs ys : List Token) : Type 0 where
  pub first : t ≡ u
  pub others : xs ≡ ys

pub same_first : (t u : Tree ℕ) (xs ys : List Token) → flat t ++ xs ≡ flat u ++ ys → SameFirst t u xs ys
same_first t u xs ys is =
    let long : length (flat t) ≡ length (flat u) = sym (spans t xs) ∙ ap (span 0) is ∙ spans u ys in
    let here : flat t ≡ flat u = sym (take_at (flat t) xs _ long) ∙ ap (take (length (flat u))) is ∙ take_at (flat u) ys _ refl in
    record {
      first = sym (term_flat t) ∙ ap term here ∙ term_flat u;
      others = sym (drop_at (flat t) xs _ long) ∙ ap (drop (length (flat u))) is ∙ drop_at (flat u) ys _ refl;
    }

-- no term begins with a closing bracket
pub no_closing_first : (t : Tree ℕ) (xs ys : List Token) → flat t ++ xs ≡ Token.closing ∷ ys → ⊥
no_closing_first (Tree.word at w) xs ys is = cc
no_closing_first (Tree.pair at ts) xs ys is = cc

-- what stands behind the first of the terms that are closed
pub record Behind (t : Tree ℕ) (us : Placed) (xs : List Token) : Type 0 where
  pub others : Placed
  pub split : us ≡ t & others
  pub closes : Closes xs others

pub behind_first : (t : Tree ℕ) (us : Placed) (rest xs : List Token) → rest ≡ flat t ++ xs → Closes rest us → Behind t us xs
behind_first t none rest xs is closes = absurd (no_closing_first t xs [] (sym is ∙ closes))
behind_first t (u & us) rest xs is closes =
    let same = same_first t u xs (flats us ++ Token.closing ∷ []) (sym is ∙ closes ∙ append_assoc (flat u) (flats us) (Token.closing ∷ [])) in
    record { others = us; split = ap (λ v. v & us) (sym same.first); closes = same.others }

pub closes_first : (t : Tree ℕ) (us : Placed) (rest xs : List Token) → rest ≡ flat t ++ xs → Closes xs us → Closes rest (t & us)
closes_first t us rest xs is closes =
    is ∙ ap (λ ys. flat t ++ ys) closes ∙ sym (append_assoc (flat t) (flats us) (Token.closing ∷ []))

-- what all terms give, after what was there, is what those that are left give, after what is there
pub record Streamed {X : Type 0} (f : Term → Option X) (all rest : List Token) (old new : List X) : Type 0 where
  pub whole : (us : Placed) → Closes rest us → (ts : Placed) × Closes all ts
  pub left : (ts : Placed) → Closes all ts → (us : Placed) × Closes rest us × Sofar f (list (bares ts)) (list (bares us)) old new

pub streamed_none : {X : Type 0} (f : Term → Option X) (all : List Token) (old : List X) → Streamed f all all old old
streamed_none f all old = record { whole = λ us closes. (us, closes); left = λ ts closes. (ts, closes, refl) }

pub streamed_more : {X : Type 0} (f : Term → Option X) (all rest xs : List Token) (t : Tree ℕ) (old mid new : List X) → Streamed f all rest old mid → rest ≡ flat t ++ xs → map_some (λ x. mid ++ x ∷ []) (f (bare t)) ≡ Some new → Streamed f all xs old new
streamed_more f all rest xs t old mid new sofar is put = record {
  whole = λ us closes. sofar.whole (t & us) (closes_first t us rest xs is closes);
  left = λ ts closes.
      let p = sofar.left ts closes in
      let b = behind_first t p.0 rest xs is p.1 in
      (b.others, b.closes, sofar_more f (list (bares ts)) (list (bares p.0)) (list (bares b.others)) (bare t) old mid new p.2 (ap (λ us. list (bares us)) b.split) put);
}

nothing_left : {X : Type 0} (f : Term → Option X) (all rest : List Term) (t : Term) (old mid : List X) → Sofar f all (t ∷ rest) old mid → f t ≡ None → all_of f all ≡ None
nothing_left f all rest t old mid sofar gone = nothing old (all_of f all) (sofar ∙ ap (λ o. map_some (λ xs. mid ++ xs) (after o (λ y. map_some (λ ys. y ∷ ys) (all_of f rest)))) gone)

pub streamed_stops : {X : Type 0} (f : Term → Option X) (all rest xs : List Token) (t : Tree ℕ) (e : FormFault) (old mid new : List X) → Streamed f all rest old mid → rest ≡ flat t ++ xs → Added (Err e) mid new (f (bare t)) → (ts : Placed) → Closes all ts → Put (Err e) old new (all_of f (list (bares ts)))
streamed_stops f all rest xs t (FormFault.Memory a) old mid new sofar is put ts closes = tt
streamed_stops f all rest xs t FormFault.Broken old mid new sofar is put ts closes =
    let p = sofar.left ts closes in
    let b = behind_first t p.0 rest xs is p.1 in
    nothing_left f (list (bares ts)) (list (bares b.others)) (bare t) old mid (p.2 ∙ ap (λ us. map_some (λ xs. mid ++ xs) (all_of f (list (bares us)))) b.split) put

-- nothing is left but the closing bracket
pub closed_none : (us : Placed) (rest : List Token) → rest ≡ Token.closing ∷ [] → Closes rest us → us ≡ none
closed_none none rest is closes = refl
closed_none (u & us) rest is closes = absurd (no_closing_first u (flats us ++ Token.closing ∷ []) [] (sym (append_assoc (flat u) (flats us) (Token.closing ∷ [])) ∙ sym closes ∙ is))

pub streamed_all : {X : Type 0} (f : Term → Option X) (all rest : List Token) (old new : List X) → Streamed f all rest old new → rest ≡ Token.closing ∷ [] → (ts : Placed) → Closes all ts → map_some (λ xs. old ++ xs) (all_of f (list (bares ts))) ≡ Some new
streamed_all f all rest old new sofar is ts closes =
    let p = sofar.left ts closes in
    sofar_all f (list (bares ts)) (list (bares p.0)) old new p.2 (ap (λ us. list (bares us)) (closed_none p.0 rest is p.1))

-- terms that are closed begin with a term, or are none
pub none_begins : (us : Placed) (rest : List Token) → ((t : Tree ℕ) (xs : List Token) → rest ≡ flat t ++ xs → ⊥) → Closes rest us → us ≡ none
none_begins none rest never closes = refl
none_begins (u & us) rest never closes = absurd (never u (flats us ++ Token.closing ∷ []) (closes ∙ append_assoc (flat u) (flats us) (Token.closing ∷ [])))
