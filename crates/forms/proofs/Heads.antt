-- What a rule may conclude, by the terms behind its keyword.
use Rattle.std.proofs.Common.{◌≡◌, ℕ, List, [], ◌∷◌, ◌++◌, map, None, Some, Option, MatchOption, sym, refl, ap, ◌∙◌}
use Rattle.definitions.specs.Form.{Keyword, head_atom, list}
use Rattle.definitions.specs.Term as terms
use Rattle.definitions.specs.Term.{Tree, none, ◌&◌, Placed, bare, bares}
use Rattle.definitions.specs.Text.{Token, flat, flats}
use Rattle.text.specs.declared.term.Terms.{Terms}
use Rattle.text.specs.Terms.{listed, trees}
use Rattle.forms.specs.Args.{only}
use Rattle.forms.specs.Tokens.{Closes}
use Rattle.forms.specs.View.{terms_view}
use Rattle.forms.proofs.Streamed.{behind_first, closed_none, closes_first, none_begins}

pub nothing_behind : (k : Keyword) → head_atom k [] ≡ None
nothing_behind Keyword.role = refl
nothing_behind Keyword.init = refl
nothing_behind Keyword.true_now = refl
nothing_behind Keyword.next = refl
nothing_behind Keyword.legal = refl
nothing_behind Keyword.does = refl
nothing_behind Keyword.sees = refl
nothing_behind Keyword.goal = refl
nothing_behind Keyword.terminal = refl
nothing_behind Keyword.knows = refl
nothing_behind Keyword.distinct = refl
nothing_behind Keyword.negation = refl
nothing_behind Keyword.disjunction = refl
nothing_behind Keyword.arrow = refl

pub three_behind : (k : Keyword) (t u v : terms.Term) (ts : List terms.Term) → head_atom k (t ∷ u ∷ v ∷ ts) ≡ None
three_behind Keyword.role t u v ts = refl
three_behind Keyword.init t u v ts = refl
three_behind Keyword.true_now t u v ts = refl
three_behind Keyword.next t u v ts = refl
three_behind Keyword.legal t u v ts = refl
three_behind Keyword.does t u v ts = refl
three_behind Keyword.sees t u v ts = refl
three_behind Keyword.goal t u v ts = refl
three_behind Keyword.terminal t u v ts = refl
three_behind Keyword.knows t u v ts = refl
three_behind Keyword.distinct t u v ts = refl
three_behind Keyword.negation t u v ts = refl
three_behind Keyword.disjunction t u v ts = refl
three_behind Keyword.arrow t u v ts = refl

-- behind the first term there is none, one or more
pub head_none : (k : Keyword) (us : List terms.Term) → us ≡ [] → None ≡ head_atom k us
head_none k us is = sym (ap (head_atom k) is ∙ nothing_behind k)

pub head_one : (k : Keyword) (us : List terms.Term) (t : terms.Term) (rest : Terms) → us ≡ t ∷ terms_view rest → trees rest ≡ none → head_atom k (t ∷ []) ≡ head_atom k us
head_one k us t rest is e = ap (λ ts. head_atom k (t ∷ map bare (listed ts))) (sym e) ∙ ap (head_atom k) (sym is)

pub head_two : (k : Keyword) (us : List terms.Term) (t u : terms.Term) (rest : Terms) → us ≡ t ∷ terms_view rest → Some u ≡ only (terms_view rest) → head_atom k (t ∷ u ∷ []) ≡ head_atom k us
head_two k us t u rest is e = go (terms_view rest) e ∙ ap (head_atom k) (sym is)
  where
    go : (vs : List terms.Term) → Some u ≡ only vs → head_atom k (t ∷ u ∷ []) ≡ head_atom k (t ∷ vs)
    go [] e = cc
    go (v ∷ []) e = let same : u ≡ v = cc in ap (λ x. head_atom k (t ∷ x ∷ [])) same
    go (v ∷ w ∷ vs) e = cc

pub head_more : (k : Keyword) (us : List terms.Term) (t : terms.Term) (rest : Terms) → us ≡ t ∷ terms_view rest → (trees rest ≡ none → ⊥) → None ≡ only (terms_view rest) → None ≡ head_atom k us
head_more k us t rest is some e = go (trees rest) some e ∙ ap (head_atom k) (sym is)
  where
    go : (ts : Placed) → (ts ≡ none → ⊥) → None ≡ only (map bare (listed ts)) → None ≡ head_atom k (t ∷ map bare (listed ts))
    go none some e = absurd (some refl)
    go (u & none) some e = cc
    go (u & (v & ts)) some e = sym (three_behind k t (bare u) (bare v) (map bare (listed ts)))

pub closed_after_one : (k : Keyword) (t : Tree ℕ) (ts : Placed) (xs ys : List Token) → xs ≡ flat t ++ ys → ys ≡ Token.closing ∷ [] → Closes xs ts → head_atom k (bare t ∷ []) ≡ head_atom k (list (bares ts))
closed_after_one k t ts xs ys is shut closes =
    let b = behind_first t ts xs ys is closes in
    ap (λ us. head_atom k (list (bares (t & us)))) (sym (closed_none b.others ys shut b.closes)) ∙ ap (λ us. head_atom k (list (bares us))) (sym b.split)

pub closed_after_two : (k : Keyword) (t u : Tree ℕ) (ts : Placed) (xs ys zs : List Token) → xs ≡ flat t ++ ys → ys ≡ flat u ++ zs → zs ≡ Token.closing ∷ [] → Closes xs ts → head_atom k (bare t ∷ bare u ∷ []) ≡ head_atom k (list (bares ts))
closed_after_two k t u ts xs ys zs is more shut closes =
    let b = behind_first t ts xs ys is closes in
    let d = behind_first u b.others ys zs more b.closes in
    ap (λ us. head_atom k (list (bares (t & (u & us))))) (sym (closed_none d.others zs shut d.closes))
    ∙ ap (λ us. head_atom k (list (bares (t & us)))) (sym d.split)
    ∙ ap (λ us. head_atom k (list (bares us))) (sym b.split)

pub open_after_two : (k : Keyword) (t u : Tree ℕ) (ts : Placed) (xs ys zs : List Token) → xs ≡ flat t ++ ys → ys ≡ flat u ++ zs → (zs ≡ Token.closing ∷ [] → ⊥) → Closes xs ts → None ≡ head_atom k (list (bares ts))
open_after_two k t u ts xs ys zs is more shut closes =
    let b = behind_first t ts xs ys is closes in
    let d = behind_first u b.others ys zs more b.closes in
    go d.others d.closes
    ∙ ap (λ us. head_atom k (list (bares (t & us)))) (sym d.split)
    ∙ ap (λ us. head_atom k (list (bares us))) (sym b.split)
  where
    go : (us : Placed) → Closes zs us → None ≡ head_atom k (list (bares (t & (u & us))))
    go none c = absurd (shut c)
    go (v & us) c = sym (three_behind k (bare t) (bare u) (bare v) (list (bares us)))

pub open_after_one : (k : Keyword) (t : Tree ℕ) (ts : Placed) (xs ys : List Token) → xs ≡ flat t ++ ys → (ys ≡ Token.closing ∷ [] → ⊥) → ((u : Tree ℕ) (rest : List Token) → ys ≡ flat u ++ rest → ⊥) → Closes xs ts → None ≡ head_atom k (list (bares ts))
open_after_one k t ts xs ys is shut never closes =
    let b = behind_first t ts xs ys is closes in
    absurd (shut (b.closes ∙ ap (λ us. flats us ++ Token.closing ∷ []) (none_begins b.others ys never b.closes)))

pub open_at_once : (k : Keyword) (ts : Placed) (xs : List Token) → ((t : Tree ℕ) (rest : List Token) → xs ≡ flat t ++ rest → ⊥) → Closes xs ts → None ≡ head_atom k (list (bares ts))
open_at_once k ts xs never closes = sym (ap (λ us. head_atom k (list (bares us))) (none_begins ts xs never closes) ∙ nothing_behind k)

pub one_within : {X : Type 0} (o : Option X) (t : Tree ℕ) (xs ys : List Token) → xs ≡ flat t ++ ys → ys ≡ Token.closing ∷ [] → MatchOption o (Unit {0}) (λ x. (ts : Placed) × Closes xs ts)
one_within None t xs ys is shut = tt
one_within (Some x) t xs ys is shut = (t & none, closes_first t none xs ys is shut)

pub two_within : {X : Type 0} (o : Option X) (t u : Tree ℕ) (xs ys zs : List Token) → xs ≡ flat t ++ ys → ys ≡ flat u ++ zs → zs ≡ Token.closing ∷ [] → MatchOption o (Unit {0}) (λ x. (ts : Placed) × Closes xs ts)
two_within None t u xs ys zs is more shut = tt
two_within (Some x) t u xs ys zs is more shut = (t & (u & none), closes_first t (u & none) xs ys is (closes_first u none ys zs more shut))
