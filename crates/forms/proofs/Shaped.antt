-- A term by what comes first in it.
use Rattle.std.proofs.Common.{◌≡◌, ℕ, Bool, true, false, ◌&&◌, List, [], ◌∷◌, map, Some, None, Option, is_none, sym, refl, ap, ◌∙◌, subst, Bor}
use Rattle.std.specs.Bool.{then_some}
use Rattle.std.specs.Option.{option_map}
use Rattle.std.proofs.lemmas.Bool.{cond-false, cond-true}
use Rattle.definitions.specs.Form.{Keyword, Atom, spelling, keyword, same_word, led_by, list, when, is_term, plain, no_keyword, word_atom, an_atom, a_knows, Literal, atom, a_not, map_some}
use Rattle.definitions.specs.Term as terms
use Rattle.definitions.specs.Term.{Tree, none, ◌&◌, bare, bares}
use Rattle.definitions.proofs.Spelled.{keyword_names, same_word_decides}
use Rattle.text.specs.declared.term.Parts.{Parts}
use Rattle.text.specs.declared.term.Term.{Term}
use Rattle.text.specs.declared.term.Terms.{Terms}
use Rattle.text.specs.Terms.{tree, trees, left, listed, PartsAre}
use Rattle.forms.specs.declared.shape.Shape.{Shape}
use Rattle.forms.specs.Args.{only}
use Rattle.forms.specs.Shapes.{PairIs, ShapeIs}
use Rattle.forms.specs.declared.keyword.Keyword as src
use Rattle.forms.specs.View.{keyword_view, terms_view}
use Rattle.forms.proofs.Listed.{listed_bare}

pub pair_shaped : (s : Shape) (t : Tree ℕ) (ts : Terms) → PartsAre (Parts.Pair ts) t → PairIs s (terms_view ts) → ShapeIs s (bare t)
pair_shaped s (Tree.word at w) ts is h = absurd is
pair_shaped s (Tree.pair at us) ts is h = subst (PairIs s) (listed_bare (trees ts) ∙ ap (λ vs. list (bares vs)) (sym is)) h

pub unlike : (w : List ℕ) (k : Keyword) → keyword w ≡ None → same_word (spelling k) w ≡ false
unlike w k e = go (same_word (spelling k) w) (λ same. (keyword_names w).1.0 e k (sym ((same_word_decides (spelling k) w).0 same)))
  where
    go : (b : Bool) → (b ≡ true → ⊥) → b ≡ false
    go true h = absurd (h refl)
    go false h = refl

pub pair_unled : (w : Bor (List ℕ)) (rest : Terms) (u : terms.Term) → ShapeIs (Shape.Pair w rest) u → None ≡ keyword w.now → (k : Keyword) → led_by k u ≡ None
pair_unled w rest (Tree.word p v) is e k = absurd is
pair_unled w rest (Tree.pair p none) is e k = cc
pair_unled w rest (Tree.pair p (Tree.pair q us & ts)) is e k = refl
pair_unled w rest (Tree.pair p (Tree.word q v & ts)) is e k =
    let same : v ≡ w.now = cc in
    cond-false _ _ _ (ap (same_word (spelling k)) same ∙ unlike w.now k (sym e))

pub pair_led : (w : Bor (List ℕ)) (rest : Terms) (u : terms.Term) (k : Keyword) → ShapeIs (Shape.Pair w rest) u → Some k ≡ keyword w.now → led_by k u ≡ Some (terms_view rest)
pair_led w rest (Tree.word p v) k is e = absurd is
pair_led w rest (Tree.pair p none) k is e = cc
pair_led w rest (Tree.pair p (Tree.pair q us & ts)) k is e = cc
pair_led w rest (Tree.pair p (Tree.word q v & ts)) k is e =
    let same : v ≡ w.now = cc in
    let others : list ts ≡ terms_view rest = cc in
    let spelt : spelling k ≡ v = sym (((keyword_names w.now).0 k).0 (sym e)) ∙ sym same in
    cond-true _ _ _ ((same_word_decides (spelling k) v).1 spelt) ∙ ap Some others

pub not_only : (ts rest : Terms) (x : Term) → left ts ≡ tree x ∷ left rest → (trees rest ≡ none → ⊥) → None ≡ only (terms_view ts)
not_only ts rest x is some = go (trees rest) some ∙ ap (λ us. only (map bare us)) (sym is)
  where
    go : (us : terms.Placed) → (us ≡ none → ⊥) → None ≡ only (map bare (tree x ∷ listed us))
    go none h = absurd (h refl)
    go (u & us) h = refl

-- a word is plain if it is no keyword
pub plain_word : (w : Bor (List ℕ)) (u : terms.Term) (r : Option src.Keyword) → ShapeIs (Shape.Word w) u → option_map keyword_view r ≡ keyword w.now → is_none r ≡ plain u
plain_word w (Tree.pair p ts) r is e = absurd is
plain_word w (Tree.word p v) r is e = named r e ∙ ap (λ x. no_keyword (Some x)) (sym is)
  where
    named : (r : Option src.Keyword) → option_map keyword_view r ≡ keyword w.now → is_none r ≡ no_keyword (Some w.now)
    named None e = ap (λ o. elim o [ None ↦ true | Some k ↦ false ]) e
    named (Some k) e = ap (λ o. elim o [ None ↦ true | Some k ↦ false ]) e

-- a word alone is an atom by its keyword
pub atom_word : (f : Keyword → List terms.Term → Option (Atom terms.Term)) (w : Bor (List ℕ)) (u : terms.Term) (k : Option Keyword) → ShapeIs (Shape.Word w) u → k ≡ keyword w.now → word_atom k u ≡ an_atom f u
atom_word f w (Tree.pair p ts) k is e = absurd is
atom_word f w (Tree.word p v) k is e = ap (λ o. word_atom o (Tree.word tt v)) (e ∙ ap keyword (sym is))

pub knows_two : (ts rest : Terms) (x y : Term) → left ts ≡ tree x ∷ left rest → Some (bare (tree y)) ≡ only (terms_view rest) → a_knows (terms_view ts) ≡ when (is_term (bare (tree x)) && plain (bare (tree y))) (Atom.knows (bare (tree x)) (bare (tree y)))
knows_two ts rest x y is one = ap (λ us. a_knows (map bare us)) is ∙ go (terms_view rest) one
  where
    go : (us : List terms.Term) → Some (bare (tree y)) ≡ only us → a_knows (bare (tree x) ∷ us) ≡ when (is_term (bare (tree x)) && plain (bare (tree y))) (Atom.knows (bare (tree x)) (bare (tree y)))
    go [] e = cc
    go (u ∷ []) e = let same : u ≡ bare (tree y) = cc in ap (λ v. when (is_term (bare (tree x)) && plain v) (Atom.knows (bare (tree x)) v)) same
    go (u ∷ v ∷ us) e = cc

pub knows_more : (ts rest : Terms) (x : Term) → left ts ≡ tree x ∷ left rest → (trees rest ≡ none → ⊥) → None ≡ only (terms_view rest) → a_knows (terms_view ts) ≡ None
knows_more ts rest x is some e = ap (λ us. a_knows (map bare us)) is ∙ go (trees rest) some e
  where
    go : (us : terms.Placed) → (us ≡ none → ⊥) → None ≡ only (map bare (listed us)) → a_knows (bare (tree x) ∷ map bare (listed us)) ≡ None
    go none h e = absurd (h refl)
    go (u & none) h e = cc
    go (u & (v & us)) h e = refl

pub not_one : (ts : List terms.Term) (u : terms.Term) → Some u ≡ only ts → a_not ts ≡ map_some Literal.negated (atom u)
not_one [] u e = cc
not_one (t ∷ []) u e = let same : t ≡ u = cc in ap (λ x. map_some Literal.negated (atom x)) same
not_one (t ∷ v ∷ ts) u e = cc

pub when_made : {X Y : Type 0} (f : X → Y) (b : Bool) (x : X) → option_map f (then_some b x) ≡ when b (f x)
when_made f true x = refl
when_made f false x = refl
