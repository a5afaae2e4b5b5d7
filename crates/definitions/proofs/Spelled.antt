-- Words and terms are compared as they are spelled, and each keyword has a spelling of its own.
use Rattle.std.proofs.Common.{◌≡◌, ℕ, ◌↔◌, List, [], ◌∷◌, Some, None, Decides, Option, sym, refl, ap, ◌∙◌}
use Rattle.std.proofs.lemmas.Bool.{cond_both}
use Rattle.std.proofs.lemmas.Bool.Decides.{Decides-and, Decides-like}
use Rattle.std.proofs.lemmas.Slice.Eq.{bytes_eq-Decides}
use Rattle.definitions.specs.Lists.{Same}
use Rattle.definitions.specs.Term.{Tree, none, ◌&◌, Term, Terms}
use Rattle.definitions.specs.Form.{Keyword, spelling, same_word, keywords, among, keyword, same_term, same_terms}
use Rattle.definitions.proofs.Deciding.{decides_never, same_by_key}

pub same_word_decides : (v w : List ℕ) → Decides (same_word v w) (v ≡ w)
same_word_decides = bytes_eq-Decides

mutual
  pub same_term_decides : (t u : Term) → Decides (same_term t u) (t ≡ u)
  same_term_decides (Tree.word p v) (Tree.word q w) = Decides-like _ (λ e. ap (Tree.word p) e) (λ e. cc) (same_word_decides v w)
  same_term_decides (Tree.word p v) (Tree.pair q us) = decides_never (λ e. cc)
  same_term_decides (Tree.pair p ts) (Tree.word q w) = decides_never (λ e. cc)
  same_term_decides (Tree.pair p ts) (Tree.pair q us) = Decides-like _ (λ e. ap (Tree.pair p) e) (λ e. cc) (same_terms_decides ts us)

  same_terms_decides : (ts us : Terms) → Decides (same_terms ts us) (ts ≡ us)
  same_terms_decides none none = ((λ e. refl), λ e. refl)
  same_terms_decides none (u & us) = decides_never (λ e. cc)
  same_terms_decides (t & ts) none = decides_never (λ e. cc)
  same_terms_decides (t & ts) (u & us) =
      Decides-like _ (λ h i. h.0 i & h.1 i) (λ e. (cc, cc)) (Decides-and (same_term t u) (same_terms ts us) (same_term_decides t u) (same_terms_decides ts us))

pub same_term_laws : Same same_term
same_term_laws = same_by_key (λ t. t) same_term same_term_decides

keyword_spelling : (k : Keyword) → keyword (spelling k) ≡ Some k
keyword_spelling Keyword.role = refl
keyword_spelling Keyword.init = refl
keyword_spelling Keyword.true_now = refl
keyword_spelling Keyword.next = refl
keyword_spelling Keyword.legal = refl
keyword_spelling Keyword.does = refl
keyword_spelling Keyword.sees = refl
keyword_spelling Keyword.goal = refl
keyword_spelling Keyword.terminal = refl
keyword_spelling Keyword.knows = refl
keyword_spelling Keyword.distinct = refl
keyword_spelling Keyword.negation = refl
keyword_spelling Keyword.disjunction = refl
keyword_spelling Keyword.arrow = refl

among_spelling : (ks : List Keyword) (w : List ℕ) (k : Keyword) → among ks w ≡ Some k → w ≡ spelling k
among_spelling [] w k = λ e. cc
among_spelling (j ∷ ks) w k =
    cond_both (same_word (spelling j) w) (Some j) (among ks w) (λ o. o ≡ Some k → w ≡ spelling k)
    (λ b e. let f = (same_word_decides (spelling j) w).0 b in let g : j ≡ k = cc in sym f ∙ ap spelling g)
    (λ b e. among_spelling ks w k e)

-- which keyword a word is, and that it is none
pub keyword_names : (w : List ℕ) → ((k : Keyword) → (keyword w ≡ Some k) ↔ (w ≡ spelling k)) × ((keyword w ≡ None) ↔ ((k : Keyword) → w ≡ spelling k → ⊥))
keyword_names w = (
  (λ k. (among_spelling keywords w k, λ e. ap keyword e ∙ keyword_spelling k)),
  (
    (λ e k f. let g = ap keyword f ∙ keyword_spelling k in cc),
    λ h. go h (keyword w) refl,
  ),
)
  where
    go : ((k : Keyword) → w ≡ spelling k → ⊥) → (o : Option Keyword) → keyword w ≡ o → keyword w ≡ None
    go h None e = e
    go h (Some k) e = absurd (h k (among_spelling keywords w k e))
