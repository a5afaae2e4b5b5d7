-- What the tokens of a term begin with, and what they come to.
use Rattle.std.proofs.Common.{◌≡◌, ℕ, Bool, true, false, ◌&&◌, List, [], ◌∷◌, ◌++◌, map, length, Some, None, Ok, Err, Option, Result, MatchOption, OnOk, sym, refl, ap, ◌∙◌, subst, append-nil, arith, Decides, ◌==◌}
use Rattle.std.specs.Bool.{then_some}
use Rattle.std.specs.Option.{ok_or, option_map}
use Rattle.std.proofs.lemmas.Bool.{cond-true, cond-false, ne_eqb}
use Rattle.definitions.specs.Form as form
use Rattle.definitions.specs.Form.{Keyword, a_declaration, a_rule, head_atom, map_some, is_term, keyword, leading, led_by, list, spelling, when}
use Rattle.definitions.specs.Term as terms
use Rattle.definitions.specs.Term.{Tree, none, ◌&◌, Placed, bare, bares}
use Rattle.definitions.specs.Text.{Token, flat, flats}
use Rattle.definitions.proofs.Spelled.{keyword_names, same_word_decides}
use Rattle.text.specs.declared.term.Term.{Term}
use Rattle.text.specs.declared.token.Token as src
use Rattle.text.specs.Spelt as spelt
use Rattle.text.specs.Terms.{tree}
use Rattle.text.specs.View.{token}
use Rattle.text.proofs.Spelt.{term_flat, is_term as a_term}
use Rattle.forms.specs.declared.fault.FormFault.{FormFault}
use Rattle.forms.specs.declared.atom.Atom.{Atom}
use Rattle.forms.specs.declared.body.Body.{Body}
use Rattle.forms.specs.declared.form.Form.{Form}
use Rattle.forms.specs.Atoms.{atom_view}
use Rattle.forms.specs.Bodies.{body_view}
use Rattle.forms.specs.Args.{one_term}
use Rattle.forms.specs.Formed.{FormIs, bodiless, form_view, led_form, of_head, rule_view}
use Rattle.forms.specs.Headed.{all_headed}
use Rattle.forms.specs.Tokens.{front, one_word, Closes, WholeIs}
use Rattle.forms.specs.declared.keyword.Keyword as src_keyword
use Rattle.forms.specs.View.{keyword_view, term_view}
use Rattle.forms.proofs.Formed.{led_form_is}
use Rattle.forms.proofs.Headed.{term_headed}
use Rattle.forms.proofs.Shaped.{unlike, when_made}
use Rattle.forms.proofs.Streamed.{behind_first, closed_none, closes_first, none_begins, same_first}

pub same_whole : (t u : Tree ℕ) (xs : List Token) → xs ≡ flat t → xs ≡ flat u → t ≡ u
same_whole t u xs here there = sym (term_flat t) ∙ ap spelt.term (sym here ∙ there) ∙ term_flat u

pub whole_none : (r : Option Term) (xs : List Token) → r ≡ None → ((t : Tree ℕ) (rest : List Token) → xs ≡ flat t ++ rest → ⊥) → WholeIs r xs
whole_none r xs e never = subst (λ o. WholeIs o xs) (sym e) (λ u is. never u [] (is ∙ sym (append-nil (flat u))))

-- the term that tokens begin with is all of them if none is left
pub whole_is : (r : Option Term) (b : Bool) (t : Term) (xs : List Token) (others : List src.Token) → r ≡ then_some b t → b ≡ (length others == 0) → xs ≡ flat (tree t) ++ map token others → WholeIs r xs
whole_is r b t xs others made e is = subst (λ o. WholeIs o xs) (sym made) (go others e is)
  where
    go : (ys : List src.Token) → b ≡ (length ys == 0) → xs ≡ flat (tree t) ++ map token ys → WholeIs (then_some b t) xs
    go [] e is = subst (λ c. WholeIs (then_some c t) xs) (sym e) (is ∙ append-nil (flat (tree t)))
    go (y ∷ ys) e is = subst (λ c. WholeIs (then_some c t) xs) (sym (e ∙ ne_eqb (length (y ∷ ys)) 0 (λ z. omega arith))) (λ u there.
        let same = same_first (tree t) u (token y ∷ map token ys) [] (sym is ∙ there ∙ sym (append-nil (flat u))) in
        absurd (omega (arith, ap length same.others)))

decided_false : {P : Type 0} (b : Bool) → Decides b P → (P → ⊥) → b ≡ false
decided_false true d never = absurd (never (d.0 refl))
decided_false false d never = refl

not_closed : (u : Tree ℕ) (us : Placed) (xs : List Token) → Closes xs (u & us) → xs ≡ Token.closing ∷ [] → ⊥
not_closed u us xs closes is = go (closed_none (u & us) xs is closes)
  where
    go : u & us ≡ none → ⊥
    go e = cc

-- the closing bracket comes behind the first of the terms exactly if there is no other
pub one_declared : (t : Term) (ts : Placed) (xs ys : List Token) (b : Bool) → xs ≡ flat (tree t) ++ ys → Decides b (ys ≡ Token.closing ∷ []) → Closes xs ts → option_map term_view (then_some (b && is_term (term_view t)) t) ≡ one_term (list (bares ts))
one_declared t ts xs ys b is closed closes =
    let p = behind_first (tree t) ts xs ys is closes in
    go p.others p.closes ∙ ap (λ us. one_term (list (bares us))) (sym p.split)
  where
    go : (us : Placed) → Closes ys us → option_map term_view (then_some (b && is_term (term_view t)) t) ≡ one_term (list (bares (tree t & us)))
    go none c = ap (λ k. option_map term_view (then_some (k && is_term (term_view t)) t)) (closed.1 c) ∙ when_made term_view (is_term (term_view t)) t
    go (u & us) c = ap (λ k. option_map term_view (then_some (k && is_term (term_view t)) t)) (decided_false b closed (not_closed u us ys c))

pub none_declared : (ts : Placed) (xs : List Token) → ((t : Tree ℕ) (rest : List Token) → xs ≡ flat t ++ rest → ⊥) → Closes xs ts → None ≡ one_term (list (bares ts))
none_declared ts xs never closes = ap (λ us. one_term (list (bares us))) (sym (none_begins ts xs never closes))

pub declared_whole : (t : Term) (xs ys : List Token) (b c : Bool) → xs ≡ flat (tree t) ++ ys → Decides b (ys ≡ Token.closing ∷ []) → MatchOption (then_some (b && c) t) (Unit {0}) (λ u. (ts : Placed) × Closes xs ts)
declared_whole t xs ys false c is closed = tt
declared_whole t xs ys true false is closed = tt
declared_whole t xs ys true true is closed = (tree t & none, closes_first (tree t) none xs ys is (closed.0 refl))

-- a pair that a word comes first in
pub record Opened (u : Tree ℕ) (w : List ℕ) (ys : List Token) : Type 0 where
  pub behind : Placed
  pub same : bare u ≡ Tree.pair tt (Tree.word tt w & bares behind)
  pub closes : Closes ys behind

pairs : (v w : List ℕ) (xs ys : List Token) → ◌≡◌ {A = Option (List ℕ × List Token)} (Some (v, xs)) (Some (w, ys)) → (v ≡ w) × (xs ≡ ys)
pairs v w xs ys e =
    let same : ◌≡◌ {A = List ℕ × List Token} (v, xs) (w, ys) = cc in
    (ap (λ p. p.0) same, ap (λ p. p.1) same)

pub opened : (u : Tree ℕ) (w : List ℕ) (ys : List Token) → front (flat u) ≡ Some (w, ys) → Opened u w ys
opened (Tree.word at v) w ys e = cc
opened (Tree.pair at none) w ys e = cc
opened (Tree.pair at (Tree.pair q us & ts)) w ys e = cc
opened (Tree.pair at (Tree.word q v & ts)) w ys e =
    let p = pairs v w (flats ts ++ Token.closing ∷ []) ys e in
    record { behind = ts; same = ap (λ x. Tree.pair tt (Tree.word tt x & bares ts)) p.0; closes = sym p.1 }

pub front_whole : (xs : List Token) (w : List ℕ) (ys : List Token) (ts : Placed) → front xs ≡ Some (w, ys) → Closes ys ts → spelt.IsTerm xs
front_whole [] w ys ts e closes = cc
front_whole (Token.word p v ∷ xs) w ys ts e closes = cc
front_whole (Token.closing ∷ xs) w ys ts e closes = cc
front_whole (Token.opening p ∷ []) w ys ts e closes = cc
front_whole (Token.opening p ∷ Token.opening q ∷ xs) w ys ts e closes = cc
front_whole (Token.opening p ∷ Token.closing ∷ xs) w ys ts e closes = cc
front_whole (Token.opening p ∷ Token.word q v ∷ xs) w ys ts e closes =
    a_term _ (Tree.pair p (Tree.word q v & ts)) (ap (λ zs. Token.opening p ∷ Token.word q v ∷ zs) ((pairs v w xs ys e).1 ∙ closes))

-- a pair that no word comes first in is no form
pub unopened : (u : Tree ℕ) → front (flat u) ≡ None → false ≡ one_word (flat u) → form.form (bare u) ≡ None
unopened (Tree.word at w) e alone = cc
unopened (Tree.pair at none) e alone = refl
unopened (Tree.pair at (Tree.pair q us & ts)) e alone = refl
unopened (Tree.pair at (Tree.word q w & ts)) e alone = cc

pub word_alone : (u : Tree ℕ) → front (flat u) ≡ None → true ≡ one_word (flat u) → form.form (bare u) ≡ bodiless (bare u)
word_alone (Tree.word at w) e alone = refl
word_alone (Tree.pair at none) e alone = cc
word_alone (Tree.pair at (Tree.pair q us & ts)) e alone = cc
word_alone (Tree.pair at (Tree.word q w & ts)) e alone = cc

led_word : (w : List ℕ) (k : Keyword) (ts : terms.Terms) → keyword w ≡ Some k → led_by k (Tree.pair tt (Tree.word tt w & ts)) ≡ Some (list ts)
led_word w k ts e =
    let spells : spelling k ≡ w = sym (((keyword_names w).0 k).0 e) in
    cond-true _ _ _ ((same_word_decides (spelling k) w).1 spells)

-- the form of a pair, by its keyword
pub form_led : (u : Tree ℕ) (w : List ℕ) (k : Keyword) (ts : Placed) → bare u ≡ Tree.pair tt (Tree.word tt w & bares ts) → keyword w ≡ Some k → form.form (bare u) ≡ led_form k (list (bares ts)) (bare u)
form_led u w k ts is e = sym (led_form_is k (list (bares ts)) (bare u) (ap (led_by k) is ∙ led_word w k (bares ts) e))

unled : (w : List ℕ) (k : Keyword) (ts : terms.Terms) → keyword w ≡ None → led_by k (Tree.pair tt (Tree.word tt w & ts)) ≡ None
unled w k ts e = cond-false _ _ _ (unlike w k e)

-- and without one
pub form_unled : (w : List ℕ) (ts : terms.Terms) → keyword w ≡ None → form.form (Tree.pair tt (Tree.word tt w & ts)) ≡ bodiless (Tree.pair tt (Tree.word tt w & ts))
form_unled w ts e = rw (unled w Keyword.role ts e, unled w Keyword.init ts e, unled w Keyword.arrow ts e) refl

pub led_head : (w : List ℕ) (k : Keyword) (ts : terms.Terms) → keyword w ≡ Some k → bodiless (Tree.pair tt (Tree.word tt w & ts)) ≡ of_head (head_atom k (list ts))
led_head w k ts e = rw e refl

pub head_made : (b : Body) (a : Atom Term) (o : Option (form.Atom terms.Term)) → body_view b ≡ [] → Some (atom_view a) ≡ o → of_head o ≡ Some (form.Form.rules (rule_view (record { head = a; body = b })))
head_made b a o empty is = ap of_head (sym is) ∙ ap (λ ps. Some (form.Form.rules (record { head = atom_view a; parts = ps }))) (sym empty)

plain_head : (w : List ℕ) (ts : terms.Terms) → keyword w ≡ None → form.head (Tree.pair tt (Tree.word tt w & ts)) ≡ when (is_term (Tree.pair tt (Tree.word tt w & ts))) (form.Atom.fact (Tree.pair tt (Tree.word tt w & ts)))
plain_head w ts e = rw e refl

-- a plain fact is a head exactly if each of its pairs has a word first and at least one more term
pub plain_is : (u : Tree ℕ) (w : List ℕ) (xs : List Token) (b : Bool) → leading (bare u) ≡ Some w → keyword w ≡ None → b ≡ all_headed xs → xs ≡ flat u → form.head (bare u) ≡ when b (form.Atom.fact (bare u))
plain_is (Tree.word at v) w xs b first named e is =
    let same : v ≡ w = cc in
    ap (λ o. form.word_atom o (Tree.word tt v)) (ap keyword same ∙ named) ∙ ap (λ c. when c (form.Atom.fact (Tree.word tt v))) (sym (e ∙ term_headed xs (Tree.word at v) is))
plain_is (Tree.pair at none) w xs b first named e is = cc
plain_is (Tree.pair at (Tree.pair q us & ts)) w xs b first named e is = cc
plain_is (Tree.pair at (Tree.word q v & ts)) w xs b first named e is =
    let same : v ≡ w = cc in
    plain_head v (bares ts) (ap keyword same ∙ named) ∙ ap (λ c. when c (form.Atom.fact (bare (Tree.pair at (Tree.word q v & ts))))) (sym (e ∙ term_headed xs (Tree.pair at (Tree.word q v & ts)) is))

declared_by : (f : terms.Term → form.Form) (ts : List terms.Term) → a_declaration f ts ≡ map_some f (one_term ts)
declared_by f [] = refl
declared_by f (t ∷ []) = go (is_term t)
  where
    go : (b : Bool) → when b (f t) ≡ map_some f (when b t)
    go true = refl
    go false = refl
declared_by f (t ∷ u ∷ ts) = refl

pub some_left : (b : Bool) (us : Placed) (xs : List Token) → Decides b (xs ≡ Token.closing ∷ []) → b ≡ false → Closes xs us → us ≡ none → ⊥
some_left b us xs closed more closes e =
    let z : true ≡ false = sym (closed.1 (closes ∙ ap (λ vs. flats vs ++ Token.closing ∷ []) e)) ∙ more in
    cc

made_by : (f : terms.Term → form.Form) (g : Term → Form) (r : Option Term) (us : List terms.Term) → ((t : Term) → form_view (g t) ≡ f (term_view t)) → option_map term_view r ≡ one_term us → FormIs (ok_or (option_map g r) FormFault.Broken) (a_declaration f us)
made_by f g None us views only = declared_by f us ∙ ap (map_some f) (sym only)
made_by f g (Some t) us views only = declared_by f us ∙ ap (map_some f) (sym only) ∙ ap Some (sym (views t))

pub declares_is : (o : Result Form FormFault) (r : Option Term) (us : List terms.Term) → o ≡ ok_or (option_map Form.Declares r) FormFault.Broken → option_map term_view r ≡ one_term us → FormIs o (a_declaration form.Form.declares us)
declares_is o r us made only = subst (λ p. FormIs p (a_declaration form.Form.declares us)) (sym made) (made_by form.Form.declares Form.Declares r us (λ t. refl) only)

pub opens_is : (o : Result Form FormFault) (r : Option Term) (us : List terms.Term) → o ≡ ok_or (option_map Form.Opens r) FormFault.Broken → option_map term_view r ≡ one_term us → FormIs o (a_declaration form.Form.opens us)
opens_is o r us made only = subst (λ p. FormIs p (a_declaration form.Form.opens us)) (sym made) (made_by form.Form.opens Form.Opens r us (λ t. refl) only)

pub made_within : (o : Result Form FormFault) (g : Term → Form) (r : Option Term) (P : Type 0) → o ≡ ok_or (option_map g r) FormFault.Broken → MatchOption r (Unit {0}) (λ t. P) → OnOk o P
made_within o g None P made h = subst (λ p. OnOk p P) (sym made) tt
made_within o g (Some t) P made h = subst (λ p. OnOk p P) (sym made) h

pub rule_within : (r : Result Form FormFault) (xs ys : List Token) (w : List ℕ) → front xs ≡ Some (w, ys) → OnOk r ((ts : Placed) × Closes ys ts) → OnOk r (spelt.IsTerm xs)
rule_within (Ok f) xs ys w e p = front_whole xs w ys p.0 e p.1
rule_within (Err f) xs ys w e p = tt

-- a keyword that is no declaration's and not the rule's leads a head alone
pub led_bodiless : (k : src_keyword.Keyword) (ts : List terms.Term) (t : terms.Term) → (k ≡ src_keyword.Keyword.Role → ⊥) → (k ≡ src_keyword.Keyword.Init → ⊥) → (k ≡ src_keyword.Keyword.Arrow → ⊥) → led_form (keyword_view k) ts t ≡ bodiless t
led_bodiless src_keyword.Keyword.Role ts t a b c = absurd (a refl)
led_bodiless src_keyword.Keyword.Init ts t a b c = absurd (b refl)
led_bodiless src_keyword.Keyword.True ts t a b c = refl
led_bodiless src_keyword.Keyword.Next ts t a b c = refl
led_bodiless src_keyword.Keyword.Legal ts t a b c = refl
led_bodiless src_keyword.Keyword.Does ts t a b c = refl
led_bodiless src_keyword.Keyword.Sees ts t a b c = refl
led_bodiless src_keyword.Keyword.Goal ts t a b c = refl
led_bodiless src_keyword.Keyword.Terminal ts t a b c = refl
led_bodiless src_keyword.Keyword.Knows ts t a b c = refl
led_bodiless src_keyword.Keyword.Distinct ts t a b c = refl
led_bodiless src_keyword.Keyword.Not ts t a b c = refl
led_bodiless src_keyword.Keyword.Or ts t a b c = refl
led_bodiless src_keyword.Keyword.Arrow ts t a b c = absurd (c refl)

pub head_within : {X : Type 0} (o : Option X) (a : X) (P : Type 0) → o ≡ Some a → MatchOption o (Unit {0}) (λ x. P) → P
head_within None a P e h = cc
head_within (Some x) a P e h = h
