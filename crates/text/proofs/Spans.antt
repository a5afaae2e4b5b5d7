-- How far a term goes, token by token.
use Rattle.std.proofs.Common.{◌≡◌, ℕ, suc, ◌+◌, ◌-◌, ◌<◌, ◌≤◌, List, [], ◌∷◌, ◌++◌, map, length, get_or, drop, sym, refl, ap, ◌∙◌, append_assoc, add_assoc, zero-add, arith, length-append}
use Rattle.std.proofs.lemmas.List.{at_drop_more}
use Rattle.std.proofs.lemmas.Bool.{cond-true, cond-false, eq-eqb, ne_eqb}
use Rattle.definitions.specs.Term.{Tree, Trees, none, ◌&◌}
use Rattle.definitions.specs.Text as text
use Rattle.definitions.specs.Text.{flat, flats}
use Rattle.text.specs.declared.token.Token.{Token}
use Rattle.text.specs.Span.{opened, span, Spans}
use Rattle.text.specs.View.{token}

span_on : (d : ℕ) (t : text.Token) (ts : List text.Token) → (opened d t ≡ 0 → ⊥) → span d (t ∷ ts) ≡ suc (span (opened d t) ts)
span_on d t ts ne = ap suc (cond-false _ _ _ (ne_eqb (opened d t) 0 ne))

span_stops : (d : ℕ) (t : text.Token) (ts : List text.Token) → opened d t ≡ 0 → span d (t ∷ ts) ≡ 1
span_stops d t ts e = ap suc (cond-true _ _ _ (eq-eqb (opened d t) 0 e))

-- a closing bracket under d + 2 others
span_closes : (d : ℕ) (rest : List text.Token) → span (suc (suc d)) (text.Token.closing ∷ rest) ≡ suc (span (suc d) rest)
span_closes d rest =
    let less : suc (suc d) - 1 ≡ suc d = omega arith in
    span_on (suc (suc d)) text.Token.closing rest (λ e. omega arith) ∙ ap (λ n. suc (span n rest)) less

mutual
  -- under d + 1 brackets a term is passed over
  span_flat : (t : Tree ℕ) (d : ℕ) (rest : List text.Token) → span (suc d) (flat t ++ rest) ≡ length (flat t) + span (suc d) rest
  span_flat (Tree.word at w) d rest =
      let one : suc (span (suc d) rest) ≡ 1 + span (suc d) rest = omega arith in
      span_on (suc d) (text.Token.word at w) rest (λ e. omega arith) ∙ one
  span_flat (Tree.pair at ts) d rest =
      let more : suc (length (flats ts) + suc (span (suc d) rest)) ≡ suc (length (flats ts ++ text.Token.closing ∷ [])) + span (suc d) rest = omega (arith, length-append (flats ts) (text.Token.closing ∷ [])) in
      span_on (suc d) (text.Token.opening at) ((flats ts ++ text.Token.closing ∷ []) ++ rest) (λ e. omega arith)
      ∙ ap (λ xs. suc (span (suc (suc d)) xs)) (append_assoc (flats ts) (text.Token.closing ∷ []) rest)
      ∙ ap suc (span_flats ts (suc d) (text.Token.closing ∷ rest))
      ∙ ap (λ n. suc (length (flats ts) + n)) (span_closes d rest)
      ∙ more

  span_flats : (ts : Trees ℕ) (d : ℕ) (rest : List text.Token) → span (suc d) (flats ts ++ rest) ≡ length (flats ts) + span (suc d) rest
  span_flats none d rest = sym (zero-add (span (suc d) rest))
  span_flats (t & ts) d rest =
      ap (span (suc d)) (append_assoc (flat t) (flats ts) rest)
      ∙ span_flat t d (flats ts ++ rest)
      ∙ ap (λ n. length (flat t) + n) (span_flats ts d rest)
      ∙ sym (add_assoc (length (flat t)) (length (flats ts)) (span (suc d) rest))
      ∙ ap (λ n. n + span (suc d) rest) (sym (length-append (flat t) (flats ts)))

pub spans : Spans
spans (Tree.word at w) rest = refl
spans (Tree.pair at ts) rest =
    ap (λ xs. suc (span 1 xs)) (append_assoc (flats ts) (text.Token.closing ∷ []) rest)
    ∙ ap suc (span_flats ts 0 (text.Token.closing ∷ rest))
    ∙ ap suc (sym (length-append (flats ts) (text.Token.closing ∷ [])))

-- one more token is looked at
pub span_more : (tokens : List Token) (i : ℕ) (x : Token) (d e n : ℕ) → i < length tokens → i + span d (map token (drop i tokens)) ≡ n → e ≡ opened d (token (get_or tokens i x)) → (e ≡ 0 → ⊥) → i + 1 + span e (map token (drop (i + 1) tokens)) ≡ n
span_more tokens i x d e n lt sofar is on =
    let rest = map token (drop (i + 1) tokens) in
    let here = at_drop_more (λ ts. span d (map token ts)) tokens i x lt ∙ span_on d (token (get_or tokens i x)) rest (λ z. on (is ∙ z)) ∙ ap (λ k. suc (span k rest)) (sym is) in
    omega (arith, here, sofar)

pub span_here : (tokens : List Token) (i : ℕ) (x : Token) (d e n : ℕ) → i < length tokens → i + span d (map token (drop i tokens)) ≡ n → e ≡ opened d (token (get_or tokens i x)) → e ≡ 0 → i + 1 ≡ n
span_here tokens i x d e n lt sofar is done =
    let here = at_drop_more (λ ts. span d (map token ts)) tokens i x lt ∙ span_stops d (token (get_or tokens i x)) (map token (drop (i + 1) tokens)) (sym is ∙ done) in
    omega (arith, here, sofar)

pub opened_under : (d e i : ℕ) (t : text.Token) → e ≡ opened d t → d ≤ i → e ≤ i + 1
opened_under d e i (text.Token.word at w) is h = omega arith
opened_under d e i (text.Token.opening at) is h = omega arith
opened_under d e i text.Token.closing is h = omega arith
