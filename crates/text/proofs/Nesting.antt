-- What the calls of a `Nest` make of its levels.
use Rattle.std.proofs.Common.{◌≡◌, ℕ, suc, ◌+◌, ◌-◌, ◌<◌, Bool, true, false, List, [], ◌∷◌, ◌++◌, map, length, Some, take, if◌then◌else◌, sym, refl, ap, ◌∙◌, append_assoc, add-one, arith}
use Rattle.std.proofs.lemmas.List.{map_push, length_push, take_at, take_more, take_all}
use Rattle.std.proofs.lemmas.Option.{slice_get_within, get_or_from_slice_get}
use Rattle.std.specs.List.{slice_get}
use Rattle.definitions.specs.Refusal.{accepted}
use Rattle.definitions.specs.Term.{Tree, Placed, none, ◌&◌}
use Rattle.definitions.specs.Text.{Levels, outer, inner, spread, flat, flats, open_brackets, in_text}
use Rattle.definitions.specs.Text as text
use Rattle.definitions.specs.Reading.{Mode, next, add, shut, ended}
use Rattle.definitions.proofs.Levels.{spread_add}
use Rattle.text.specs.declared.nest.Nest.{Nest}
use Rattle.text.specs.declared.token.Token.{Token}
use Rattle.text.specs.Nesting.{nesting}
use Rattle.text.specs.Spelt.{put, levels, opens, places, fresh}
use Rattle.text.specs.View.{token}
use Rattle.text.proofs.Spelt.{levels_push}

places_add : (ls : Levels) (t : Tree ℕ) → places (add ls t) ≡ places ls
places_add (outer ts) t = refl
places_add (inner ls at ts) t = refl

fresh_add : (ls : Levels) (t : Tree ℕ) → fresh (add ls t) ≡ false
fresh_add (outer ts) t = refl
fresh_add (inner ls at none) t = refl
fresh_add (inner ls at (u & ts)) t = refl

pub places_count : (ls : Levels) → length (places ls) ≡ open_brackets ls
places_count (outer ts) = refl
places_count (inner ls at ts) = length_push (places ls) at ∙ add-one (length (places ls)) ∙ ap suc (places_count ls)

pub opens_count : (n : Nest) → length n.opens.items ≡ open_brackets (nesting n)
opens_count n = ap length n.placed ∙ places_count (nesting n)

-- one more token
pub levels_more : (xs ys : List Token) (x : Token) → ys ≡ xs ++ x ∷ [] → levels (map token ys) ≡ put (levels (map token xs)) (token x)
levels_more xs ys x is = ap (λ zs. levels (map token zs)) is ∙ ap levels (map_push token xs x) ∙ levels_push (map token xs) (token x)

-- what is kept of the tokens of a nest and of the places of its open brackets
pub record Kept (xs : List Token) (opens : List ℕ) : Type 0 where
  pub spelt : map token xs ≡ spread (levels (map token xs))
  pub placed : opens ≡ places (levels (map token xs))

kept : (xs ys : List Token) (x : Token) (old new : List ℕ) → Kept xs old → ys ≡ xs ++ x ∷ [] → spread (levels (map token xs)) ++ token x ∷ [] ≡ spread (put (levels (map token xs)) (token x)) → new ≡ places (put (levels (map token xs)) (token x)) → Kept ys new
kept xs ys x old new h is grown at = record {
  spelt = ap (map token) is ∙ map_push token xs x ∙ ap (λ zs. zs ++ token x ∷ []) h.spelt ∙ grown ∙ ap spread (sym (levels_more xs ys x is));
  placed = at ∙ ap places (sym (levels_more xs ys x is));
}

-- one more word, if there is memory for it
pub word_kept : (xs ys : List Token) (x : Token) (at : ℕ) (w opens : List ℕ) (b : Bool) → Kept xs opens → ys ≡ if b then xs ++ x ∷ [] else xs → token x ≡ text.Token.word at w → Kept ys opens
word_kept xs ys x at w opens true h is word =
    let ls = levels (map token xs) in
    kept xs ys x opens opens h is (rw word (sym (spread_add ls (Tree.word at w)))) (rw word (h.placed ∙ sym (places_add ls (Tree.word at w))))
word_kept xs ys x at w opens false h is word = rw is h

pub open_kept : (xs ys : List Token) (at : ℕ) (old new : List ℕ) → Kept xs old → ys ≡ xs ++ Token.Open at ∷ [] → new ≡ old ++ at ∷ [] → Kept ys new
open_kept xs ys at old new h is more = kept xs ys (Token.Open at) old new h is refl (more ∙ ap (λ os. os ++ at ∷ []) h.placed)

pub close_kept : (xs ys : List Token) (old new : List ℕ) → Kept xs old → 0 < length old → ys ≡ xs ++ Token.Close ∷ [] → new ≡ take (length old - 1) old → Kept ys new
close_kept xs ys old new h some is fewer = go (levels (map token xs)) refl
  where
    go : (ls : Levels) → levels (map token xs) ≡ ls → Kept ys new
    go (outer ts) from = absurd (omega (arith, some, ap length (h.placed ∙ ap places from)))
    go (inner ls at ts) from =
        let p : Tree ℕ = Tree.pair at ts in
        let was : old ≡ places ls ++ at ∷ [] = h.placed ∙ ap places from in
        let one : length (places ls) ≡ length (places ls ++ at ∷ []) - 1 = omega (arith, length_push (places ls) at) in
        kept xs ys Token.Close old new h is
        (rw from (append_assoc (spread ls) (text.Token.opening at ∷ flats ts) (text.Token.closing ∷ []) ∙ sym (spread_add ls p)))
        (rw from (fewer ∙ ap (λ os. take (length os - 1) os) was ∙ take_at (places ls) (at ∷ []) _ one ∙ sym (places_add ls p)))

pub shut_filled : (at : ℕ) (ls : Levels) → 0 < length (places ls) → fresh ls ≡ false → shut at ls ≡ next Mode.between (put ls text.Token.closing)
shut_filled at (outer ts) some e = absurd (omega arith)
shut_filled at (inner ls from none) some e = cc
shut_filled at (inner ls from (t & ts)) some e = refl

-- the innermost bracket has no term yet exactly if the last token opens it
fresh_put : (ls : Levels) (t : text.Token) → fresh (put ls t) ≡ opens t
fresh_put ls (text.Token.word at w) = fresh_add ls (Tree.word at w)
fresh_put ls (text.Token.opening at) = refl
fresh_put (outer ts) text.Token.closing = refl
fresh_put (inner ls at ts) text.Token.closing = fresh_add ls (Tree.pair at ts)

pub fresh_last : (xs : List Token) (x : Token) → slice_get xs (length xs - 1) ≡ Some x → opens (token x) ≡ fresh (levels (map token xs))
fresh_last xs x is =
    let within : length xs - 1 < length xs = slice_get_within xs (length xs - 1) x is in
    let one : length xs ≡ length xs - 1 + 1 = omega arith in
    let whole : xs ≡ take (length xs - 1) xs ++ x ∷ [] = sym (take_all (length xs) xs (omega arith)) ∙ ap (λ n. take n xs) one ∙ take_more xs (length xs - 1) x within ∙ ap (λ y. take (length xs - 1) xs ++ y ∷ []) (get_or_from_slice_get xs (length xs - 1) x x is) in
    sym (ap fresh (levels_more (take (length xs - 1) xs) xs x whole) ∙ fresh_put _ (token x))

pub ended_closed : (ls : Levels) → length (places ls) ≡ 0 → (us : Placed) × (ended ls ≡ accepted us) × (spread ls ≡ flats us)
ended_closed (outer ts) few = (ts, refl, refl)
ended_closed (inner ls at ts) few = absurd (omega (arith, length_push (places ls) at))
