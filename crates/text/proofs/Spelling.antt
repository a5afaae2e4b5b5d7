-- What is added to the end of a buffer, token by token.
use Rattle.std.proofs.Common.{◌≡◌, ℕ, ◌+◌, ◌<◌, ◌≤◌, Bool, true, false, List, [], ◌∷◌, ◌++◌, map, length, get_or, take, drop, is_err, Ok, Err, Result, sym, ap, ◌∙◌, append_assoc, append-nil, Bor}
use Rattle.std.proofs.lemmas.List.{at_drop_more, at_drop_all, take_at}
use Rattle.std.specs.declared.alloc.AllocError.{AllocError}
use Rattle.definitions.specs.Writing.{is_word, spaced, spelt}
use Rattle.text.specs.declared.token.Token.{Token}
use Rattle.text.specs.Output.{Grown, Appended}
use Rattle.text.specs.View.{token}

pub spaced_after : (old mid new : List ℕ) (at : ℕ) (s : Bor (List ℕ)) (t : Token) (after : Bool) → t ≡ Token.Word at s → after ≡ true → mid ≡ old ++ 32 ∷ [] → new ≡ mid ++ s.now → new ≡ old ++ spaced after (token t)
spaced_after old mid new at s t after is yes_after more end =
    end ∙ ap (λ xs. xs ++ s.now) more ∙ append_assoc old (32 ∷ []) s.now ∙ sym (λ i. old ++ spaced (yes_after i) (token (is i)))

pub spaced_alone : (old mid new : List ℕ) (at : ℕ) (s : Bor (List ℕ)) (t : Token) (after : Bool) → t ≡ Token.Word at s → after ≡ false → mid ≡ old → new ≡ mid ++ s.now → new ≡ old ++ spaced after (token t)
spaced_alone old mid new at s t after is alone same end =
    end ∙ ap (λ xs. xs ++ s.now) same ∙ sym (λ i. old ++ spaced (alone i) (token (is i)))

-- one more token is put
pub spelt_more : (tokens : List Token) (i : ℕ) (d : Token) (after word : Bool) (start old new some : List ℕ) → i < length tokens → old ≡ start ++ some → some ++ spelt after (map token (drop i tokens)) ≡ spelt false (map token tokens) → new ≡ old ++ spaced after (token (get_or tokens i d)) → word ≡ is_word (token (get_or tokens i d)) → (more : List ℕ) × (new ≡ start ++ more) × (more ++ spelt word (map token (drop (i + 1) tokens)) ≡ spelt false (map token tokens))
spelt_more tokens i d after word start old new some lt sofar left put is =
    let x = token (get_or tokens i d) in
    let rest = map token (drop (i + 1) tokens) in (
      some ++ spaced after x,
      put ∙ ap (λ xs. xs ++ spaced after x) sofar ∙ append_assoc start some (spaced after x),
      append_assoc some (spaced after x) (spelt word rest)
          ∙ ap (λ b. some ++ (spaced after x ++ spelt b rest)) is
          ∙ ap (λ xs. some ++ xs) (sym (at_drop_more (λ ts. spelt after (map token ts)) tokens i d lt))
          ∙ left,
    )

pub spelt_all : (tokens : List Token) (i : ℕ) (after : Bool) (start old some : List ℕ) → length tokens ≤ i → old ≡ start ++ some → some ++ spelt after (map token (drop i tokens)) ≡ spelt false (map token tokens) → old ≡ start ++ spelt false (map token tokens)
spelt_all tokens i after start old some done sofar left =
    sofar ∙ ap (λ xs. start ++ xs) (sym (append-nil some) ∙ ap (λ xs. some ++ xs) (sym (at_drop_all (λ ts. spelt after (map token ts)) tokens i done)) ∙ left)

pub taken_back : (r : Result (Unit {0}) AllocError) (old new end more : List ℕ) (len : ℕ) → Grown r old new more → is_err r ≡ true → length old ≡ len → end ≡ take len new → Appended r old end more
taken_back (Ok u) old new end more len h e long cut = cc
taken_back (Err x) old new end more len h e long cut = cut ∙ ap (take len) h.1 ∙ take_at old h.0 len long

pub all_added : (r : Result (Unit {0}) AllocError) (old new more : List ℕ) → Grown r old new more → is_err r ≡ false → Appended r old new more
all_added (Ok u) old new more h e = h
all_added (Err x) old new more h e = cc
