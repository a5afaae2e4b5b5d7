-- What the steps of a `Reader` come to.
use Rattle.std.proofs.Common.{◌≡◌, ℕ, ◌+◌, ◌-◌, ◌<◌, ◌≤◌, true, List, [], ◌∷◌, ◌++◌, length, get_or, take, drop, sym, ap, ◌∙◌, subst, arith}
use Rattle.std.specs.Prelude.{slice_range}
use Rattle.std.proofs.lemmas.List.{take_more, get_or-drop, length-drop}
use Rattle.std.proofs.lemmas.Bool.{cond-true}
use Rattle.definitions.specs.Text.{Levels, sort, in_words}
use Rattle.definitions.specs.Reading.{Mode, next, step}
use Rattle.text.specs.declared.reader.State.{State}
use Rattle.text.specs.Machine.{mode, Started}

word_goes_on : (text : List ℕ) (start at : ℕ) → start ≤ at → at < length text → slice_range text start (at + 1) ≡ slice_range text start at ++ get_or text at 0 ∷ []
word_goes_on text start at le lt =
    let more : at + 1 - start ≡ at - start + 1 = omega arith in
    let here : start + (at - start) ≡ at = omega arith in
    let within : at - start < length (drop start text) = omega (arith, length-drop start text) in
    ap (λ n. take n (drop start text)) more ∙ take_more (drop start text) (at - start) 0 within ∙ ap (λ x. take (at - start) (drop start text) ++ x ∷ []) (get_or-drop start text (at - start) 0 ∙ ap (λ n. get_or text n 0) here)

pub step_goes_on : (s : State) (start at : ℕ) (text : List ℕ) (b : ℕ) (ls : Levels) → s ≡ State.Word start → Started s at → at < length text → b ≡ get_or text at 0 → in_words (sort b) ≡ true → (step at (mode s at text) ls b ≡ next (mode s (at + 1) text) ls) × Started s (at + 1)
step_goes_on s start at text b ls is begun lt here more =
    let le : start ≤ at = subst (λ t. Started t at) is begun in
    let on : slice_range text start at ++ b ∷ [] ≡ slice_range text start (at + 1) = ap (λ x. slice_range text start at ++ x ∷ []) here ∙ sym (word_goes_on text start at le lt) in
    rw is (cond-true _ _ _ more ∙ ap (λ w. next (Mode.in_word start w) ls) on, omega arith)
