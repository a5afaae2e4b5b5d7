-- Each text is read, in one way, or refused, in one way, and never both.
use Rattle.std.proofs.Common.{◌≡◌, ℕ, ◌≤◌, true, leb, List, [], ◌∷◌, length, sym, refl, ap, ◌∙◌, append-nil, zero-add, arith}
use Rattle.std.proofs.lemmas.Bool.{cond-true, cond-false, cond_both, le-leb, lt-leb, leb-true, leb-false, le-ltb}
use Rattle.definitions.specs.Refusal.{Refusal, Verdict, accepted, refused, AtVerdict}
use Rattle.definitions.specs.Term.{Tree, none, Placed}
use Rattle.definitions.specs.Text.{Sort, sort, in_words, Piece, Stand, stand, Levels, outer, open_brackets, Begins, Outside, Meets, Reads, Refused, too_long, odd_byte, variable, unopened, empty_pair, ninth_open, unclosed}
use Rattle.definitions.specs.Reading.{Mode, stop, add, settle, mark, step, ended, reading, verdict, OnlyRead, OnlyRefused, Decided}
use Rattle.definitions.proofs.Stands.{stand_in, Free, free_between}
use Rattle.definitions.proofs.Sofar.{at_piece}
use Rattle.definitions.proofs.Sound.{reading_judged}
use Rattle.definitions.proofs.Steps.{reading_by}
use Rattle.definitions.proofs.Complete.{front_goes}

pub short_verdict : (text : List ℕ) → length text ≤ 32768 → verdict text ≡ reading 0 Mode.between (outer none) text
short_verdict text short = cond-true _ _ _ (le-leb _ _ short)

ended_verdict : {text : List ℕ} {ps : List Piece} {ls : Levels} → length text ≤ 32768 → Begins text ps ls → verdict text ≡ ended ls
ended_verdict {text} short h =
    let end = front_goes h in
    short_verdict text short ∙ ap (reading 0 Mode.between (outer none)) (sym (append-nil text)) ∙ end.reads [] ∙ ap ended end.settles

step_marks : (at : ℕ) (m : Mode) (ls : Levels) (b : ℕ) → Free (stand_in m) → (in_words (sort b) ≡ true → stand_in m ≡ Stand.between) → step at m ls b ≡ mark at b (settle m ls) (sort b)
step_marks at Mode.between ls b free apart = refl
step_marks at (Mode.in_word from w) ls b free apart = cond_both (in_words (sort b)) _ _ (λ s. s ≡ mark at b (add ls (Tree.word from w)) (sort b)) (λ e. let never = apart e in cc) (λ e. refl)
step_marks at Mode.in_comment ls b free apart = absurd (free refl)

meets_verdict : {text : List ℕ} {b at : ℕ} {ps : List Piece} {ls : Levels} (s : Sort) (r : Refusal) → Meets text b at ps ls → Outside ps → sort b ≡ s → (in_words s ≡ true → stand Stand.between ps ≡ Stand.between) → mark at b ls s ≡ stop r → verdict text ≡ refused r
meets_verdict {text} {b} {at} {ps} {ls} s r h out is apart marks =
    let end = front_goes h.begins in
    let place = zero-add (length h.front) ∙ h.place in
    short_verdict text h.short
    ∙ ap (reading 0 Mode.between (outer none)) h.split
    ∙ end.reads (b ∷ h.rest)
    ∙ reading_by _ end.mode end.levels b h.rest (stop r)
    (step_marks _ end.mode end.levels b (λ e. out (sym end.stands ∙ e)) (λ e. end.stands ∙ apart (ap in_words (sym is) ∙ e))
    ∙ (λ i. mark (place i) b (end.settles i) (is i))
    ∙ marks)

pub refused_verdict : (text : List ℕ) (r : Refusal) → Refused text r → verdict text ≡ refused r
refused_verdict text r (too_long h) = cond-false _ _ _ (lt-leb _ _ h)
refused_verdict text r (odd_byte h out is) = meets_verdict Sort.odd _ h out is (λ e. cc) refl
refused_verdict text r (variable h at is) = meets_verdict Sort.question _ h (λ e. free_between (sym at ∙ e)) is (λ e. at) refl
refused_verdict text r (unopened h out is) = meets_verdict Sort.closing _ h out is (λ e. cc) refl
refused_verdict text r (empty_pair h out is) = meets_verdict Sort.closing _ h out is (λ e. cc) refl
refused_verdict text r (ninth_open {ls = ls} h out eight is) = meets_verdict Sort.opening _ h out is (λ e. cc) (cond-false _ _ _ (le-ltb (open_brackets ls) 8 (omega arith)))
refused_verdict text r (unclosed short h) = ended_verdict short h

pub reads_verdict : (text : List ℕ) (ts : Placed) → Reads text ts → verdict text ≡ accepted ts
reads_verdict text ts h = ended_verdict {ls = outer ts} h.short (record { cut = h.cut; spells = h.spells; holds = h.fits })

judged : (text : List ℕ) → AtVerdict (verdict text) (Reads text) (Refused text)
judged text =
    cond_both (leb (length text) 32768) (reading 0 Mode.between (outer none) text) _ (λ v. AtVerdict v (Reads text) (Refused text))
    (λ short. reading_judged text (leb-true _ _ short) 0 [] text Mode.between (outer none) refl refl
    (at_piece {ps = []} (record { cut = record { whole = refl; sound = tt; longest = tt }; spells = refl; holds = tt }) refl))
    (λ long. too_long (leb-false _ _ long))

pub decided : Decided
decided text = go (verdict text) refl (judged text)
  where
    go : (v : Verdict Placed) → verdict text ≡ v → AtVerdict v (Reads text) (Refused text) → AtVerdict v (OnlyRead text) (OnlyRefused text)
    go (accepted ts) e h = record {
      reads = h;
      alone = λ us k. let f = reads_verdict text us k in cc;
      never = λ r k. let f = refused_verdict text r k in cc;
    }
    go (refused r) e h = record {
      refuses = h;
      alone = λ q k. let f = refused_verdict text q k in cc;
      never = λ ts k. let f = reads_verdict text ts k in cc;
    }
