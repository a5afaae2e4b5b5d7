-- One byte more keeps what has been read, or is refused, and so the verdict says what the grammar says.
use Rattle.std.proofs.Common.{◌≡◌, ℕ, ◌+◌, ◌≤◌, true, ◌&&◌, ◌||◌, eqb, ltb, leb, List, [], ◌∷◌, ◌++◌, length, sym, refl, ap, ◌∙◌, subst, append_assoc, append-nil, arith}
use Rattle.std.proofs.lemmas.List.{length_push}
use Rattle.std.proofs.lemmas.Bool.{cond_both, eqb-true, ltb-true, ltb-false, both_ways}
use Rattle.definitions.specs.Refusal.{Verdict, AtVerdict}
use Rattle.definitions.specs.Term.{none, ◌&◌, Placed}
use Rattle.definitions.specs.Text.{Sort, sort, in_words, Piece, bytes, Sound, Stand, ends, stand, Next, tokens, Levels, outer, inner, open_brackets, spread, Hold, Begins, Outside, Meets, Reads, Refused, odd_byte, variable, unopened, empty_pair, ninth_open, unclosed}
use Rattle.definitions.specs.Reading.{Mode, Step, next, stop, settle, shut, mark, step, ended, reading}
use Rattle.definitions.proofs.Pieces.{all_append, stand_append}
use Rattle.definitions.proofs.Levels.{spread_add, hold_add, hold_eight}
use Rattle.definitions.proofs.Steps.{after_step}
use Rattle.definitions.proofs.Stands.{free_between, free_word, may_follow}
use Rattle.definitions.proofs.Sofar.{begins_more, Sofar, at_piece, at_word, at_comment, settled}

-- what the sort of a byte says of it
abbrev IsSort : ℕ → Sort → Type 0
IsSort b Sort.letter = Unit {0}
IsSort b Sort.divider = Unit {0}
IsSort b Sort.opening = b ≡ 40
IsSort b Sort.closing = b ≡ 41
IsSort b Sort.semicolon = b ≡ 59
IsSort b Sort.question = Unit {0}
IsSort b Sort.odd = Unit {0}

is_sort : (b : ℕ) → IsSort b (sort b)
is_sort b =
    cond_both (eqb b 32 || eqb b 9 || eqb b 10 || eqb b 13) Sort.divider _ (IsSort b) (λ e. tt) λ e.
    cond_both (eqb b 40) Sort.opening _ (IsSort b) (eqb-true b 40) λ e.
    cond_both (eqb b 41) Sort.closing _ (IsSort b) (eqb-true b 41) λ e.
    cond_both (eqb b 59) Sort.semicolon _ (IsSort b) (eqb-true b 59) λ e.
    cond_both (eqb b 63) Sort.question _ (IsSort b) (λ e. tt) λ e.
    cond_both (leb 33 b && leb b 126) Sort.letter Sort.odd (IsSort b) (λ e. tt) (λ e. tt)

module _ (text front rest : List ℕ) (b : ℕ) (short : length text ≤ 32768) (split : text ≡ front ++ b ∷ rest) where
  -- what a step at the byte b leads to
  abbrev pub Led : Step → Type 0
  Led (next m ls) = Sofar (front ++ b ∷ []) m ls
  Led (stop r) = Refused text r

  meets : {ps : List Piece} {ls : Levels} → Begins front ps ls → Meets text b (length front) ps ls
  meets h = record { short = short; front = front; rest = rest; split = split; place = refl; begins = h }

  piece_more : {ps : List Piece} {ls : Levels} → Begins front ps ls → (p : Piece) (ks : Levels) → b ∷ [] ≡ bytes p → Sound p → Next (stand Stand.between ps) p → ends p ≡ Stand.between → spread ks ≡ spread ls ++ tokens (length front) (p ∷ []) → Hold ks → Sofar (front ++ b ∷ []) Mode.between ks
  piece_more {ps} {ls} h p ks same sound fits free spells holds =
      at_piece {ps = ps ++ p ∷ []} (rw same (begins_more h p ks sound fits spells holds)) (stand_append Stand.between ps (p ∷ []) ∙ free)

  shut_led : {ps : List Piece} (ls : Levels) → Begins front ps ls → Outside ps → sort b ≡ Sort.closing → b ≡ 41 → Led (shut (length front) ls)
  shut_led (outer ts) h out e is = unopened (meets h) out e
  shut_led (inner ls from none) h out e is = empty_pair (meets h) out e
  shut_led (inner ls from (t & ts)) h out e is =
      piece_more h Piece.closing _ (ap (λ x. x ∷ []) is) tt (may_follow _ Piece.closing out tt) refl
      (spread_add ls _ ∙ sym (append_assoc (spread ls) _ _))
      (hold_add ls _ h.holds.0 (h.holds.1, tt, h.holds.2))

  mark_led : {ps : List Piece} (ls : Levels) → Begins front ps ls → Outside ps → (s : Sort) → sort b ≡ s → IsSort b s → (in_words s ≡ true → stand Stand.between ps ≡ Stand.between) → Led (mark (length front) b ls s)
  mark_led ls h out Sort.letter e is apart = at_word h (apart refl) (e, tt) refl
  mark_led ls h out Sort.divider e is apart = piece_more h (Piece.divider b) ls refl e (may_follow _ (Piece.divider b) out tt) refl (sym (append-nil _)) h.holds
  mark_led ls h out Sort.opening e is apart =
      cond_both (ltb (open_brackets ls) 8) (next Mode.between (inner ls (length front) none)) _ Led
      (λ low. piece_more h Piece.opening (inner ls (length front) none) (ap (λ x. x ∷ []) is) tt (may_follow _ Piece.opening out tt) refl refl (h.holds, ltb-true _ _ low, tt))
      (λ high. ninth_open (meets h) out (omega (arith, ltb-false _ _ high, hold_eight ls h.holds)) e)
  mark_led ls h out Sort.closing e is apart = shut_led ls h out e is
  mark_led ls h out Sort.semicolon e is apart = at_comment [] h out tt (ap (λ x. front ++ x ∷ []) (sym is))
  mark_led ls h out Sort.question e is apart = variable (meets h) (apart refl) e
  mark_led ls h out Sort.odd e is apart = odd_byte (meets h) out e

  step_led : (m : Mode) (ls : Levels) → Sofar front m ls → Led (step (length front) m ls b)
  step_led m ls (at_piece h s) = mark_led ls h (λ e. free_between (sym s ∙ e)) (sort b) refl (is_sort b) (λ e. s)
  step_led m ls (at_word {base = base} {c} {cs} h s sound e) =
      let done = settled front m ls (at_word h s sound e) in
      cond_both (in_words (sort b)) (next (Mode.in_word (length base) (c ∷ cs ++ b ∷ [])) ls) _ Led
      (λ inside. at_word h s (sound.0, all_append _ cs (b ∷ []) sound.1 (inside, tt)) (sym (append_assoc base (c ∷ cs) (b ∷ [])) ∙ ap (λ f. f ++ b ∷ []) e))
      (λ outside. mark_led _ done.begins (λ x. free_word (sym done.stands ∙ x)) (sort b) refl (is_sort b) (λ inside. absurd (both_ways _ outside inside)))
  step_led m ls (at_comment {base = base} cs h out sound e) =
      let done = settled front m ls (at_comment cs h out sound e) in
      cond_both (eqb b 10) (next Mode.between ls) (next Mode.in_comment ls) Led
      (λ feed. let is = eqb-true b 10 feed in
      piece_more done.begins (Piece.divider b) ls refl (rw is refl) (rw done.stands is) refl (sym (append-nil _)) h.holds)
      (λ on. at_comment (cs ++ b ∷ []) h out (all_append _ cs (b ∷ []) sound (on, tt)) (sym (append_assoc base (59 ∷ cs) (b ∷ [])) ∙ ap (λ f. f ++ b ∷ []) e))

module _ (text : List ℕ) (short : length text ≤ 32768) where
  abbrev Judged : Verdict Placed → Type 0
  Judged v = AtVerdict v (Reads text) (Refused text)

  ended_judged : {ps : List Piece} (ls : Levels) → Begins text ps ls → Judged (ended ls)
  ended_judged {ps} (outer ts) h = record { short = short; pieces = ps; cut = h.cut; spells = h.spells; fits = h.holds }
  ended_judged (inner ls from ts) h = unclosed short h

  pub reading_judged : (at : ℕ) (front rest : List ℕ) (m : Mode) (ls : Levels) → length front ≡ at → text ≡ front ++ rest → Sofar front m ls → Judged (reading at m ls rest)
  reading_judged at front [] m ls place split h =
      let done = settled front m ls h in
      ended_judged {ps = done.pieces} (settle m ls) (rw (split, append-nil) done.begins)
  reading_judged at front (b ∷ rest) m ls place split h =
      go (step at m ls b) (subst (λ n. Led text front rest b short split (step n m ls b)) place (step_led text front rest b short split m ls h))
      (λ n ks k. reading_judged (at + 1) (front ++ b ∷ []) rest n ks (length_push front b ∙ ap (λ i. i + 1) place) (split ∙ sym (append_assoc front (b ∷ []) rest)) k)
    where
      go : (s : Step) → Led text front rest b short split s → ((n : Mode) (ks : Levels) → Sofar (front ++ b ∷ []) n ks → Judged (reading (at + 1) n ks rest)) → Judged (after_step at rest s)
      go (next n ks) led on = on n ks led
      go (stop r) led on = led
