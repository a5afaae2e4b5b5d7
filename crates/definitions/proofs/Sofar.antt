-- What has been read so far is cut into pieces.
use Rattle.std.proofs.Common.{◌≡◌, ℕ, List, [], ◌∷◌, ◌++◌, length, sym, subst, append-nil, zero-add}
use Rattle.std.proofs.lemmas.List.Concat.{flat_map-append}
use Rattle.definitions.specs.Term.{Tree}
use Rattle.definitions.specs.Text.{Piece, bytes, Sound, Stand, stand, Next, tokens, Levels, spread, Hold, Begins, Outside}
use Rattle.definitions.specs.Reading.{Mode, add, settle}
use Rattle.definitions.proofs.Pieces.{each_append, stand_append, chained_append, tokens_append}
use Rattle.definitions.proofs.Levels.{spread_add, hold_add}
use Rattle.definitions.proofs.Stands.{stand_in, may_follow}

pub begins_more : {front : List ℕ} {ps : List Piece} {ls : Levels} → Begins front ps ls → (p : Piece) (ks : Levels) → Sound p → Next (stand Stand.between ps) p → spread ks ≡ spread ls ++ tokens (length front) (p ∷ []) → Hold ks → Begins (front ++ bytes p) (ps ++ p ∷ []) ks
begins_more {front} {ps} {ls} h p ks sound fits spells holds = record {
  cut = record {
    whole = rw (flat_map-append bytes ps (p ∷ []), h.cut.whole, append-nil);
    sound = each_append ps (p ∷ []) h.cut.sound (sound, tt);
    longest = chained_append Stand.between ps (p ∷ []) h.cut.longest (fits, tt);
  };
  spells = rw (tokens_append 0 ps (p ∷ []), h.cut.whole, zero-add, h.spells, spells);
  holds = holds;
}

-- complete pieces, and then a word or a comment in progress
pub data Sofar (front : List ℕ) : Mode → Levels → Type 0 where
  at_piece : {ps : List Piece} {ls : Levels} → Begins front ps ls → stand Stand.between ps ≡ Stand.between → Sofar front Mode.between ls
  at_word : {ps : List Piece} {ls : Levels} {base : List ℕ} {c : ℕ} {cs : List ℕ} → Begins base ps ls → stand Stand.between ps ≡ Stand.between → Sound (Piece.word c cs) → base ++ c ∷ cs ≡ front → Sofar front (Mode.in_word (length base) (c ∷ cs)) ls
  at_comment : {ps : List Piece} {ls : Levels} {base : List ℕ} (cs : List ℕ) → Begins base ps ls → Outside ps → Sound (Piece.comment cs) → base ++ 59 ∷ cs ≡ front → Sofar front Mode.in_comment ls

pub record Settled (front : List ℕ) (m : Mode) (ls : Levels) : Type 0 where
  pub pieces : List Piece
  pub begins : Begins front pieces (settle m ls)
  pub stands : stand Stand.between pieces ≡ stand_in m

pub settled : (front : List ℕ) (m : Mode) (ls : Levels) → Sofar front m ls → Settled front m ls
settled front m ls (at_piece {ps} b s) = record { pieces = ps; begins = b; stands = s }
settled front m ls (at_word {ps} {base = base} {c} {cs} b s sound e) = record {
  pieces = ps ++ Piece.word c cs ∷ [];
  begins = subst (λ f. Begins f (ps ++ Piece.word c cs ∷ []) (add ls (Tree.word (length base) (c ∷ cs)))) e
      (begins_more b (Piece.word c cs) _ sound (rw s tt) (spread_add ls _) (hold_add ls _ b.holds tt));
  stands = stand_append Stand.between ps (Piece.word c cs ∷ []);
}
settled front m ls (at_comment {ps} {base = base} cs b out sound e) = record {
  pieces = ps ++ Piece.comment cs ∷ [];
  begins = subst (λ f. Begins f (ps ++ Piece.comment cs ∷ []) ls) e
      (begins_more b (Piece.comment cs) ls sound (may_follow _ (Piece.comment cs) out tt) (sym (append-nil _)) b.holds);
  stands = stand_append Stand.between ps (Piece.comment cs ∷ []);
}
