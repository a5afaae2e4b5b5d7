-- Pieces joined to pieces, and bytes added to a word or a comment.
use Rattle.std.proofs.Common.{◌≡◌, ℕ, ◌+◌, List, [], ◌∷◌, ◌++◌, length, refl, ap, ◌∙◌, append_assoc, add-zero, add_assoc, length-append}
use Rattle.definitions.specs.Text.{Piece, bytes, All, Stand, ends, stand, Chained, joined, Each, tokens}

pub all_append : (P : ℕ → Type 0) (bs cs : List ℕ) → All P bs → All P cs → All P (bs ++ cs)
all_append P [] cs h k = k
all_append P (b ∷ bs) cs h k = (h.0, all_append P bs cs h.1 k)

pub each_append : (ps qs : List Piece) → Each ps → Each qs → Each (ps ++ qs)
each_append [] qs h k = k
each_append (p ∷ ps) qs h k = (h.0, each_append ps qs h.1 k)

pub stand_append : (s : Stand) (ps qs : List Piece) → stand s (ps ++ qs) ≡ stand (stand s ps) qs
stand_append s [] qs = refl
stand_append s (p ∷ ps) qs = stand_append (ends p) ps qs

pub chained_append : (s : Stand) (ps qs : List Piece) → Chained s ps → Chained (stand s ps) qs → Chained s (ps ++ qs)
chained_append s [] qs h k = k
chained_append s (p ∷ ps) qs h k = (h.0, chained_append (ends p) ps qs h.1 k)

pub tokens_first : (at : ℕ) (p : Piece) (ps : List Piece) → tokens at (p ∷ ps) ≡ tokens at (p ∷ []) ++ tokens (at + length (bytes p)) ps
tokens_first at (Piece.word b bs) ps = refl
tokens_first at Piece.opening ps = refl
tokens_first at Piece.closing ps = refl
tokens_first at (Piece.divider b) ps = refl
tokens_first at (Piece.comment bs) ps = refl

pub tokens_append : (at : ℕ) (ps qs : List Piece) → tokens at (ps ++ qs) ≡ tokens at ps ++ tokens (at + length (joined ps)) qs
tokens_append at [] qs = rw add-zero
tokens_append at (p ∷ ps) qs =
    let far = at + length (bytes p) in
    tokens_first at p (ps ++ qs)
    ∙ ap (λ ts. tokens at (p ∷ []) ++ ts) (tokens_append far ps qs)
    ∙ rw (tokens_first at p ps, length-append, ← add_assoc at, append_assoc)
