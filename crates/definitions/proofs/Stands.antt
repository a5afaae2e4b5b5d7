-- How the pieces so far end, and what may follow them.
use Rattle.std.proofs.Common.{◌≡◌, refl}
use Rattle.definitions.specs.Text.{Piece, Stand, Next}
use Rattle.definitions.specs.Reading.{Mode}

abbrev pub stand_in : Mode → Stand
stand_in Mode.between = Stand.between
stand_in (Mode.in_word from w) = Stand.in_word
stand_in Mode.in_comment = Stand.in_comment

abbrev pub Free : Stand → Type 0
Free s = s ≡ Stand.in_comment → ⊥

abbrev pub NoWord : Piece → Type 0
NoWord (Piece.word c cs) = ⊥
NoWord Piece.opening = Unit {0}
NoWord Piece.closing = Unit {0}
NoWord (Piece.divider c) = Unit {0}
NoWord (Piece.comment cs) = Unit {0}

pub free_between : Free Stand.between
free_between e = cc

pub free_word : Free Stand.in_word
free_word e = cc

pub may_follow : (s : Stand) (p : Piece) → Free s → NoWord p → Next s p
may_follow Stand.between p free other = tt
may_follow Stand.in_word (Piece.word c cs) free other = other
may_follow Stand.in_word Piece.opening free other = tt
may_follow Stand.in_word Piece.closing free other = tt
may_follow Stand.in_word (Piece.divider c) free other = tt
may_follow Stand.in_word (Piece.comment cs) free other = tt
may_follow Stand.in_comment p free other = absurd (free refl)
