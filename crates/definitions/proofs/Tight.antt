-- Pieces without comments, and with a space only between two words that would touch.
use Rattle.std.proofs.Common.{◌≡◌, ℕ, suc, ◌+◌, ◌≤◌, Bool, true, false, cond, List, [], ◌∷◌, length, refl, arith, length-append}
use Rattle.definitions.specs.Text.{Piece, Stand, Chained, Each, joined, tokens}
use Rattle.definitions.specs.Writing.{spelt}
use Rattle.definitions.proofs.Alike.{Alike, both_end, both_word, both_opening, both_closing}

abbrev pub tight : Bool → List Piece → List Piece
tight after [] = []
tight false (Piece.word c cs ∷ ps) = Piece.word c cs ∷ tight true ps
tight true (Piece.word c cs ∷ ps) = Piece.divider 32 ∷ Piece.word c cs ∷ tight true ps
tight after (Piece.opening ∷ ps) = Piece.opening ∷ tight false ps
tight after (Piece.closing ∷ ps) = Piece.closing ∷ tight false ps
tight after (Piece.divider c ∷ ps) = tight after ps
tight after (Piece.comment cs ∷ ps) = tight after ps

pub joined_tight : (after : Bool) (at : ℕ) (ps : List Piece) → joined (tight after ps) ≡ spelt after (tokens at ps)
joined_tight after at [] = refl
joined_tight false at (Piece.word c cs ∷ ps) = rw (joined_tight true (at + suc (length cs)) ps)
joined_tight true at (Piece.word c cs ∷ ps) = rw (joined_tight true (at + suc (length cs)) ps)
joined_tight after at (Piece.opening ∷ ps) = rw (joined_tight false (at + 1) ps)
joined_tight after at (Piece.closing ∷ ps) = rw (joined_tight false (at + 1) ps)
joined_tight after at (Piece.divider c ∷ ps) = joined_tight after (at + 1) ps
joined_tight after at (Piece.comment cs ∷ ps) = joined_tight after (at + suc (length cs)) ps

pub each_tight : (after : Bool) (ps : List Piece) → Each ps → Each (tight after ps)
each_tight after [] h = tt
each_tight false (Piece.word c cs ∷ ps) h = (h.0, each_tight true ps h.1)
each_tight true (Piece.word c cs ∷ ps) h = (refl, (h.0, each_tight true ps h.1))
each_tight after (Piece.opening ∷ ps) h = (tt, each_tight false ps h.1)
each_tight after (Piece.closing ∷ ps) h = (tt, each_tight false ps h.1)
each_tight after (Piece.divider c ∷ ps) h = each_tight after ps h.1
each_tight after (Piece.comment cs ∷ ps) h = each_tight after ps h.1

pub chained_tight : (after : Bool) (ps : List Piece) → Chained (cond after Stand.in_word Stand.between) (tight after ps)
chained_tight after [] = tt
chained_tight false (Piece.word c cs ∷ ps) = (tt, chained_tight true ps)
chained_tight true (Piece.word c cs ∷ ps) = (tt, (tt, chained_tight true ps))
chained_tight false (Piece.opening ∷ ps) = (tt, chained_tight false ps)
chained_tight true (Piece.opening ∷ ps) = (tt, chained_tight false ps)
chained_tight false (Piece.closing ∷ ps) = (tt, chained_tight false ps)
chained_tight true (Piece.closing ∷ ps) = (tt, chained_tight false ps)
chained_tight after (Piece.divider c ∷ ps) = chained_tight after ps
chained_tight after (Piece.comment cs ∷ ps) = chained_tight after ps

-- the byte that was left out since the last word, if any
abbrev spare : Bool → Stand → ℕ
spare false s = 0
spare true Stand.between = 1
spare true Stand.in_word = 0
spare true Stand.in_comment = 1

spare_one : (after : Bool) (s : Stand) → spare after s ≤ 1
spare_one false s = omega arith
spare_one true Stand.between = omega arith
spare_one true Stand.in_word = omega arith
spare_one true Stand.in_comment = omega arith

tight_long : (after : Bool) (s : Stand) (ps : List Piece) → Chained s ps → length (joined (tight after ps)) ≤ length (joined ps) + spare after s
tight_long after s [] h = omega arith
tight_long false s (Piece.word c cs ∷ ps) h = let on = tight_long true Stand.in_word ps h.1 in simp length-append (omega arith)
tight_long true Stand.between (Piece.word c cs ∷ ps) h = let on = tight_long true Stand.in_word ps h.1 in simp length-append (omega arith)
tight_long true Stand.in_word (Piece.word c cs ∷ ps) h = absurd h.0
tight_long true Stand.in_comment (Piece.word c cs ∷ ps) h = absurd h.0
tight_long after s (Piece.opening ∷ ps) h = omega (arith, tight_long false Stand.between ps h.1)
tight_long after s (Piece.closing ∷ ps) h = omega (arith, tight_long false Stand.between ps h.1)
tight_long after s (Piece.divider c ∷ ps) h = omega (arith, tight_long after Stand.between ps h.1, spare_one after Stand.between)
tight_long after s (Piece.comment cs ∷ ps) h =
    let on = tight_long after Stand.in_comment ps h.1 in
    let one = spare_one after Stand.in_comment in
    simp length-append (omega arith)

pub tight_shorter : (ps : List Piece) → Chained Stand.between ps → length (joined (tight false ps)) ≤ length (joined ps)
tight_shorter ps h = omega (arith, tight_long false Stand.between ps h)

pub tokens_tight : (after : Bool) (at from : ℕ) (ps : List Piece) → Alike (tokens at (tight after ps)) (tokens from ps)
tokens_tight after at from [] = both_end
tokens_tight false at from (Piece.word c cs ∷ ps) = both_word (tokens_tight true _ _ ps)
tokens_tight true at from (Piece.word c cs ∷ ps) = both_word (tokens_tight true _ _ ps)
tokens_tight after at from (Piece.opening ∷ ps) = both_opening (tokens_tight false _ _ ps)
tokens_tight after at from (Piece.closing ∷ ps) = both_closing (tokens_tight false _ _ ps)
tokens_tight after at from (Piece.divider c ∷ ps) = tokens_tight after at (from + 1) ps
tokens_tight after at from (Piece.comment cs ∷ ps) = tokens_tight after at (from + suc (length cs)) ps
