-- Pieces that spell the words and brackets of some levels are read as those levels.
use Rattle.std.proofs.Common.{◌≡◌, ℕ, ◌+◌, true, false, eqb, List, [], ◌∷◌, ◌++◌, length, refl, ap, ◌∙◌, subst, append_assoc, append-nil, add-zero, add_assoc, one-add, length-append}
use Rattle.std.proofs.lemmas.Bool.{lt-ltb, cond-true, cond-false}
use Rattle.definitions.specs.Term.{Tree, none, ◌&◌, Placed, Filled}
use Rattle.definitions.specs.Text.{sort, in_words, Piece, bytes, All, Sound, Stand, ends, stand, Next, Chained, joined, Each, tokens, Levels, outer, inner, Begins}
use Rattle.definitions.specs.Reading.{Mode, next, add, settle, shut, mark, reading}
use Rattle.definitions.proofs.Pieces.{tokens_first}
use Rattle.definitions.proofs.Stands.{stand_in}
use Rattle.definitions.proofs.Grows.{Grows, grows_split, grows_spread}
use Rattle.definitions.proofs.Steps.{reading_by}

-- a word or a comment in progress takes the bytes that belong to it
word_on : (cs : List ℕ) (at from : ℕ) (w : List ℕ) (ls : Levels) (rest : List ℕ) → All (λ x. in_words (sort x) ≡ true) cs → reading at (Mode.in_word from w) ls (cs ++ rest) ≡ reading (at + length cs) (Mode.in_word from (w ++ cs)) ls rest
word_on [] at from w ls rest h = rw (add-zero, append-nil)
word_on (c ∷ cs) at from w ls rest h =
    reading_by at (Mode.in_word from w) ls c (cs ++ rest) (next (Mode.in_word from (w ++ c ∷ [])) ls) (cond-true _ _ _ h.0)
    ∙ word_on cs (at + 1) from (w ++ c ∷ []) ls rest h.1
    ∙ rw (append_assoc w (c ∷ []) cs, add_assoc at 1 (length cs), one-add)

comment_on : (cs : List ℕ) (at : ℕ) (ls : Levels) (rest : List ℕ) → All (λ x. eqb x 10 ≡ false) cs → reading at Mode.in_comment ls (cs ++ rest) ≡ reading (at + length cs) Mode.in_comment ls rest
comment_on [] at ls rest h = rw add-zero
comment_on (c ∷ cs) at ls rest h =
    reading_by at Mode.in_comment ls c (cs ++ rest) (next Mode.in_comment ls) (cond-false _ _ _ h.0)
    ∙ comment_on cs (at + 1) ls rest h.1
    ∙ rw (add_assoc at 1 (length cs), one-add)

shut_next : (at : ℕ) (ls : Levels) (from : ℕ) (us : Placed) → Filled us → shut at (inner ls from us) ≡ next Mode.between (add ls (Tree.pair from us))
shut_next at ls from none h = absurd h
shut_next at ls from (u & us) h = refl

-- reading goes on from the place at, and settles to the levels ks
pub record Goes (at : ℕ) (m : Mode) (ls : Levels) (bs : List ℕ) (s : Stand) (ks : Levels) : Type 0 where
  pub mode : Mode
  pub levels : Levels
  pub stands : stand_in mode ≡ s
  pub settles : settle mode levels ≡ ks
  pub reads : (rest : List ℕ) → reading at m ls (bs ++ rest) ≡ reading (at + length bs) mode levels rest

goes_append : (at : ℕ) (m : Mode) (ls js ks : Levels) (xs ys : List ℕ) (s t : Stand) (one : Goes at m ls xs s js) → Goes (at + length xs) one.mode one.levels ys t ks → Goes at m ls (xs ++ ys) t ks
goes_append at m ls js ks xs ys s t one more = record {
  mode = more.mode;
  levels = more.levels;
  stands = more.stands;
  settles = more.settles;
  reads = λ rest. ap (reading at m ls) (append_assoc xs ys rest) ∙ one.reads (ys ++ rest) ∙ more.reads rest ∙ rw (length-append xs ys, add_assoc);
}

-- a piece that may come next is read as if between words
fresh : (at : ℕ) (m : Mode) (ls : Levels) (p : Piece) (rest : List ℕ) → Sound p → Next (stand_in m) p → reading at m ls (bytes p ++ rest) ≡ reading at Mode.between (settle m ls) (bytes p ++ rest)
fresh at Mode.between ls p rest sound h = refl
fresh at (Mode.in_word from w) ls (Piece.word c cs) rest sound h = absurd h
fresh at (Mode.in_word from w) ls Piece.opening rest sound h = refl
fresh at (Mode.in_word from w) ls Piece.closing rest sound h = refl
fresh at (Mode.in_word from w) ls (Piece.divider c) rest sound h = reading_by at (Mode.in_word from w) ls c rest _ (cond-false _ _ _ (ap in_words sound))
fresh at (Mode.in_word from w) ls (Piece.comment cs) rest sound h = refl
fresh at Mode.in_comment ls (Piece.word c cs) rest sound h = absurd h
fresh at Mode.in_comment ls Piece.opening rest sound h = absurd h
fresh at Mode.in_comment ls Piece.closing rest sound h = absurd h
fresh at Mode.in_comment ls (Piece.divider c) rest sound h = rw h
fresh at Mode.in_comment ls (Piece.comment cs) rest sound h = absurd h

fresh_goes : (at : ℕ) (m : Mode) (ls ks : Levels) (p : Piece) → Sound p → Next (stand_in m) p → Goes at Mode.between (settle m ls) (bytes p) (ends p) ks → Goes at m ls (bytes p) (ends p) ks
fresh_goes at m ls ks p sound h g = record {
  mode = g.mode;
  levels = g.levels;
  stands = g.stands;
  settles = g.settles;
  reads = λ rest. fresh at m ls p rest sound h ∙ g.reads rest;
}

piece_goes : (at : ℕ) (p : Piece) (ls ks : Levels) → Sound p → Grows ls (tokens at (p ∷ [])) ks → Goes at Mode.between ls (bytes p) (ends p) ks
piece_goes at (Piece.word c cs) ls ks sound g = record {
  mode = Mode.in_word at (c ∷ cs);
  levels = ls;
  stands = refl;
  settles = g;
  reads = λ rest. reading_by at Mode.between ls c (cs ++ rest) (next (Mode.in_word at (c ∷ [])) ls) (ap (mark at c ls) sound.0)
      ∙ word_on cs (at + 1) at (c ∷ []) ls rest sound.1
      ∙ rw (add_assoc at 1 (length cs), one-add);
}
piece_goes at Piece.opening ls ks sound g = record {
  mode = Mode.between;
  levels = inner ls at none;
  stands = refl;
  settles = g.1;
  reads = λ rest. reading_by at Mode.between ls 40 rest (next Mode.between (inner ls at none)) (cond-true _ _ _ (lt-ltb _ _ g.0));
}
piece_goes at Piece.closing ls ks sound g = record {
  mode = Mode.between;
  levels = add g.0 (Tree.pair g.1 g.2);
  stands = refl;
  settles = g.5;
  reads = λ rest. reading_by at Mode.between ls 41 rest _ (ap (shut at) g.3 ∙ shut_next at g.0 g.1 g.2 g.4);
}
piece_goes at (Piece.divider c) ls ks sound g = record {
  mode = Mode.between;
  levels = ls;
  stands = refl;
  settles = g;
  reads = λ rest. reading_by at Mode.between ls c rest (next Mode.between ls) (ap (mark at c ls) sound);
}
piece_goes at (Piece.comment cs) ls ks sound g = record {
  mode = Mode.in_comment;
  levels = ls;
  stands = refl;
  settles = g;
  reads = λ rest. comment_on cs (at + 1) ls rest sound ∙ rw (add_assoc at 1 (length cs), one-add);
}

pieces_go : (ps : List Piece) (at : ℕ) (m : Mode) (ls ks : Levels) → Each ps → Chained (stand_in m) ps → Grows (settle m ls) (tokens at ps) ks → Goes at m ls (joined ps) (stand (stand_in m) ps) ks
pieces_go [] at m ls ks sound chain g = record { mode = m; levels = ls; stands = refl; settles = g; reads = λ rest. rw add-zero }
pieces_go (p ∷ ps) at m ls ks sound chain g =
    let (js, here, on) = grows_split (settle m ls) (tokens at (p ∷ [])) (tokens (at + length (bytes p)) ps) ks (subst (λ ts. Grows (settle m ls) ts ks) (tokens_first at p ps) g) in
    let one = fresh_goes at m ls js p sound.0 chain.0 (piece_goes at p (settle m ls) js sound.0 here) in
    goes_append at m ls js ks (bytes p) (joined ps) (ends p) (stand (ends p) ps) one
    (subst (λ s. Goes (at + length (bytes p)) one.mode one.levels (joined ps) (stand s ps) ks) one.stands
    (pieces_go ps (at + length (bytes p)) one.mode one.levels ks sound.1 (rw one.stands chain.1) (rw one.settles on)))

pub front_goes : {front : List ℕ} {ps : List Piece} {ls : Levels} → Begins front ps ls → Goes 0 Mode.between (outer none) front (stand Stand.between ps) ls
front_goes {front} {ps} {ls} h =
    subst (λ f. Goes 0 Mode.between (outer none) f (stand Stand.between ps) ls) h.cut.whole
    (pieces_go ps 0 Mode.between (outer none) ls h.cut.sound h.cut.longest (rw h.spells (grows_spread ls h.holds)))
