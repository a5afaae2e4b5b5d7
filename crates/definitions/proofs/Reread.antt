-- What is written and read again is the same terms, places aside.
use Rattle.std.proofs.Common.{false, [], ◌++◌, length, sym, ap, ◌∙◌, subst, append-nil, arith}
use Rattle.definitions.specs.Text.{tokens, flats}
use Rattle.definitions.specs.Writing.{spelt, Reread}
use Rattle.definitions.proofs.Alike.{Alike, none_left, again}
use Rattle.definitions.proofs.Tight.{tight, joined_tight, each_tight, chained_tight, tight_shorter, tokens_tight}

pub reread : Reread
reread text ts h =
    let ps = tight false h.pieces in
    let like = subst (Alike (tokens 0 ps)) (h.spells ∙ sym (append-nil (flats ts))) (tokens_tight false 0 0 h.pieces) in
    let more = again ts [] (tokens 0 ps) like in
    let whole = joined_tight false 0 h.pieces ∙ ap (spelt false) h.spells in
    let shorter = tight_shorter h.pieces h.cut.longest in (
      more.terms,
      record {
        short = omega (arith, h.short, shorter, ap length whole, ap length h.cut.whole);
        pieces = ps;
        cut = record { whole = whole; sound = each_tight false h.pieces h.cut.sound; longest = chained_tight false h.pieces };
        spells = more.spells ∙ ap (λ l. flats more.terms ++ l) (none_left more.left more.alike) ∙ append-nil _;
        fits = more.fits 0 h.fits;
      },
      more.same,
    )
