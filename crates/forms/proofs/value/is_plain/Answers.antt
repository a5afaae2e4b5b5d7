use Rattle.std.proofs.Common.{not, sym, ap, ◌∙◌}
use Rattle.std.proofs.Math.Bool.{not-not}
use Rattle.forms.specs.View.{term_view}
use Rattle.forms.proofs.Shaped.{plain_word}
use Rattle.forms.proofs.value.is_plain.Goals as goal

pub returns-in-Word : goal.returns-in-Word
returns-in-Word c = sym (not-not c.is_none.result) ∙ ap not (sym c.is_none.ensures) ∙ plain_word c.in-Word.w (term_view c.args.term) c.keyword_of.result c.in-Word.ensures c.keyword_of.ensures
