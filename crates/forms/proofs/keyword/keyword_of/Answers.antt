use Rattle.std.proofs.Common.{None, ap, ◌∙◌}
use Rattle.definitions.specs.Form.{keyword}
use Rattle.forms.proofs.Named.{named_keyword, no_text}
use Rattle.forms.proofs.keyword.keyword_of.Goals as goal

pub returns : goal.returns
returns c = named_keyword c.in-Ok.text.now c.keyword_text.result c.keyword_text.ensures ∙ ap keyword c.in-Ok.ensures.cases.0

pub returns-in_default : goal.returns-in_default
returns-in_default c = named_keyword c.args.word.now None (no_text c.args.word.now c.in_default.ensures.cases.0)
