use Rattle.definitions.proofs.Spelled.{same_term_decides, keyword_names}
use Rattle.definitions.proofs.Values.{value_decimal}
use Rattle.definitions.proofs.form_laws.Goals as goal

pub returns : goal.returns
returns c = record { terms = same_term_decides; keywords = keyword_names; values = value_decimal }
