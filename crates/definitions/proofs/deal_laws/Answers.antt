use Rattle.definitions.proofs.Hints.{hint_leaves}
use Rattle.definitions.proofs.Lawfully.{hints_lawful}
use Rattle.definitions.proofs.Made.{made_lawful}
use Rattle.definitions.proofs.Sheets.{sheets_decided}
use Rattle.definitions.proofs.Wrong.{sheets_refused}
use Rattle.definitions.proofs.deal_laws.Goals as goal

pub returns : goal.returns
returns c = record { sheets = sheets_decided; refused = sheets_refused; hints = hint_leaves; lawful = made_lawful; hinted = hints_lawful }
