use Rattle.table.proofs.Search.{line}
use Rattle.rfc5464.proofs.mailbox_and_values.Goals as goal

pub returns : goal.returns
returns c = search line
