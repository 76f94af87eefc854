use Rattle.table.proofs.Search.{line}
use Rattle.rfc5464.proofs.name_and_value.Goals as goal

pub returns : goal.returns
returns c = search line
