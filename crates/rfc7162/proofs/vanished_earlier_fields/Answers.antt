use Rattle.table.proofs.Search.{line}
use Rattle.rfc7162.proofs.vanished_earlier_fields.Goals as goal

pub returns : goal.returns
returns c = search line
