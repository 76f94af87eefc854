use Rattle.table.proofs.Search.{line}
use Rattle.rfc3501_envelope.proofs.address_space.Goals as goal

pub returns : goal.returns
returns c = search line
