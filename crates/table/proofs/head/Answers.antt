use Rattle.std.proofs.Common.{rules}
use Rattle.table.proofs.Puts.{head_short}
use Rattle.table.proofs.Cursors.{went_on}
use Rattle.table.proofs.head.Goals as goal

pub returns-else-k-t : goal.returns-else-k-t
returns-else-k-t c = search (head_short, went_on, rules)
