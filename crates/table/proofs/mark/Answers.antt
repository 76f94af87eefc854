use Rattle.std.proofs.Common.{rules}
use Rattle.table.proofs.Bounds.{mark_done}
use Rattle.table.proofs.Cursors.{went_on}
use Rattle.table.proofs.mark.Goals as goal

pub returns : goal.returns
returns c = search (mark_done, went_on, rules)
