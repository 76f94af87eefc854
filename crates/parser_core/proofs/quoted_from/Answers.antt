use Rattle.table.proofs.Cursors.{handed_back}
use Rattle.parser_core.proofs.Quoting.{quoteds}
use Rattle.parser_core.proofs.quoted_from.Goals as goal

pub returns-in_err-next : goal.returns-in_err-next
returns-in_err-next c = let back = handed_back c.from_residual.ensures in search quoteds

pub overflow_sub-end : goal.overflow_sub-end
overflow_sub-end c = search quoteds

pub overflow_cast-end : goal.overflow_cast-end
overflow_cast-end c = search quoteds

pub returns : goal.returns
returns c = search quoteds
