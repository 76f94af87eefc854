use Rattle.table.proofs.Cursors.{handed_back}
use Rattle.table.proofs.Search.{reads}
use Rattle.parser_core.proofs.Numbers.{number_stops, number_done}
use Rattle.parser_core.proofs.number.Goals as goal

pub returns-in_err-next : goal.returns-in_err-next
returns-in_err-next c = let back = handed_back c.from_residual-in_err-next.ensures in search (number_stops, number_done, reads)

pub returns : goal.returns
returns c = search (number_stops, number_done, reads)
