use Rattle.table.proofs.Cursors.{handed_back}
use Rattle.parser_core.proofs.Search.{runs}
use Rattle.parser_core.proofs.astring_chars.Goals as goal

pub returns-in_err-next : goal.returns-in_err-next
returns-in_err-next c = let back = handed_back c.from_residual-in_err-next.ensures in search runs

pub returns-then-next-c : goal.returns-then-next-c
returns-then-next-c c = search runs

pub overflow_cast-next : goal.overflow_cast-next
overflow_cast-next c = search runs

pub returns : goal.returns
returns c = search runs
