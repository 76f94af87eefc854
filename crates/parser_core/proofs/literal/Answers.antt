use Rattle.table.proofs.Cursors.{handed_back}
use Rattle.parser_core.proofs.Headers.{literals}
use Rattle.parser_core.proofs.literal.Goals as goal

pub returns-in_err-start : goal.returns-in_err-start
returns-in_err-start c = let back = handed_back c.from_residual-in_err-start.ensures in search literals

pub overflow_add-end : goal.overflow_add-end
overflow_add-end c = search literals

pub returns-then-s-end : goal.returns-then-s-end
returns-then-s-end c = search literals

pub returns : goal.returns
returns c = search literals
