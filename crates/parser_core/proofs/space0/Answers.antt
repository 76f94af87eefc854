use Rattle.grammar.specs.Notation.{space0}
use Rattle.table.proofs.Cursors.{handed_back}
use Rattle.parser_core.proofs.Search.{runs}
use Rattle.parser_core.proofs.space0.Goals as goal

pub returns-in_err-next : goal.returns-in_err-next
unfolding space0
returns-in_err-next c = let back = handed_back c.from_residual-in_err-next.ensures in search runs

pub returns : goal.returns
unfolding space0
returns c = search runs
