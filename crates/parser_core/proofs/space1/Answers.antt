use Rattle.grammar.specs.Notation.{space1}
use Rattle.table.proofs.Cursors.{handed_back}
use Rattle.parser_core.proofs.Search.{runs}
use Rattle.parser_core.proofs.space1.Goals as goal

pub returns-in_err-next : goal.returns-in_err-next
unfolding space1
returns-in_err-next c = let back = handed_back c.from_residual-in_err-next.ensures in search runs

pub returns-then-next-c : goal.returns-then-next-c
unfolding space1
returns-then-next-c c = search runs

pub returns : goal.returns
unfolding space1
returns c = search runs
