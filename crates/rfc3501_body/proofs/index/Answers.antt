use Rattle.table.proofs.Lines.{first_link, ended_skims, lines}
use Rattle.table.proofs.Cursors.{came_back, handed_back}
use Rattle.table.proofs.Depth.{plain}
use Rattle.rfc3501_body.proofs.index.Goals as goal

pub returns-in_err-c : goal.returns-in_err-c
unfolding plain first_link
returns-in_err-c c = ended_skims _ tt c.char.ensures (came_back c.branch-c.ensures c.in_err-c.is) (handed_back c.from_residual.ensures)

pub returns : goal.returns
unfolding plain
returns c = search lines
