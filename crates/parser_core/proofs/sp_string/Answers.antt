use Rattle.grammar.specs.Notation.{sp}
use Rattle.table.proofs.Cursors.{went_on, came_back, handed_back}
use Rattle.table.proofs.Depth.{plain}
use Rattle.table.proofs.Going.{◌▸◌}
use Rattle.table.proofs.Lines.{first_link, ended_skims, from_cursor}
use Rattle.parser_core.proofs.sp_string.Goals as goal

pub returns-in_err-c : goal.returns-in_err-c
unfolding plain first_link sp
returns-in_err-c c = ended_skims _ tt c.char.ensures (came_back c.branch-c.ensures c.in_err-c.is) (handed_back c.from_residual.ensures)

pub returns : goal.returns
unfolding sp
returns c = c.char.ensures.on _ ▸ from_cursor (went_on c.branch-c.ensures c.in_ok-c.is) c.string.ensures
