use Rattle.table.proofs.Bounds.{leaves_of}
use Rattle.table.proofs.Lines.{first_link, named_stands, ended_skims, lines}
use Rattle.table.proofs.Search.{spare}
use Rattle.table.proofs.Cursors.{went_on, came_back, handed_back}
use Rattle.table.proofs.Depth.{plain}
use Rattle.parser_core.proofs.value.Goals as goal

pub returns-in_err-c : goal.returns-in_err-c
unfolding plain first_link
returns-in_err-c c = ended_skims _ tt c.tag_no_case.ensures (came_back c.branch-c.ensures c.in_err-c.is) (handed_back c.from_residual.ensures)

pub mark-requires : goal.mark-requires
unfolding leaves_of
mark-requires c = named_stands (went_on c.branch-c.ensures c.in_ok-c.is) (search spare)

pub returns : goal.returns
unfolding plain
returns c = search lines
