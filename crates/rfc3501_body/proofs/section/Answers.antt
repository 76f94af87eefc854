use Rattle.grammar.specs.Body.{section}
use Rattle.table.proofs.Bounds.{leaves_of}
use Rattle.table.proofs.Lines.{first_link, named_stands, ended_skims, lines}
use Rattle.table.proofs.Search.{spare}
use Rattle.table.proofs.Cursors.{went_on, came_back, handed_back}
use Rattle.table.proofs.Depth.{plain}
use Rattle.rfc3501_body.proofs.section.Goals as goal

pub returns-in_err-c : goal.returns-in_err-c
unfolding plain first_link section
returns-in_err-c c = ended_skims _ tt c.char.ensures (came_back c.branch-c.ensures c.in_err-c.is) (handed_back c.from_residual.ensures)

pub opt_spec-r-requires : goal.opt_spec-r-requires
unfolding leaves_of section
opt_spec-r-requires c = named_stands (went_on c.branch-c.ensures c.in_ok-c.is) (search spare)

pub returns : goal.returns
unfolding plain section
returns c = search lines
