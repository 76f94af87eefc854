use Rattle.grammar.specs.Notation.{sp}
use Rattle.grammar.specs.Body.{section}
use Rattle.table.proofs.Bounds.{leaves_of}
use Rattle.table.proofs.Lines.{first_link, named_stands, ended_skims, lines}
use Rattle.table.proofs.Search.{spare_after}
use Rattle.table.proofs.Cursors.{went_on, came_back, handed_back}
use Rattle.table.proofs.Depth.{plain}
use Rattle.rfc3501_body.proofs.body_section_fields.Goals as goal

pub returns-in_err-c : goal.returns-in_err-c
unfolding plain first_link sp
returns-in_err-c c = ended_skims _ tt c.tag_no_case.ensures (came_back c.branch-c.ensures c.in_err-c.is) (handed_back c.from_residual.ensures)

pub opt_index-r-requires : goal.opt_index-r-requires
unfolding leaves_of section
opt_index-r-requires c = spare_after c.section-r.ensures (named_stands (went_on c.branch-c.ensures c.in_ok-c.is) c.tag_no_case.ensures.stands) tt

pub returns : goal.returns
unfolding plain sp
returns c = search lines
