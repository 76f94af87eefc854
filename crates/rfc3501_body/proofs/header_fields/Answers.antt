use Rattle.grammar.specs.Body.{header_fields}
use Rattle.table.proofs.Bounds.{leaves_of}
use Rattle.table.proofs.Going.{◌▸◌, ◌▹◌}
use Rattle.table.proofs.Lines.{first_link, ended_skims, skims_from_cursor}
use Rattle.table.proofs.Search.{spare_skims}
use Rattle.table.proofs.Cursors.{went_on, came_back, handed_back}
use Rattle.table.proofs.Depth.{plain}
use Rattle.rfc3501_body.proofs.header_fields.Goals as goal

pub returns-in_err-c : goal.returns-in_err-c
unfolding plain first_link header_fields
returns-in_err-c c = ended_skims _ tt c.tag_no_case.ensures (came_back c.branch-c.ensures c.in_err-c.is) (handed_back c.from_residual.ensures)

pub mark-requires : goal.mark-requires
unfolding leaves_of header_fields
mark-requires c = spare_skims c.header_list-r.ensures c.char-r.ensures.stands tt

pub returns : goal.returns
unfolding header_fields
returns c = c.tag_no_case.ensures.on _ ▹ skims_from_cursor (went_on c.branch-c.ensures c.in_ok-c.is) c.opt_not-r.ensures ▹ c.char-r.ensures ▹ c.header_list-r.ensures ▸ c.mark.ensures
