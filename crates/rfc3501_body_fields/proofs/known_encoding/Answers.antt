use Rattle.grammar.specs.BodyStructure.{known_encoding}
use Rattle.table.proofs.Cursors.{went_on, came_back, handed_back}
use Rattle.table.proofs.Depth.{plain}
use Rattle.table.proofs.Going.{◌▸◌, ◌▹◌}
use Rattle.table.proofs.Lines.{first_link, ended_skims, from_cursor}
use Rattle.rfc3501_body_fields.proofs.known_encoding.Goals as goal

pub returns-in_err-c : goal.returns-in_err-c
unfolding plain first_link known_encoding
returns-in_err-c c = ended_skims _ tt c.char.ensures (came_back c.branch-c.ensures c.in_err-c.is) (handed_back c.from_residual.ensures)

pub returns : goal.returns
unfolding known_encoding
returns c = c.char.ensures.on _ ▸ from_cursor (went_on c.branch-c.ensures c.in_ok-c.is) c.encoding_name-r.ensures ▹ c.char-2.ensures
