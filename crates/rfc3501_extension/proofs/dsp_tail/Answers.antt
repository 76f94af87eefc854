use Rattle.grammar.specs.BodyStructure.{body_disposition}
use Rattle.grammar.specs.Notation.{sp}
use Rattle.table.proofs.Bounds.{leaves_of}
use Rattle.table.proofs.Cursors.{went_on, came_back, handed_back}
use Rattle.table.proofs.Depth.{plain, at_depth}
use Rattle.table.proofs.Going.{and, ◌▸◌}
use Rattle.table.proofs.Lines.{first_link, ended_skims, from_cursor}
use Rattle.rfc3501_extension.proofs.First.{spare_pair}
use Rattle.rfc3501_extension.proofs.dsp_tail.Goals as goal

pub returns-in_err-c : goal.returns-in_err-c
unfolding plain first_link sp
returns-in_err-c c = ended_skims _ tt c.char.ensures (came_back c.branch-c.ensures c.in_err-c.is) (handed_back c.from_residual.ensures)

pub from_lang-requires : goal.from_lang-requires
unfolding leaves_of sp body_disposition
from_lang-requires c = spare_pair c.body_disposition-r.ensures (went_on c.branch-c.ensures c.in_ok-c.is) c.char.ensures c.requires tt

pub returns : goal.returns
unfolding plain sp body_disposition
returns c = and (at_depth _ tt (c.char.ensures.on _ ▸ from_cursor (went_on c.branch-c.ensures c.in_ok-c.is) c.body_disposition-r.ensures)) c.from_lang.ensures
