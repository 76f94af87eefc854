use Rattle.grammar.specs.BodyStructure.{body_lang}
use Rattle.grammar.specs.Notation.{sp}
use Rattle.table.proofs.Bounds.{leaves_of}
use Rattle.table.proofs.Cursors.{went_on, came_back, handed_back}
use Rattle.table.proofs.Depth.{plain, at_depth}
use Rattle.table.proofs.Going.{and, ◌▸◌}
use Rattle.table.proofs.Lines.{first_link, ended_skims, from_cursor}
use Rattle.rfc3501_extension.proofs.First.{spare_pair}
use Rattle.rfc3501_extension.proofs.lang_tail.Goals as goal

pub returns-in_err-c : goal.returns-in_err-c
unfolding plain first_link sp
returns-in_err-c c = ended_skims _ tt c.char.ensures (came_back c.branch-c.ensures c.in_err-c.is) (handed_back c.from_residual.ensures)

pub from_loc-requires : goal.from_loc-requires
unfolding leaves_of sp body_lang
from_loc-requires c = spare_pair c.body_lang-r.ensures (went_on c.branch-c.ensures c.in_ok-c.is) c.char.ensures c.requires tt

pub returns : goal.returns
unfolding plain sp body_lang
returns c = and (at_depth _ tt (c.char.ensures.on _ ▸ from_cursor (went_on c.branch-c.ensures c.in_ok-c.is) c.body_lang-r.ensures)) c.from_loc.ensures
