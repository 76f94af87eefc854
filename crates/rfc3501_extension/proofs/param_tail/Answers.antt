use Rattle.grammar.specs.BodyStructure.{body_param}
use Rattle.grammar.specs.Notation.{sp}
use Rattle.table.proofs.Bounds.{leaves_of}
use Rattle.table.proofs.Cursors.{went_on, came_back, handed_back}
use Rattle.table.proofs.Depth.{plain, at_depth}
use Rattle.table.proofs.Going.{and, ◌▸◌}
use Rattle.table.proofs.Lines.{first_link, ended_skims, early_back, from_cursor, named_stands}
use Rattle.rfc3501_extension.proofs.First.{spare_pair}
use Rattle.rfc3501_extension.proofs.param_tail.Goals as goal

pub returns-in_err-c : goal.returns-in_err-c
unfolding plain first_link sp
returns-in_err-c c = ended_skims _ tt c.char.ensures (came_back c.branch-c.ensures c.in_err-c.is) (handed_back c.from_residual.ensures)

pub returns-in_err-c-2 : goal.returns-in_err-c-2
unfolding plain sp body_param
returns-in_err-c-2 c =
    early_back (at_depth _ tt (c.char.ensures.on _ ▸ from_cursor (went_on c.branch-c.ensures c.in_ok-c.is) c.body_param.ensures)) (came_back c.branch-c-2.ensures c.in_err-c-2.is)
    (handed_back c.from_residual-in_err-c-2.ensures)

pub from_dsp-requires : goal.from_dsp-requires
unfolding leaves_of sp body_param
from_dsp-requires c = named_stands (went_on c.branch-c-2.ensures c.in_ok-c-2.is) (spare_pair c.body_param.ensures (went_on c.branch-c.ensures c.in_ok-c.is) c.char.ensures c.requires tt)

pub returns : goal.returns
unfolding plain sp body_param
returns c =
    and (at_depth _ tt (c.char.ensures.on _ ▸ from_cursor (went_on c.branch-c.ensures c.in_ok-c.is) c.body_param.ensures))
    (from_cursor (went_on c.branch-c-2.ensures c.in_ok-c-2.is) c.from_dsp.ensures)
