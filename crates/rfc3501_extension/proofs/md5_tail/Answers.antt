use Rattle.grammar.specs.Core.{nstring}
use Rattle.grammar.specs.Notation.{sp}
use Rattle.table.proofs.Bounds.{leaves_of}
use Rattle.table.proofs.Cursors.{went_on, came_back, handed_back}
use Rattle.table.proofs.Depth.{plain, at_depth}
use Rattle.table.proofs.Going.{and}
use Rattle.table.proofs.Lines.{early_back, from_cursor, named_stands}
use Rattle.table.proofs.Search.{spare_after}
use Rattle.rfc3501_extension.proofs.md5_tail.Goals as goal

pub returns-in_err-c : goal.returns-in_err-c
unfolding plain sp nstring
returns-in_err-c c = early_back (at_depth _ tt c.sp_nstring.ensures) (came_back c.branch-c.ensures c.in_err-c.is) (handed_back c.from_residual.ensures)

pub from_dsp-requires : goal.from_dsp-requires
unfolding leaves_of sp nstring
from_dsp-requires c = named_stands (went_on c.branch-c.ensures c.in_ok-c.is) (spare_after c.sp_nstring.ensures c.requires tt)

pub returns : goal.returns
unfolding plain sp nstring
returns c = and (at_depth _ tt c.sp_nstring.ensures) (from_cursor (went_on c.branch-c.ensures c.in_ok-c.is) c.from_dsp.ensures)
