use Rattle.grammar.specs.Body.{section_part}
use Rattle.table.proofs.Bounds.{leaves_of}
use Rattle.table.proofs.Lines.{named_stands, lines}
use Rattle.table.proofs.Search.{spare}
use Rattle.table.proofs.Cursors.{went_on, handed_back}
use Rattle.rfc3501_body.proofs.part_fields.Goals as goal

pub returns-in_err-c : goal.returns-in_err-c
returns-in_err-c c = let back = handed_back c.from_residual.ensures in search lines

pub opt_text-requires : goal.opt_text-requires
unfolding leaves_of section_part
opt_text-requires c = named_stands (went_on c.branch-c.ensures c.in_ok-c.is) (search spare)

pub returns : goal.returns
returns c = search lines
