use Rattle.table.proofs.Cursors.{went_on, came_back, handed_back}
use Rattle.table.proofs.Levels.{level_fails}
use Rattle.table.proofs.Lines.{named_skims}
use Rattle.rfc3501_body_structure.proofs.First.{level_opened}
use Rattle.rfc3501_body_structure.proofs.too_deep.Goals as goal

pub returns-in_err-char : goal.returns-in_err-char
returns-in_err-char c = named_skims (handed_back c.from_residual.ensures) (level_fails c.char.ensures (came_back c.branch-char.ensures c.in_err-char.is))

pub returns : goal.returns
returns c = level_opened c.char.ensures (went_on c.branch-char.ensures c.in_ok-char.is) c.requires
