use Rattle.table.proofs.Cursors.{handed_back}
use Rattle.parser_core.proofs.Headers.{heading}
use Rattle.parser_core.proofs.literal_header.Goals as goal

pub returns-then-s-at : goal.returns-then-s-at
returns-then-s-at c = search heading

pub returns-then-s-at-ne123 : goal.returns-then-s-at-ne123
returns-then-s-at-ne123 c = search heading

pub returns-in_err-next : goal.returns-in_err-next
returns-in_err-next c = let back = handed_back c.from_residual.ensures in search heading

pub bounds-s-next : goal.bounds-s-next
bounds-s-next c = search heading

pub returns-then-s-next-ne125 : goal.returns-then-s-next-ne125
returns-then-s-next-ne125 c = search heading

pub returns : goal.returns
returns c = search heading
