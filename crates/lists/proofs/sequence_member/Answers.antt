use Rattle.grammar.specs.Core.{sequence_member}
use Rattle.table.proofs.Cursors.{went_on, handed_back}
use Rattle.lists.proofs.Members.{ranges}
use Rattle.lists.proofs.sequence_member.Goals as goal

pub returns-in_err-next : goal.returns-in_err-next
unfolding sequence_member
returns-in_err-next c = let back = handed_back c.from_residual-in_err-next.ensures in search ranges

pub returns : goal.returns
unfolding sequence_member
returns c = let p = went_on c.branch-next.ensures c.in_ok-next.is in search ranges
