use Rattle.grammar.specs.Rfc4315.{uid_set_member}
use Rattle.table.proofs.Cursors.{went_on, handed_back}
use Rattle.rfc4315.proofs.Uids.{uids}
use Rattle.rfc4315.proofs.uid_set_member.Goals as goal

pub returns-in_err-next : goal.returns-in_err-next
unfolding uid_set_member
returns-in_err-next c = let back = handed_back c.from_residual-in_err-next.ensures in search uids

pub returns-in_default : goal.returns-in_default
unfolding uid_set_member
returns-in_default c = let p = went_on c.branch-next.ensures c.in_ok-next.is in search uids

pub returns : goal.returns
unfolding uid_set_member
returns c = let p = went_on c.branch-next.ensures c.in_ok-next.is in search uids
