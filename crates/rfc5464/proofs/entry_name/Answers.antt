use Rattle.table.proofs.Cursors.{handed_back}
use Rattle.rfc5464.proofs.Contents.{entries}
use Rattle.rfc5464.proofs.entry_name.Goals as goal

pub returns-in_err-r : goal.returns-in_err-r
returns-in_err-r c = let back = handed_back c.from_residual-in_err-r.ensures in search entries

pub check_astring-requires-clause-spelled : goal.check_astring-requires-clause-spelled
check_astring-requires-clause-spelled c = search entries

pub returns-then-check_astring : goal.returns-then-check_astring
returns-then-check_astring c = search entries

pub returns : goal.returns
returns c = search entries
