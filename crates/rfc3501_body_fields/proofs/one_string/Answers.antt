use Rattle.grammar.specs.Core.{string}
use Rattle.table.proofs.Bounds.{paid}
use Rattle.table.proofs.Cursors.{handed_back}
use Rattle.table.proofs.Trees.{lone}
use Rattle.rfc3501_body_fields.proofs.Single.{single}
use Rattle.rfc3501_body_fields.proofs.one_string.Goals as goal

pub returns-in_err-inner : goal.returns-in_err-inner
unfolding lone paid string
returns-in_err-inner c = let back = handed_back c.from_residual-in_err-inner.ensures in search single

pub returns : goal.returns
unfolding lone paid string
returns c = search single
