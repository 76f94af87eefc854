use Rattle.table.proofs.Cursors.{went_on}
use Rattle.table.proofs.Lines.{from_cursor}
use Rattle.rfc3501_body_fields.proofs.body_param.Goals as goal

pub returns : goal.returns
returns c = from_cursor (went_on c.branch-c.ensures c.in_ok-c.is) c.body_param_from.ensures
