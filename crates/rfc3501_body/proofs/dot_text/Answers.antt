use Rattle.table.proofs.Search.{passed}
use Rattle.rfc3501_body.proofs.dot_text.Goals as goal

pub returns : goal.returns
returns c = search passed
