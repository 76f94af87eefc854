use Rattle.grammar.specs.Notation.{opt}
use Rattle.table.proofs.Search.{passed}
use Rattle.rfc3501_body.proofs.opt_text.Goals as goal

pub returns : goal.returns
unfolding opt
returns c = search passed
