use Rattle.grammar.specs.Notation.{sp}
use Rattle.grammar.specs.Rfc4315.{uid_set}
use Rattle.table.proofs.Search.{line, passed}
use Rattle.rfc4315.proofs.named_uids.Goals as goal

pub returns : goal.returns
unfolding sp
returns c = let last = c.after.ensures.goes 0 uid_set (search passed) in search line
