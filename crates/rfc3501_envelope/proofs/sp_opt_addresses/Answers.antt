use Rattle.grammar.specs.Notation.{sp}
use Rattle.table.proofs.Search.{passed}
use Rattle.rfc3501_envelope.proofs.sp_opt_addresses.Goals as goal

pub returns : goal.returns
unfolding sp
returns c = search passed
