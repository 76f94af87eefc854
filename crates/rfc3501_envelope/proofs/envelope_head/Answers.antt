use Rattle.grammar.specs.Notation.{sp, opening}
use Rattle.table.proofs.Search.{line}
use Rattle.rfc3501_envelope.proofs.envelope_head.Goals as goal

pub returns : goal.returns
unfolding sp opening
returns c = search line
