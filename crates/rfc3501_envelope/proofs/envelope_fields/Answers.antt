use Rattle.grammar.specs.Notation.{sp, closing}
use Rattle.table.proofs.Search.{line}
use Rattle.rfc3501_envelope.proofs.envelope_fields.Goals as goal

pub returns : goal.returns
unfolding sp closing
returns c = search line
