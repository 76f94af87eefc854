use Rattle.grammar.specs.Notation.{paren_delimited}
use Rattle.table.proofs.Search.{line}
use Rattle.rfc3501_envelope.proofs.some_addresses.Goals as goal

pub returns : goal.returns
unfolding paren_delimited
returns c = search line
