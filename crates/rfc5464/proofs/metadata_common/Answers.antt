use Rattle.grammar.specs.Rfc5464.{metadata_common}
use Rattle.table.proofs.Search.{line}
use Rattle.rfc5464.proofs.metadata_common.Goals as goal

pub returns : goal.returns
unfolding metadata_common
returns c = search line
