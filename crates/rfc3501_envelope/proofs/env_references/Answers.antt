use Rattle.grammar.specs.Envelope.{env_references}
use Rattle.table.proofs.Search.{line}
use Rattle.rfc3501_envelope.proofs.env_references.Goals as goal

pub returns : goal.returns
unfolding env_references
returns c = search line
