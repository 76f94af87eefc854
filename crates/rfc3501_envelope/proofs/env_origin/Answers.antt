use Rattle.grammar.specs.Envelope.{env_origin}
use Rattle.table.proofs.Search.{line}
use Rattle.rfc3501_envelope.proofs.env_origin.Goals as goal

pub returns : goal.returns
unfolding env_origin
returns c = search line
