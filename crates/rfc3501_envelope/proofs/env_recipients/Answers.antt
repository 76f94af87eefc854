use Rattle.grammar.specs.Envelope.{env_recipients}
use Rattle.table.proofs.Search.{line}
use Rattle.rfc3501_envelope.proofs.env_recipients.Goals as goal

pub returns : goal.returns
unfolding env_recipients
returns c = search line
