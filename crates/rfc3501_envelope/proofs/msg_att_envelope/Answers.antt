use Rattle.grammar.specs.Envelope.{msg_att_envelope}
use Rattle.table.proofs.Search.{line}
use Rattle.rfc3501_envelope.proofs.msg_att_envelope.Goals as goal

pub returns : goal.returns
unfolding msg_att_envelope
returns c = search line
