use Rattle.grammar.specs.Rfc4551.{msg_att_mod_seq}
use Rattle.table.proofs.Search.{line}
use Rattle.rfc4551.proofs.msg_att_mod_seq.Goals as goal

pub returns : goal.returns
unfolding msg_att_mod_seq
returns c = search line
