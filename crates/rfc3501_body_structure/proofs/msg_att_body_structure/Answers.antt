use Rattle.grammar.specs.BodyStructure.{msg_att_body_structure}
use Rattle.table.proofs.Depth.{plain}
use Rattle.table.proofs.Search.{levels_line}
use Rattle.rfc3501_body_structure.proofs.msg_att_body_structure.Goals as goal

pub returns : goal.returns
unfolding plain msg_att_body_structure
returns c = search levels_line
