use Rattle.grammar.specs.Rfc4315.{resp_text_code_uid_not_sticky}
use Rattle.table.proofs.Bounds.{paid}
use Rattle.table.proofs.Search.{structure}
use Rattle.rfc4315.proofs.resp_text_code_uid_not_sticky.Goals as goal

pub returns : goal.returns
unfolding paid resp_text_code_uid_not_sticky
returns c = search structure
