use Rattle.table.proofs.Bounds.{paid}
use Rattle.table.proofs.Search.{passed}
use Rattle.grammar.specs.Notation.{◌⋯◌, any_case, sp}
use Rattle.grammar.specs.Core.{number}
use Rattle.grammar.specs.Rfc4315.{uid_set, resp_text_code_copy_uid}
use Rattle.rfc4315.proofs.resp_text_code_copy_uid.Goals as goal

pub parent-requires-clause-holds : goal.parent-requires-clause-holds
unfolding paid sp number uid_set
parent-requires-clause-holds c = (0, any_case "COPYUID " ⋯ number ⋯ sp ⋯ uid_set ⋯ sp ⋯ uid_set, search passed)

pub returns : goal.returns
unfolding paid resp_text_code_copy_uid
returns c = search passed
