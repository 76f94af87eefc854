use Rattle.grammar.specs.Notation.{◌⋯◌, exact, any_case, sp, opt}
use Rattle.grammar.specs.Core.{number, nstring}
use Rattle.grammar.specs.Body.{section, msg_att_body_section}
use Rattle.table.proofs.Bounds.{paid}
use Rattle.table.proofs.Search.{passed}
use Rattle.rfc3501_body.proofs.msg_att_body_section.Goals as goal

pub parent-requires-clause-holds : goal.parent-requires-clause-holds
unfolding paid msg_att_body_section
parent-requires-clause-holds c = (0, any_case "BODY" ⋯ section ⋯ opt (exact "<" ⋯ number ⋯ exact ">") ⋯ sp ⋯ nstring, search passed)

pub returns : goal.returns
unfolding paid msg_att_body_section
returns c = search passed
