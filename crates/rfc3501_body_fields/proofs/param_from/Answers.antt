use Rattle.table.proofs.Bounds.{paid}
use Rattle.table.proofs.Search.{passed}
use Rattle.grammar.specs.Notation.{◌⋯◌, sp}
use Rattle.grammar.specs.Core.{string}
use Rattle.rfc3501_body_fields.proofs.param_from.Goals as goal

pub parent-requires-clause-holds : goal.parent-requires-clause-holds
unfolding paid sp string
parent-requires-clause-holds c = (0, string ⋯ sp ⋯ string, search passed)

pub returns : goal.returns
unfolding paid sp string
returns c = search passed
