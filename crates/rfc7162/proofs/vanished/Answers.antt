use Rattle.grammar.specs.Notation.{◌⋯◌, any_case, space1}
use Rattle.grammar.specs.Core.{sequence_set}
use Rattle.grammar.specs.Rfc7162.{vanished}
use Rattle.table.proofs.Bounds.{paid}
use Rattle.table.proofs.Search.{passed}
use Rattle.rfc7162.proofs.vanished.Goals as goal

pub parent-requires-clause-holds : goal.parent-requires-clause-holds
unfolding paid space1 sequence_set
parent-requires-clause-holds c = (0, any_case "VANISHED" ⋯ space1 ⋯ sequence_set, search passed)

pub returns : goal.returns
unfolding paid space1 sequence_set vanished
returns c = search passed
