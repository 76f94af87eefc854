use Rattle.table.proofs.Bounds.{paid}
use Rattle.table.proofs.Search.{passed}
use Rattle.grammar.specs.Notation.{◌⋯◌}
use Rattle.grammar.specs.Rfc5464.{metadata_common, entry_list, metadata_unsolicited}
use Rattle.rfc5464.proofs.metadata_unsolicited.Goals as goal

pub parent-requires-clause-holds : goal.parent-requires-clause-holds
unfolding paid metadata_common entry_list
parent-requires-clause-holds c = (0, metadata_common ⋯ entry_list, search passed)

pub returns : goal.returns
unfolding paid metadata_unsolicited
returns c = search passed
