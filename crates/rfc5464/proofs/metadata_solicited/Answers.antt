use Rattle.table.proofs.Bounds.{paid}
use Rattle.table.proofs.Search.{passed}
use Rattle.grammar.specs.Notation.{◌⋯◌, parenthesized_nonempty_list}
use Rattle.grammar.specs.Rfc5464.{metadata_common, entry_value, metadata_solicited}
use Rattle.rfc5464.proofs.metadata_solicited.Goals as goal

pub parent-requires-clause-holds : goal.parent-requires-clause-holds
unfolding paid metadata_common parenthesized_nonempty_list entry_value
parent-requires-clause-holds c = (0, metadata_common ⋯ parenthesized_nonempty_list entry_value, search passed)

pub returns : goal.returns
unfolding paid metadata_solicited
returns c = search passed
