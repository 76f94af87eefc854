use Rattle.table.proofs.Bounds.{paid}
use Rattle.table.proofs.Search.{passed}
use Rattle.grammar.specs.Notation.{◌⋯◌, sp}
use Rattle.grammar.specs.Core.{nstring}
use Rattle.grammar.specs.Rfc5464.{entry_name, entry_value}
use Rattle.rfc5464.proofs.entry_value.Goals as goal

pub parent-requires-clause-holds : goal.parent-requires-clause-holds
unfolding paid sp entry_name nstring
parent-requires-clause-holds c = (0, entry_name ⋯ sp ⋯ nstring, search passed)

pub returns : goal.returns
unfolding paid entry_value
returns c = search passed
