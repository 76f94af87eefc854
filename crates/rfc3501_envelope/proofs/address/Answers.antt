use Rattle.grammar.specs.Notation.{◌⋯◌, sp, opening, closing}
use Rattle.grammar.specs.Core.{nstring}
use Rattle.grammar.specs.Envelope.{address}
use Rattle.table.proofs.Bounds.{paid}
use Rattle.table.proofs.Search.{passed}
use Rattle.rfc3501_envelope.proofs.address.Goals as goal

pub parent-requires-clause-holds : goal.parent-requires-clause-holds
unfolding paid address
parent-requires-clause-holds c = (0, opening ⋯ nstring ⋯ sp ⋯ nstring ⋯ sp ⋯ nstring ⋯ sp ⋯ nstring ⋯ closing, search passed)

pub returns : goal.returns
unfolding paid address
returns c = search passed
