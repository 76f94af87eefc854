use Rattle.grammar.specs.Notation.{◌⋯◌, sp, opening, closing}
use Rattle.grammar.specs.Envelope.{envelope, env_origin, env_recipients, env_references}
use Rattle.table.proofs.Bounds.{paid}
use Rattle.table.proofs.Search.{passed}
use Rattle.rfc3501_envelope.proofs.envelope.Goals as goal

pub parent-requires-clause-holds : goal.parent-requires-clause-holds
unfolding paid envelope
parent-requires-clause-holds c = (0, opening ⋯ env_origin ⋯ sp ⋯ env_recipients ⋯ sp ⋯ env_references ⋯ closing, search passed)

pub returns : goal.returns
unfolding paid envelope
returns c = search passed
