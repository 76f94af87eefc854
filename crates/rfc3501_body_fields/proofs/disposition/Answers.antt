use Rattle.grammar.specs.Notation.{◌⋯◌, sp, opening, closing}
use Rattle.grammar.specs.Core.{string}
use Rattle.grammar.specs.BodyStructure.{body_param}
use Rattle.table.proofs.Bounds.{paid}
use Rattle.table.proofs.Search.{passed}
use Rattle.rfc3501_body_fields.proofs.disposition.Goals as goal

pub parent-requires-clause-holds : goal.parent-requires-clause-holds
unfolding paid sp opening closing string body_param
parent-requires-clause-holds c = (0, opening ⋯ string ⋯ sp ⋯ body_param ⋯ closing, search passed)

pub returns : goal.returns
unfolding paid sp opening closing string body_param
returns c = search passed
