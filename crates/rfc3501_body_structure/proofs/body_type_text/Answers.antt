use Rattle.grammar.specs.Notation.{◌⋯◌, any_case, sp}
use Rattle.grammar.specs.Core.{number, string}
use Rattle.grammar.specs.BodyStructure.{body_fields, body_ext_1part, body_type_text}
use Rattle.table.proofs.Bounds.{paid}
use Rattle.table.proofs.Search.{passed}
use Rattle.rfc3501_body_structure.proofs.body_type_text.Goals as goal

pub parent-requires-clause-holds : goal.parent-requires-clause-holds
unfolding paid body_type_text
parent-requires-clause-holds c = (c.args.left, any_case "\"TEXT\"" ⋯ sp ⋯ string ⋯ sp ⋯ body_fields ⋯ sp ⋯ number ⋯ body_ext_1part, search passed)

pub returns : goal.returns
unfolding paid body_type_text
returns c = c.parent.ensures.goes c.args.left (any_case "\"TEXT\"" ⋯ sp ⋯ string ⋯ sp ⋯ body_fields ⋯ sp ⋯ number ⋯ body_ext_1part) (search passed)
