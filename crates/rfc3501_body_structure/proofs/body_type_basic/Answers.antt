use Rattle.grammar.specs.Notation.{◌⋯◌, sp}
use Rattle.grammar.specs.Core.{string}
use Rattle.grammar.specs.BodyStructure.{body_fields, body_ext_1part, body_type_basic}
use Rattle.table.proofs.Bounds.{paid}
use Rattle.table.proofs.Search.{passed}
use Rattle.rfc3501_body_structure.proofs.body_type_basic.Goals as goal

pub parent-requires-clause-holds : goal.parent-requires-clause-holds
unfolding paid body_type_basic
parent-requires-clause-holds c = (c.args.left, string ⋯ sp ⋯ string ⋯ sp ⋯ body_fields ⋯ body_ext_1part, search passed)

pub returns : goal.returns
unfolding paid body_type_basic
returns c = c.parent.ensures.goes c.args.left (string ⋯ sp ⋯ string ⋯ sp ⋯ body_fields ⋯ body_ext_1part) (search passed)
