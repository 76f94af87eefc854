use Rattle.grammar.specs.Kinds.{kind_pair}
use Rattle.grammar.specs.Grammar.{does, node}
use Rattle.grammar.specs.Notation.{◌⋯◌, sp}
use Rattle.grammar.specs.Core.{string}
use Rattle.table.proofs.Listable.{listable}
use Rattle.lists.proofs.Lists.{in_parentheses}
use Rattle.rfc3501_body_fields.proofs.some_params.Goals as goal

pub parenthesized_nonempty_list-requires-clause-items : goal.parenthesized_nonempty_list-requires-clause-items
unfolding listable sp string
parenthesized_nonempty_list-requires-clause-items c = (0, does (node kind_pair) (string ⋯ sp ⋯ string), search in_parentheses)

pub returns : goal.returns
unfolding listable sp string
returns c = search in_parentheses
