use Rattle.grammar.specs.Notation.{sp}
use Rattle.grammar.specs.Rfc5464.{entry_value}
use Rattle.table.proofs.Listable.{listable}
use Rattle.lists.proofs.Lists.{in_parentheses}
use Rattle.rfc5464.proofs.keyval_list.Goals as goal

pub parenthesized_nonempty_list-requires-clause-items : goal.parenthesized_nonempty_list-requires-clause-items
unfolding listable sp entry_value
parenthesized_nonempty_list-requires-clause-items c = (0, entry_value, search in_parentheses)

pub returns : goal.returns
unfolding listable sp entry_value
returns c = search in_parentheses
