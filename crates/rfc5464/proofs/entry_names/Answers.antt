use Rattle.table.proofs.Listable.{listable}
use Rattle.grammar.specs.Notation.{sp, separated_list1}
use Rattle.grammar.specs.Rfc5464.{entry_name}
use Rattle.grammar.specs.Core.{astring}
use Rattle.parser_core.proofs.Lists.{apart}
use Rattle.rfc5464.proofs.entry_names.Goals as goal

pub separated-requires-clause-items : goal.separated-requires-clause-items
unfolding listable entry_name astring
separated-requires-clause-items c = (0, entry_name, search apart)

pub returns : goal.returns
unfolding listable entry_name astring separated_list1 sp
returns c = search apart
