use Rattle.table.proofs.Listable.{listable}
use Rattle.grammar.specs.Notation.{sp, separated_list1}
use Rattle.grammar.specs.Core.{astring}
use Rattle.parser_core.proofs.Lists.{apart}
use Rattle.lists.proofs.astrings.Goals as goal

pub separated-requires-clause-items : goal.separated-requires-clause-items
unfolding listable astring
separated-requires-clause-items c = (0, astring, search apart)

pub returns : goal.returns
unfolding listable astring separated_list1 sp
returns c = search apart
