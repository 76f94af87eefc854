use Rattle.table.proofs.Listable.{listable}
use Rattle.grammar.specs.Notation.{separated_list1}
use Rattle.grammar.specs.Core.{sequence_member, sequence_set}
use Rattle.parser_core.proofs.Lists.{apart}
use Rattle.lists.proofs.sequence_set.Goals as goal

pub separated-requires-clause-items : goal.separated-requires-clause-items
unfolding listable sequence_member
separated-requires-clause-items c = (0, sequence_member, search apart)

pub returns : goal.returns
unfolding listable sequence_member separated_list1 sequence_set
returns c = search apart
