use Rattle.table.proofs.Listable.{listable}
use Rattle.grammar.specs.Notation.{separated_list1}
use Rattle.grammar.specs.Rfc4315.{uid_set_member, uid_set}
use Rattle.parser_core.proofs.Lists.{apart}
use Rattle.rfc4315.proofs.uid_set.Goals as goal

pub separated-requires-clause-items : goal.separated-requires-clause-items
unfolding listable uid_set_member
separated-requires-clause-items c = (0, uid_set_member, search apart)

pub returns : goal.returns
unfolding listable uid_set_member separated_list1 uid_set
returns c = search apart
