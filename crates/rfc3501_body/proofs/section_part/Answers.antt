use Rattle.grammar.specs.Notation.{separated_list1}
use Rattle.grammar.specs.Core.{number}
use Rattle.grammar.specs.Body.{section_part}
use Rattle.table.proofs.Listable.{listable}
use Rattle.parser_core.proofs.Lists.{apart}
use Rattle.rfc3501_body.proofs.section_part.Goals as goal

pub separated-requires-clause-items : goal.separated-requires-clause-items
unfolding listable number
separated-requires-clause-items c = (0, number, search apart)

pub returns : goal.returns
unfolding listable number separated_list1 section_part
returns c = search apart
