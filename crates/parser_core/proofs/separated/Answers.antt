use Rattle.table.proofs.Search.{passed}
use Rattle.parser_core.proofs.Lists.{items_apart}
use Rattle.parser_core.proofs.separated.Goals as goal

pub items-requires-clause-lists : goal.items-requires-clause-lists
items-requires-clause-lists g c = let by = c.requires.items.2 in let callable = by.reads.callable in (_, (_, _), items_apart {byte = c.args.byte} by (search passed))

pub returns : goal.returns
returns g c = record { goes = λ depth h by. let callable = by.reads.callable in c.items.ensures.goes depth _ (items_apart by (search passed)) }
