use Rattle.table.proofs.Search.{passed}
use Rattle.grammar.specs.Rfc5464.{entry_list}
use Rattle.rfc5464.proofs.entry_list.Goals as goal

pub returns : goal.returns
unfolding entry_list
returns c = search passed
