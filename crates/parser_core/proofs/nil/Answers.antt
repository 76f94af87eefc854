use Rattle.grammar.specs.Core.{nil}
use Rattle.table.proofs.Bounds.{paid}
use Rattle.table.proofs.Search.{structure}
use Rattle.parser_core.proofs.nil.Goals as goal

pub returns : goal.returns
unfolding paid nil
returns c = search structure
