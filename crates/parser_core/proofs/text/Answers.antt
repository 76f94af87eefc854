use Rattle.grammar.specs.Core.{text}
use Rattle.table.proofs.Cursors.{handed_back}
use Rattle.table.proofs.Search.{reads}
use Rattle.parser_core.proofs.Leaves.{run0_node_fails, run0_node, run0_word}
use Rattle.parser_core.proofs.text.Goals as goal

pub returns-in_err-next : goal.returns-in_err-next
unfolding text
returns-in_err-next c = let back = handed_back c.from_residual-in_err-next.ensures in search (run0_node_fails, reads)

pub overflow_cast-next : goal.overflow_cast-next
overflow_cast-next c = search (run0_word, reads)

pub returns : goal.returns
unfolding text
returns c = search (run0_node, reads)
