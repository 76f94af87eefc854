use Rattle.grammar.specs.Notation.{parenthesized_list}
use Rattle.grammar.specs.Core.{astring}
use Rattle.table.proofs.Cursors.{handed_back}
use Rattle.table.proofs.Lines.{named_skims}
use Rattle.table.proofs.Bounds.{paid}
use Rattle.table.proofs.Search.{reads}
use Rattle.table.proofs.Structure.{dropped_stop, dropped_done}
use Rattle.rfc3501_body.proofs.header_list.Goals as goal

pub returns-in_err-end : goal.returns-in_err-end
unfolding paid parenthesized_list astring
returns-in_err-end c = named_skims (handed_back c.from_residual-in_err-end.ensures) (search (dropped_stop, dropped_done, reads))

pub returns : goal.returns
unfolding paid parenthesized_list astring
returns c = search (dropped_stop, dropped_done, reads)
