use Rattle.table.proofs.Cursors.{went_on, came_back, handed_back}
use Rattle.table.proofs.Depth.{plain}
use Rattle.table.proofs.Lines.{first_link, named_stands, ended_skims, after_ok_skims}
use Rattle.table.proofs.Search.{line}
use Rattle.parser_core.proofs.after.Goals as goal

pub returns-in_err-next : goal.returns-in_err-next
unfolding plain first_link
returns-in_err-next g c =
    record { goes = λ depth grammar by. ended_skims _ tt c.char.ensures (came_back c.branch-next.ensures c.in_err-next.is) (handed_back c.from_residual.ensures) }

pub returns : goal.returns
unfolding plain
returns g c =
    let on = went_on c.branch-next.ensures c.in_ok-next.is in record { goes = λ depth grammar by. after_ok_skims (by.reads _ _ _ _ _ (named_stands on (search line)) c.read.ensures) on tt c.char.ensures }
