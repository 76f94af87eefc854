use Rattle.table.proofs.Search.{structure}
use Rattle.table.proofs.parent.Goals as goal

pub returns : goal.returns
returns g c = record { goes = λ depth of by. let x = by.reads.reads _ _ _ _ _ (search structure) c.read-inner.ensures in search structure }
