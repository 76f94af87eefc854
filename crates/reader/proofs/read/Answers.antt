use Rattle.std.proofs.Common.{arith}
use Rattle.reader.proofs.Passes.{unknown, past_the_last}
use Rattle.reader.proofs.read.Goals as goal

pub returns-in_default : goal.returns-in_default
returns-in_default c = unknown (omega arith)

pub returns-in_default-2 : goal.returns-in_default-2
returns-in_default-2 c = past_the_last (omega arith) (omega arith)
