use native.Mathlib.Omega.{arith}
use mathlib.Core.Path.{refl}
use mathlib.Core.List.{[], ◌∷◌}
use lib.ListN.{length-set}
use Rattle.reader.proofs.Words.{written, not_written}
use Rattle.reader.proofs.put_numbers.Goals as goal

pub bounds-out-1 : goal.bounds-out-1
bounds-out-1 c = simp length-set (omega arith)

pub bounds-out-2 : goal.bounds-out-2
bounds-out-2 c = simp length-set (omega arith)

pub returns-then-out-ge4 : goal.returns-then-out-ge4
returns-then-out-ge4 c = record { value = refl; out_after = written (c.args.answer ∷ c.args.taken ∷ c.args.nodes ∷ c.args.wanted ∷ []) c.args.out.now c.if-out-ge4.true }

pub returns-else-out-ge4 : goal.returns-else-out-ge4
returns-else-out-ge4 c = record { value = refl; out_after = not_written (c.args.answer ∷ c.args.taken ∷ c.args.nodes ∷ c.args.wanted ∷ []) c.args.out.now c.if-out-ge4.false }
