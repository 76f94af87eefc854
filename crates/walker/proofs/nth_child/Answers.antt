-- `nth_child` meets its promise: each turn of the loop leaves one tree less to pass.
use Rattle.std.proofs.Common.{sym, ◌∙◌, arith}
use Rattle.walker.proofs.Places.{nth_next}
use Rattle.walker.proofs.nth_child.Goals as goal

pub loop-passed-preserved : goal.loop-passed-preserved
loop-passed-preserved c = nth_next _ _ _ (omega arith) (sym c.in_ok-child.was ∙ c.tree_end.ensures) ∙ c.loop-passed.invariant
