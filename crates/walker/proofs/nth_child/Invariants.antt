-- In the loop: the tree that is looked for from `child` on is the one looked for from the first child on.
use Rattle.std.proofs.Common.{◌≡◌, ◌+◌, ◌-◌}
use Rattle.walker.specs.Walk.{nth_tree}
use Rattle.walker.proofs.nth_child.Given as goal

abbrev pub invariant-loop-passed : goal.invariant-loop-passed
invariant-loop-passed l = nth_tree (l.n - l._passed) l.t l.child l.limit ≡ nth_tree l.n l.t (l.at + 1) l.limit
