use Prim.Native.Nat.{◌+◌}
use Rattle.parser_core.proofs.Numbers.{Overrunning}
use Rattle.parser_core.proofs.too_large.Given as goal

abbrev pub invariant-loop-b : goal.invariant-loop-b
invariant-loop-b l = Overrunning l.s l.at (l.at + l.b-index)
