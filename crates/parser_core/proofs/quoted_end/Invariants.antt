use Prim.Native.Nat.{◌-◌, ◌≤◌}
use lib.ListN.{length}
use Rattle.parser_core.proofs.Quoting.{Quoting}
use Rattle.parser_core.proofs.quoted_end.Given as goal

abbrev pub invariant-loop-i : goal.invariant-loop-i
invariant-loop-i l = (l.initial.i ≤ l.i) × Quoting l.s l.at l.i

abbrev pub decreases-loop-i : goal.decreases-loop-i
decreases-loop-i l = length l.s - l.i

abbrev pub invariant-scan : goal.invariant-scan
invariant-scan l = Quoting l.s l.at l.i

abbrev pub decreases-scan : goal.decreases-scan
decreases-scan l = length l.s - l.i
