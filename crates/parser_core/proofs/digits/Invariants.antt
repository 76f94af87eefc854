use Rattle.parser_core.proofs.Numbers.{Counting}
use Rattle.parser_core.proofs.digits.Given as goal

abbrev pub invariant-loop-i : goal.invariant-loop-i
invariant-loop-i g l = Counting g.row.LARGEST l.s l.at l.i l.value
