use Rattle.rfc3501_body_fields.proofs.Missing.{Marked}
use Rattle.rfc3501_body_fields.proofs.absents.Given as goal

abbrev pub invariant-loop : goal.invariant-loop
invariant-loop g l = Marked l.counter g.row.N l.fn.s l.fn.c l.r l.fn.t l.t
