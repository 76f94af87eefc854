use Rattle.std.proofs.Common.{length}
use Rattle.parser_core.proofs.Tags.{Tagging}
use Rattle.parser_core.proofs.tag_no_case.Given as goal

abbrev pub invariant-loop-a : goal.invariant-loop-a
invariant-loop-a l = Tagging l.word l.s l.c.place (length l.yielded)
