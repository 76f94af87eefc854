use Rattle.std.proofs.Common.{refl, arith}
use Rattle.views.proofs.Parts.{part_within}
use Rattle.reader.proofs.Words.{shows}
use Rattle.reader.proofs.elbomavund_view.Goals as goal

pub overflow_sub-part : goal.overflow_sub-part
overflow_sub-part c = omega (arith, part_within _ _ _ c.in-Some.ensures refl)

pub returns-in-Some : goal.returns-in-Some
returns-in-Some c = shows _ c.in-Some.ensures refl c.put_part.ensures.value c.put_part.ensures.out_after

pub returns-in-None : goal.returns-in-None
returns-in-None c = shows _ c.in-None.ensures refl c.put_part-in-None.ensures.value c.put_part-in-None.ensures.out_after
