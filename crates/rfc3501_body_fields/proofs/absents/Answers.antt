use Rattle.grammar.specs.Notation.{absent}
use Rattle.rfc3501_body_fields.proofs.Missing.{none_marked, one_marked}
use Rattle.rfc3501_body_fields.proofs.absents.Goals as goal

pub loop-init : goal.loop-init
loop-init g c = none_marked c.requires

pub loop-preserved : goal.loop-preserved
unfolding absent
loop-preserved g c = one_marked c.loop.invariant c.loop-test.true c.mark-r.ensures
