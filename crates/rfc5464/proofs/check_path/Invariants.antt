use Rattle.rfc5464.proofs.Names.{Walking}
use Rattle.rfc5464.proofs.check_path.Given as goal

abbrev pub invariant-loop-b : goal.invariant-loop-b
invariant-loop-b l = Walking l.name l.inside l.b-index
