use Rattle.grammar.specs.Envelope.{opt_addresses}
use Rattle.parser_core.proofs.Dispatch.{opening_by}
use Rattle.table.proofs.Opens.{opens}
use Rattle.table.proofs.Search.{passed}
use Rattle.rfc3501_envelope.proofs.opt_addresses.Goals as goal

pub returns : goal.returns
unfolding opens opt_addresses
returns c = c.nil_or.ensures.goes 0 _ (search passed) (opening_by (λ b p. rw p))
