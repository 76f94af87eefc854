use Rattle.grammar.specs.BodyStructure.{body_disposition}
use Rattle.parser_core.proofs.Dispatch.{opening_by}
use Rattle.table.proofs.Opens.{opens}
use Rattle.table.proofs.Search.{passed}
use Rattle.rfc3501_body_fields.proofs.body_disposition.Goals as goal

pub returns : goal.returns
unfolding opens body_disposition
returns c = c.nil_or.ensures.goes 0 _ (search passed) (opening_by (λ b p. rw p))
