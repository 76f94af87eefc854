use Rattle.grammar.specs.BodyStructure.{body_param}
use Rattle.parser_core.proofs.Dispatch.{opening_by}
use Rattle.table.proofs.Opens.{opens}
use Rattle.table.proofs.Search.{passed}
use Rattle.rfc3501_body_fields.proofs.body_param_from.Goals as goal

pub returns : goal.returns
unfolding opens body_param
returns c = c.nil_or.ensures.goes 0 _ (search passed) (opening_by (λ b p. rw p))
