use Rattle.grammar.specs.Notation.{◌⋯◌, exact, opt}
use Rattle.grammar.specs.Body.{section_part, section_text}
use Rattle.table.proofs.Bounds.{paid}
use Rattle.table.proofs.Search.{passed}
use Rattle.rfc3501_body.proofs.part.Goals as goal

pub parent-requires-clause-holds : goal.parent-requires-clause-holds
unfolding paid section_part section_text opt
parent-requires-clause-holds c = (0, section_part ⋯ opt (exact "." ⋯ section_text), search passed)

pub returns : goal.returns
unfolding paid section_part section_text opt
returns c = search passed
