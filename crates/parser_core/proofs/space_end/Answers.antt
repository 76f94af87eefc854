use borrow.Author.Rules.{rules}
use Rattle.grammar.specs.Scan.{blanks}
use Rattle.parser_core.proofs.Runs.{tests_blank}
use Rattle.parser_core.proofs.space_end.Goals as goal

pub returns : goal.returns
returns c = c.run_end.ensures blanks (tests_blank (λ b r l p. search (p, rules)))
