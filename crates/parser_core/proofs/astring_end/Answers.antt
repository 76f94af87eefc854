use borrow.Author.Rules.{rules}
use Rattle.grammar.specs.Scan.{astring_chars}
use Rattle.parser_core.proofs.Runs.{tests_astring}
use Rattle.parser_core.proofs.astring_end.Goals as goal

pub returns : goal.returns
returns c = c.run_end.ensures astring_chars (tests_astring (λ b r l p. search (p, rules)))
