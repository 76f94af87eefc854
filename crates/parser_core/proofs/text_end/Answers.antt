use borrow.Author.Rules.{rules}
use Rattle.grammar.specs.Scan.{text_chars}
use Rattle.parser_core.proofs.Runs.{tests_text}
use Rattle.parser_core.proofs.text_end.Goals as goal

pub returns : goal.returns
returns c = c.run_end.ensures text_chars (tests_text (λ b r l p. search (p, rules)))
