use Rattle.table.proofs.Opens.{hungry}
use Rattle.grammar.specs.Core.{quoted}
use Rattle.parser_core.proofs.Search.{firsts}
use Rattle.parser_core.proofs.quoted.Goals as goal

pub returns-then-s-c : goal.returns-then-s-c
unfolding hungry quoted
returns-then-s-c c = search firsts

pub returns-then-s-c-ne34 : goal.returns-then-s-c-ne34
returns-then-s-c-ne34 c = search firsts
