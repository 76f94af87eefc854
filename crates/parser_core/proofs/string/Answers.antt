use Rattle.table.proofs.Opens.{hungry}
use Rattle.grammar.specs.Core.{string, quoted}
use Rattle.parser_core.proofs.Search.{firsts}
use Rattle.parser_core.proofs.string.Goals as goal

pub returns-then-s-c : goal.returns-then-s-c
unfolding hungry string quoted
returns-then-s-c c = search firsts

pub returns-then-s-c-eq34 : goal.returns-then-s-c-eq34
returns-then-s-c-eq34 c = search firsts

pub returns : goal.returns
returns c = search firsts
