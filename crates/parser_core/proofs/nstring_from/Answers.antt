use Rattle.std.proofs.Common.{Ok}
use Rattle.table.proofs.Lines.{itself}
use Rattle.table.proofs.Opens.{hungry}
use Rattle.grammar.specs.Core.{nstring, string, quoted}
use Rattle.parser_core.proofs.Search.{firsts}
use Rattle.parser_core.proofs.nstring_from.Goals as goal

pub returns-then-s-c : goal.returns-then-s-c
unfolding hungry nstring string quoted
returns-then-s-c c = let on = itself (Ok c.args.c) in search firsts

pub returns-in-34 : goal.returns-in-34
returns-in-34 c = let on = itself (Ok c.args.c) in search firsts

pub returns-in-123 : goal.returns-in-123
returns-in-123 c = let on = itself (Ok c.args.c) in search firsts

pub returns-in_default : goal.returns-in_default
returns-in_default c = let on = itself (Ok c.args.c) in search firsts
