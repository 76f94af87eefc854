use Rattle.grammar.specs.Core.{nil}
use Rattle.table.proofs.Opens.{hungry}
use Rattle.table.proofs.Search.{reads}
use Rattle.parser_core.proofs.Dispatch.{nil_or_opened, nil_or_nil}
use Rattle.parser_core.proofs.nil_or.Goals as goal

pub returns-then-s-c : goal.returns-then-s-c
unfolding hungry nil
returns-then-s-c g c = record { goes = λ depth grammar by opening. search reads }

pub returns-then-s-c-eq40 : goal.returns-then-s-c-eq40
returns-then-s-c-eq40 g c = record { goes = λ depth grammar by opening. let x = by.reads _ _ _ _ _ (search reads) c.read.ensures in search (nil_or_opened, reads) }

pub returns : goal.returns
returns g c = record { goes = λ depth grammar by opening. search (nil_or_nil, reads) }
