use Rattle.parser_core.proofs.Tags.{byte}
use Rattle.parser_core.proofs.char.Goals as goal

pub returns-then-s-c : goal.returns-then-s-c
returns-then-s-c c = search byte

pub returns-then-s-c-2 : goal.returns-then-s-c-2
returns-then-s-c-2 c = search byte

pub returns-else-s-c-2 : goal.returns-else-s-c-2
returns-else-s-c-2 c = search byte
