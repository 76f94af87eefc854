use Rattle.parser_core.proofs.Headers.{line}
use Rattle.parser_core.proofs.line_end.Goals as goal

pub returns-then-s-at : goal.returns-then-s-at
returns-then-s-at c = search line

pub returns-then-s-at-ne13 : goal.returns-then-s-at-ne13
returns-then-s-at-ne13 c = search line

pub returns-then-s-lf : goal.returns-then-s-lf
returns-then-s-lf c = search line

pub returns-then-s-lf-ne10 : goal.returns-then-s-lf-ne10
returns-then-s-lf-ne10 c = search line

pub returns : goal.returns
returns c = search line
