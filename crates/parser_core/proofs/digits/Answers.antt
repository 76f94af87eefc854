use Rattle.std.proofs.Common.{rules}
use Rattle.parser_core.proofs.Numbers.{counts_none, counts_wrong, counting_starts, counts_short, counts_ends, counting_on, counts_over}
use Rattle.parser_core.proofs.digits.Goals as goal

pub returns-then-s-at : goal.returns-then-s-at
returns-then-s-at g c = search (counts_none, rules)

pub returns-then-not-is_digit : goal.returns-then-not-is_digit
returns-then-not-is_digit g c = search (counts_wrong, rules)

pub loop-i-init : goal.loop-i-init
loop-i-init g c = search (counting_starts, rules)

pub returns-then-not-is_digit-2 : goal.returns-then-not-is_digit-2
returns-then-not-is_digit-2 g c = search (counts_ends, rules)

pub returns-in_default : goal.returns-in_default
returns-in_default g c = search (counts_over, rules)

pub loop-i-preserved : goal.loop-i-preserved
loop-i-preserved g c = search (counting_on, rules)

pub returns : goal.returns
returns g c = search (counts_short, rules)
