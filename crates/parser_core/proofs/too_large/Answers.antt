use mathlib.Core.Path.{subst}
use native.Mathlib.Omega.{arith}
use Rattle.parser_core.proofs.Numbers.{Overrunning, over_on, over_ends, over_short}
use Rattle.parser_core.proofs.Scanning.{rest_byte, rest_long}
use Rattle.parser_core.proofs.too_large.Goals as goal

pub returns-then-not-is_digit : goal.returns-then-not-is_digit
returns-then-not-is_digit c =
    over_ends c.loop-b.invariant (omega (arith, rest_long c.args.s.now c.args.at, c.loop-b-test.true)) c.if-not-is_digit.true
    (rw (rest_byte c.args.s.now c.args.at c.loop-b.b-index) at c.is_digit.ensures)

pub loop-b-preserved : goal.loop-b-preserved
loop-b-preserved c =
    subst (Overrunning c.args.s.now c.args.at) (omega arith)
    (over_on c.loop-b.invariant (omega (arith, rest_long c.args.s.now c.args.at, c.loop-b-test.true)) c.if-not-is_digit.false
    (rw (rest_byte c.args.s.now c.args.at c.loop-b.b-index) at c.is_digit.ensures))

pub returns : goal.returns
returns c = over_short c.loop-b.invariant (omega (arith, rest_long c.args.s.now c.args.at, c.loop-b-test.false))
