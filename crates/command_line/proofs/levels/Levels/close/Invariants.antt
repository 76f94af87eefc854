use Rattle.command_line.proofs.Stack.{Closing}
use Rattle.command_line.proofs.levels.Levels.close.Given as goal

abbrev pub invariant-loop-self : goal.invariant-loop-self
invariant-loop-self l = Closing l.self-inside.levels l.initial.self-inside.levels l.initial.self-inside.depth l.self-inside.depth l.at

abbrev pub decreases-loop-self : goal.decreases-loop-self
decreases-loop-self l = l.self-inside.depth
