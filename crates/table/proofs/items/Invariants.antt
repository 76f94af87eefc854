use Rattle.std.proofs.Common.{ℕ, ◌-◌, length}
use Rattle.grammar.specs.Grammar.{G}
use Rattle.table.specs.Lists.{ListsBy}
use Rattle.table.proofs.Lists.{Turns}
use Rattle.table.proofs.items.Given as goal

abbrev pub invariant-loop-more : goal.invariant-loop-more
invariant-loop-more g l =
    (depth : ℕ) (of : G × G) → ListsBy g.First.Fn g.Next.Fn depth of l.first l.next
    → Turns depth of.0 of.1 l.s l.c l.k l.initial.e l.initial.count l.initial.t l.e l.count l.t

abbrev pub decreases-loop-more : goal.decreases-loop-more
decreases-loop-more g l = length l.s - l.e.place
