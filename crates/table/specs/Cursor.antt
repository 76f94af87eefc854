-- What a reader answers: where it is and the nodes so far, or how the reading ended.
use Rattle.std.specs.Prelude.{ℕ, ◌+◌, Result, Ok, Err}
use Rattle.grammar.specs.Forest.{size}
use Rattle.grammar.specs.Out.{Out, took, more, refused, deep}
use Rattle.grammar.specs.Grammar.{G, Reader, run}
use Rattle.grammar.specs.Rules.{levels}
use Rattle.table.specs.declared.Cursor.{Cursor}
use Rattle.table.specs.declared.Failure.{Failure}
use Rattle.table.specs.declared.Failure.TheVariants as failure

abbrev pub IResult : Type 0
IResult = Result Cursor Failure

-- what reading a rule answers: where it ended and the nodes so far; unfinished, with the bytes that are missing of a
-- literal's content; not the grammar; too deep
pub data Step : Type 0 where
  Took : ℕ → ℕ → Step
  More : ℕ → Step
  Refused Deep : Step

-- THE MEANING of an answer. Two with one meaning are equal (proofs/Cursors.antt, `one_meaning`).
abbrev pub step : IResult → Step
step (Ok c) = Took c.place c.nodes
step (Err (failure.Unfinished wanted)) = More wanted
step (Err failure.Refused) = Refused
step (Err failure.TooDeep) = Deep

-- where the reading of a buffer begins
abbrev pub first : IResult
first = Ok (record { place = 0; nodes = 0 })

-- what the code answers where the definition finds o, behind n nodes
abbrev pub behind : ℕ → Out → Step
behind n (took end f) = Took end (size f + n)
behind n (more wanted) = More wanted
behind n refused = Refused
behind n deep = Deep

abbrev pub place_of : Step → ℕ
place_of (Took at n) = at
place_of (More wanted) = 0
place_of Refused = 0
place_of Deep = 0

abbrev pub nodes_of : Step → ℕ
nodes_of (Took at n) = n
nodes_of (More wanted) = 0
nodes_of Refused = 0
nodes_of Deep = 0

abbrev pub Stops : Step → Type 0
Stops (Took at n) = ⊥
Stops (More wanted) = Unit {0}
Stops Refused = Unit {0}
Stops Deep = Unit {0}

-- what is found in s by g from `at` on, with so many levels left below it
abbrev pub find : ℕ → G → Reader
find depth g s at = run (levels depth) g s at
