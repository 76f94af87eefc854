-- The numbers of docs/RULES.md for each case of the answer, and the promise of a reading.
use Rattle.std.specs.Prelude.{ℕ, ◌≡◌, List}
use Rattle.grammar.specs.Reading.{Result, no_reading, result}
use Rattle.table.specs.declared.Failure.{Failure}
use Rattle.table.specs.declared.Failure.TheVariants as failure
use Rattle.reader.specs.declared.Answer.{Answer}
use Rattle.reader.specs.declared.Answer.TheVariants.{Accepted, Unfinished, NotTheGrammar, TooDeep, NoRoom, UnknownRule, TooLong}

-- answer, taken, nodes and wanted, with the table after
abbrev pub numbered : Answer → List ℕ → Result
numbered (Accepted taken nodes) t = record { answer = 0; taken = taken; nodes = nodes; wanted = 0; table = t }
numbered (Unfinished wanted) t = record { answer = 1; taken = 0; nodes = 0; wanted = wanted; table = t }
numbered NotTheGrammar t = no_reading 2 t
numbered TooDeep t = no_reading 3 t
numbered (NoRoom nodes) t = record { answer = 4; taken = 0; nodes = nodes; wanted = 0; table = t }
numbered UnknownRule t = no_reading 5 t
numbered TooLong t = no_reading 6 t

-- THE PROMISE of a reading by rule n of the buffer s with the table t: its numbers and every word of the table are the definition's
pub record Answers (n : ℕ) (s t : List ℕ) (r : Answer) (t' : List ℕ) : Type 0 where
  pub is : numbered r t' ≡ result n s t

-- the answer to a pass that failed
abbrev pub failed : Failure → Answer
failed (failure.Unfinished wanted) = Unfinished wanted
failed failure.Refused = NotTheGrammar
failed failure.TooDeep = TooDeep
