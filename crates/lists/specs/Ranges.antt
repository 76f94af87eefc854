-- A number, or two with a colon between them.
use Rattle.std.specs.Prelude.{ℕ, ◌≡◌, List, Option, Some, None, Result, Ok, Err}
use Rattle.grammar.specs.Kinds.{kind_number}
use Rattle.grammar.specs.Forest.{Forest, none, tree, node_of}
use Rattle.grammar.specs.Out.{Out, took, more, refused, deep}
use Rattle.grammar.specs.Grammar.{alt}
use Rattle.grammar.specs.Core.{number, number_pair}
use Rattle.table.specs.declared.Failure.{Failure}
use Rattle.table.specs.declared.Failure.TheVariants.{Unfinished, Refused, TooDeep}
use Rattle.table.specs.Cursor.{find}

abbrev pub numbers : ℕ → Option ℕ → Forest
numbers first None = node_of kind_number first 0
numbers first (Some last) = tree kind_number first 0 none (node_of kind_number last 0)

-- what the definition finds where the code answers so: the place behind them, the first number, the second if there is one
abbrev pub numbers_of : Result (ℕ × ℕ × Option ℕ) Failure → Out
numbers_of (Ok (end, first, last)) = took end (numbers first last)
numbers_of (Err (Unfinished wanted)) = more wanted
numbers_of (Err Refused) = refused
numbers_of (Err TooDeep) = deep

pub record Ranges (s : List ℕ) (at : ℕ) (r : Result (ℕ × ℕ × Option ℕ) Failure) : Type 0 where
  pub is : find 0 (alt number_pair number) s at ≡ numbers_of r
