-- A list of items in parentheses, one at least.
use Rattle.std.specs.Prelude.{ℕ, List}
use Rattle.grammar.specs.Grammar.{G}
use Rattle.grammar.specs.Notation.{parenthesized_nonempty_list}
use Rattle.table.specs.Cursor.{IResult}
use Rattle.table.specs.Promise.{Calls, Goes}
use Rattle.parser_core.specs.Separated.{ItemBy}

-- the list of what a function reads was read
pub record Parenthesized {F : Type 0} (calls : Calls F) (item : F) (s : List ℕ) (c q : IResult) (t t' : List ℕ) : Type 0 where
  pub goes : (depth : ℕ) (g : G) → ItemBy calls depth g item → Goes depth (parenthesized_nonempty_list g) s c q t t'
