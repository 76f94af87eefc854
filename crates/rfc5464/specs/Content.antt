-- The bytes of an astring, once it was read.
use Rattle.std.specs.Prelude.{ℕ, ◌≡◌, Bool, List, take}
use Rattle.grammar.specs.Forest.{Forest}
use Rattle.grammar.specs.Out.{took}
use Rattle.grammar.specs.EntryName.{check_entry_name}
use Rattle.grammar.specs.Grammar.{named}
use Rattle.grammar.specs.Core.{astring}
use Rattle.table.specs.Cursor.{find}

-- one stands from `at` to `next`
pub record Spelled (s : List ℕ) (at next : ℕ) : Type 0 where
  pub node : Forest
  pub is : find 0 astring s at ≡ took next node

-- whether the bytes that its node names are an entry name
pub record Checked (s : List ℕ) (at next : ℕ) (r : Bool) : Type 0 where
  pub is : (f : Forest) → find 0 astring s at ≡ took next f → r ≡ check_entry_name (named f (take next s))
