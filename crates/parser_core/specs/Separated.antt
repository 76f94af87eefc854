-- A list of items with one byte between two of them.
use Rattle.std.specs.Prelude.{ℕ, List, [], ◌∷◌}
use Rattle.grammar.specs.Scan.{tag}
use Rattle.grammar.specs.Grammar.{G, leaf, seq}
use Rattle.table.specs.Cursor.{IResult}
use Rattle.table.specs.Promise.{Calls, ReadsBy, Goes}
use Rattle.table.specs.Lists.{Item, list_of}

-- a function reads an item
pub record ItemBy {F : Type 0} (calls : Calls F) (depth : ℕ) (g : G) (item : F) : Type 0 where
  pub reads : ReadsBy calls depth g item
  pub an_item : Item depth g

-- and the list of them was read
pub record Separated {F : Type 0} (calls : Calls F) (byte : ℕ) (item : F) (s : List ℕ) (c q : IResult) (t t' : List ℕ) : Type 0 where
  pub goes : (depth : ℕ) (g : G) → ItemBy calls depth g item → Goes depth (list_of g (seq (leaf (tag (byte ∷ []))) g)) s c q t t'
