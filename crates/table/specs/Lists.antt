-- Lists of items and structures: what the generic functions ask of what they read.
use Rattle.std.specs.Prelude.{ℕ, ◌+◌, ◌*◌, ◌≤◌, ◌<◌, ◌≡◌, List, length}
use Rattle.grammar.specs.Forest.{Forest, size, count}
use Rattle.grammar.specs.Out.{took}
use Rattle.grammar.specs.Grammar.{G, seq, star, does, listed, node}
use Rattle.table.specs.Cursor.{IResult, find}
use Rattle.table.specs.Promise.{Calls, ReadsBy, Goes}

-- a reading from `at` to `end` takes a byte, and makes one tree, with fewer nodes than four a byte
pub record OneTree (s : List ℕ) (at end : ℕ) (f : Forest) : Type 0 where
  pub forward : at < end
  pub inside : end ≤ length s
  pub pays : size f + 4 * at < 4 * end
  pub alone : count f ≡ 1

-- each reading of g does, with so many levels left below it
pub record Item (depth : ℕ) (g : G) : Type 0 where
  pub taken : (s : List ℕ) (at end : ℕ) (f : Forest) → at ≤ length s → find depth g s at ≡ took end f → OneTree s at end f

-- a function reads a first item, and another one more: of.0 and of.1
pub record ListsBy {F N : Type 0} (first_calls : Calls F) (next_calls : Calls N) (depth : ℕ) (of : G × G) (first : F) (next : N) : Type 0 where
  pub reads_first : ReadsBy first_calls depth of.0 first
  pub reads_next : ReadsBy next_calls depth of.1 next
  pub first_item : Item depth of.0
  pub next_item : Item depth of.1

-- a list: a first item, and more
abbrev pub list_of : G → G → G
list_of g h = does listed (seq g (star h))

-- and the list of them was read
pub record Listing {F N : Type 0} (first_calls : Calls F) (next_calls : Calls N) (first : F) (next : N) (s : List ℕ) (c q : IResult) (t t' : List ℕ) : Type 0 where
  pub goes : (depth : ℕ) (of : G × G) → ListsBy first_calls next_calls depth of first next → Goes depth (list_of of.0 of.1) s c q t t'

-- a reading of g makes no more nodes than four a byte
pub record Paid (depth : ℕ) (g : G) : Type 0 where
  pub within : (s : List ℕ) (at end : ℕ) (f : Forest) → at ≤ length s → find depth g s at ≡ took end f → (at ≤ end) × (end ≤ length s) × (size f + 4 * at ≤ 4 * end)

-- a function reads what stands in a structure
pub record HoldsBy {F : Type 0} (calls : Calls F) (depth kind : ℕ) (g : G) (f : F) : Type 0 where
  pub reads : ReadsBy calls depth g f
  pub pays : Paid depth (does (node kind) g)

-- and the structure was read
pub record Holding {F : Type 0} (calls : Calls F) (kind : ℕ) (f : F) (s : List ℕ) (c q : IResult) (t t' : List ℕ) : Type 0 where
  pub goes : (depth : ℕ) (g : G) → HoldsBy calls depth kind g f → Goes depth (does (node kind) g) s c q t t'
