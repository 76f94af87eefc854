-- What the functions that only scan find: a place, or how the reading ends there.
use Prim.Native.Char.{code}
use Rattle.std.specs.Prelude.{ℕ, ◌<◌, ◌≡◌, Bool, List, length, drop, get_or, leb, Option, Some, None, Result, Ok, Err}
use Rattle.grammar.specs.Out.{Out, took, more, refused, deep, branch}
use Rattle.grammar.specs.Scan.{Leaf, leaf_at, Scanned, ended, short, failed, scan, digits_move, header_move}
use Rattle.table.specs.declared.Failure.{Failure}
use Rattle.table.specs.declared.Failure.TheVariants.{Unfinished, Refused, TooDeep}

-- runs ----------------------------------------------------------------------------------------------------------------------------

-- what a closure answers of a byte is whether it is of a class
pub record Tests (answers : ℕ → Bool → Type 0) (class : ℕ → Bool) : Type 0 where
  pub is : (b : ℕ) (r : Bool) → b < 256 → answers b r → r ≡ class b

-- where a leaf ends -------------------------------------------------------------------------------------------------------------

abbrev pub end_of : Out → Result ℕ Failure
end_of (took end f) = Ok end
end_of (more wanted) = Err (Unfinished wanted)
end_of refused = Err Refused
end_of deep = Err TooDeep

pub record Ends (l : Leaf) (s : List ℕ) (at : ℕ) (r : Result ℕ Failure) : Type 0 where
  pub is : r ≡ end_of (leaf_at l s at)

-- what `quoted_end` may assume: the opening quote stands there
pub record Opened (s : List ℕ) (at : ℕ) : Type 0 where
  pub here : at < length s
  pub quote : get_or s at 0 ≡ code "\""

-- numbers ----------------------------------------------------------------------------------------------------------------------

-- a value that is not too large
abbrev pub value_of : ℕ → ℕ → Option ℕ
value_of largest v = branch (leb v largest) (λ u. Some v) (λ u. None)

-- where the digits end, and their value; one that is too large is wrong
abbrev pub number_of : ℕ → Scanned → Result (ℕ × ℕ) Failure
number_of largest (ended end v) = branch (leb v largest) (λ u. Ok (end, v)) (λ u. Err Refused)
number_of largest short = Err (Unfinished 0)
number_of largest failed = Err Refused

pub record Counts (largest : ℕ) (s : List ℕ) (at : ℕ) (r : Result (ℕ × ℕ) Failure) : Type 0 where
  pub is : r ≡ number_of largest (scan digits_move 0 0 (drop at s) at)

-- the rest of one whose value is too large already, whatever it is
pub record Overruns (s : List ℕ) (at : ℕ) (f : Failure) : Type 0 where
  pub is : (largest value : ℕ) → largest < value → number_of largest (scan digits_move 1 value (drop at s) at) ≡ Err f

-- literals -----------------------------------------------------------------------------------------------------------------------

-- where the content begins, and how many bytes were announced
abbrev pub header_of : Scanned → Result (ℕ × ℕ) Failure
header_of (ended start count) = Ok (start, count)
header_of short = Err (Unfinished 0)
header_of failed = Err Refused

-- from a state of the header on, with a count
pub record Headers (state value : ℕ) (s : List ℕ) (at : ℕ) (h : Result (ℕ × ℕ) Failure) : Type 0 where
  pub is : h ≡ header_of (scan header_move state value (drop at s) at)
