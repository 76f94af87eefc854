-- What the functions for other languages promise: the reading's and the view's numbers, in words that the caller lends.
use Rattle.std.specs.Prelude.{ℕ, ◌≡◌, Bool, true, false, List, [], ◌∷◌, ◌++◌, length, drop, leb}
use Rattle.grammar.specs.Reading.{Result, result}
use Rattle.views.specs.View.{part_at, answer_of, offset_of, length_of}

abbrev pub front_if : Bool → List ℕ → List ℕ → List ℕ
front_if true numbers out = numbers ++ drop (length numbers) out
front_if false numbers out = out

-- numbers at the front of the caller's words; where these are too few, none is written
unfoldable pub in_front : List ℕ → List ℕ → List ℕ
in_front numbers out = front_if (leb (length numbers) (length out)) numbers out

-- answer, taken, nodes and wanted, in this order
abbrev pub numbers : Result → List ℕ
numbers r = r.answer ∷ r.taken ∷ r.nodes ∷ r.wanted ∷ []

-- THE PROMISE of elbomavund_read: what is returned, the table and the words that the caller lends, by the definition of a reading
pub record Reports (n : ℕ) (s t out : List ℕ) (r : ℕ) (t' out' : List ℕ) : Type 0 where
  pub answer : r ≡ (result n s t).answer
  pub table : t' ≡ (result n s t).table
  pub words : out' ≡ in_front (numbers (result n s t)) out

-- THE PROMISE of elbomavund_view: the answer 0 or 7, and where the part begins and how long it is, the empty one at offset 0 on 7
pub record Shows (len : ℕ) (t : List ℕ) (node : ℕ) (out : List ℕ) (r : ℕ) (out' : List ℕ) : Type 0 where
  pub answer : r ≡ answer_of (part_at len t node)
  pub words : out' ≡ in_front (offset_of (part_at len t node) ∷ length_of (part_at len t node) ∷ []) out
