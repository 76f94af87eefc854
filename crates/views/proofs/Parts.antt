-- What the four tests of a view find, that a part found lies within the buffer, and that the promises leave no choice.
use Prim.Native.Nat.{ℕ, ◌≤◌, ◌<◌}
use mathlib.Core.Path.{◌≡◌, refl}
use mathlib.Core.List.{List}
use native.Mathlib.Omega.{arith}
use denote.Ref.{Bor}
use borrow.Author.Tests.{le-ltb, lt-ltb, eq-eqb, ne_eqb, le-leb, lt-leb}
use Rattle.grammar.specs.Kinds.{kind_bytes}
use Rattle.grammar.specs.Reading.{room, kind_word, a_word, b_word}
use Rattle.std.specs.Prelude.{Option, Some, None}
use Rattle.grammar.proofs.Tests.{one_result}
use Rattle.views.specs.declared.Part.{Part}
use Rattle.views.specs.View.{names_bytes, part_at, Viewed}

-- the ways through the tests ----------------------------------------------------------------------------------------

module _ (len : ℕ) (t : List ℕ) (node : ℕ) where
  pub outside : room t ≤ node → None ≡ part_at len t node
  unfolding part_at names_bytes
  outside h = simp (le-ltb node (room t) h)

  pub other_kind : node < room t → (kind_word t node ≡ kind_bytes → ⊥) → None ≡ part_at len t node
  unfolding part_at names_bytes
  other_kind h k = simp (lt-ltb node (room t) h, ne_eqb (kind_word t node) kind_bytes k)

  -- the range of a bytes node, read from its words
  module _ {start end : ℕ} (h : node < room t) (k : kind_word t node ≡ kind_bytes) (a : start ≡ a_word t node) (b : end ≡ b_word t node) where
    pub start_exceeds : end < start → None ≡ part_at len t node
    unfolding part_at names_bytes
    start_exceeds l =
        simp (lt-ltb node (room t) h, eq-eqb (kind_word t node) kind_bytes k, ← a, ← b, lt-leb start end l)

    pub end_exceeds : start ≤ end → len < end → None ≡ part_at len t node
    unfolding part_at names_bytes
    end_exceeds l m =
        simp (lt-ltb node (room t) h, eq-eqb (kind_word t node) kind_bytes k, ← a, ← b, le-leb start end l, lt-leb end len m)

    pub found : start ≤ end → end ≤ len → Some (record { start = start; end = end }) ≡ part_at len t node
    unfolding part_at names_bytes
    found l m =
        simp (lt-ltb node (room t) h, eq-eqb (kind_word t node) kind_bytes k, ← a, ← b, le-leb start end l, le-leb end len m)

-- a part found ------------------------------------------------------------------------------------------------------

-- a range of a buffer of len bytes
pub record Within (len start end : ℕ) : Type 0 where
  pub ordered : start ≤ end
  pub inside : end ≤ len

-- what is found is a range of the buffer
pub part_within : (len : ℕ) (t : List ℕ) (node : ℕ) {p : Option Part} {part : Part} → p ≡ part_at len t node → p ≡ Some part
    → Within len part.start part.end
unfolding part_at names_bytes
part_within len t node is q = record { ordered = grind arith; inside = grind arith }

-- The promises of `part_at` and `view_answer` are equations (`one_result`). Of any two parts that `view` may hand back the bytes
-- are equal, and the place.
pub one_view : {s v w : Bor (List ℕ)} {p : Option Part} → Viewed s v p → Viewed s w p → (v.now ≡ w.now) × (v.ref_ptr ≡ w.ref_ptr)
one_view v w = (one_result v.bytes w.bytes, one_result v.place w.place)
