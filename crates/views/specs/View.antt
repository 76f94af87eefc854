-- What a view hands back: docs/RULES.md, "Views".
use Rattle.std.specs.Prelude.{ℕ, ◌+◌, ◌-◌, ◌≡◌, Bool, true, false, ◌&&◌, List, take, drop, ltb, leb, eqb, Option, Some, None}
use Rattle.std.specs.Borrow.{Bor}
use Rattle.grammar.specs.Kinds.{kind_bytes}
use Rattle.grammar.specs.Reading.{room, kind_word, a_word, b_word}
use Rattle.views.specs.declared.Part.{Part}

-- the four conditions: a node in the table's room, of kind 4, whose start does not exceed its end, and whose end does not exceed
-- the buffer's
unfoldable pub names_bytes : ℕ → List ℕ → ℕ → Bool
names_bytes len t node =
    ltb node (room t)
    && (eqb (kind_word t node) kind_bytes && (leb (a_word t node) (b_word t node) && leb (b_word t node) len))

abbrev pub found_if : Bool → ℕ → ℕ → Option Part
found_if true start end = Some (record { start = start; end = end })
found_if false start end = None

-- the range of the node, in a buffer of len bytes
unfoldable pub part_at : ℕ → List ℕ → ℕ → Option Part
unfolding names_bytes
part_at len t node = found_if (names_bytes len t node) (a_word t node) (b_word t node)

-- where a part begins and how long it is; one that is not there is the empty one at offset 0
abbrev pub offset_of : Option Part → ℕ
offset_of (Some part) = part.start
offset_of None = 0

abbrev pub length_of : Option Part → ℕ
length_of (Some part) = part.end - part.start
length_of None = 0

-- r is that part of the caller's buffer s: its bytes, and the place in memory where they stand, so that nothing is copied
pub record Viewed (s r : Bor (List ℕ)) (p : Option Part) : Type 0 where
  pub bytes : r.now ≡ take (length_of p) (drop (offset_of p) s.now)
  pub place : r.ref_ptr ≡ (s.ref_ptr.0, offset_of p + s.ref_ptr.1)

-- the numbers of docs/RULES.md: accepted, and no such content
abbrev pub answer_of : Option Part → ℕ
answer_of (Some part) = 0
answer_of None = 7
