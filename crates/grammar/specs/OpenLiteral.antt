-- WHERE THE LITERALS LIE is decided by the bytes alone, whichever rule reads them: a small automaton over bytes, from outside a
-- literal through its header and its content. With it, the literal that is open where a buffer ends.
use Prim.Native.Char.{code}
use Rattle.std.specs.Prelude.{ℕ, zero, suc, ◌+◌, ◌-◌, ◌≤◌, ◌<◌, ◌≡◌, List, [], ◌∷◌, ◌++◌, length, take, drop, eqb}
use Rattle.grammar.specs.Kinds.{kind_bytes}
use Rattle.grammar.specs.Forest.{node_of}
use Rattle.grammar.specs.Out.{took, branch}
use Rattle.grammar.specs.Scan.{Move, on, end_before, end_after, fail, ended, scan, text_char, header_move, literal_at, largest_32}

-- the automaton -----------------------------------------------------------------------------------------------------------

-- outside a literal, with the state and value of a header's scan; after its CR, with the count; in its content, with the bytes
-- left; where no reading comes
pub data State : Type 0 where
  free : ℕ → ℕ → State
  cr : ℕ → State
  inside : ℕ → State
  dead : State

-- with so many bytes of content to come
abbrev pub to_come : ℕ → State
to_come zero = free 0 0
to_come (suc n) = inside (suc n)

-- after a text byte, and after a CR, by the move of the header's scan
abbrev pub after_text : Move → State
after_text (on state value) = free state value
after_text (end_before value) = free 0 0
after_text (end_after value) = free 0 0
after_text fail = free 0 0

abbrev pub after_cr : Move → State
after_cr (on state value) = cr value
after_cr (end_before value) = dead
after_cr (end_after value) = dead
after_cr fail = dead

-- one byte: outside, a brace always begins a header, a CR stands only in one, and a 0 or LF nowhere
abbrev pub step : State → ℕ → State
step (free state value) b =
    branch (text_char b)
    (λ u. branch (eqb b (code "{")) (λ u. free 1 0) (λ u. after_text (header_move state value b)))
    (λ u. branch (eqb b (code "\r")) (λ u. after_cr (header_move state value b)) (λ u. dead))
step (cr value) b = branch (eqb b (code "\n")) (λ u. to_come value) (λ u. dead)
step (inside zero) b = dead
step (inside (suc n)) b = to_come n
step dead b = dead

-- before the first byte
abbrev pub start : State
start = free 0 0

-- the state after these bytes
unfoldable pub walk : State → List ℕ → State
walk x [] = x
walk x (b ∷ s) = walk (step x b) s

-- from the buffer's beginning
abbrev pub after : List ℕ → State
after s = walk start s

-- the content bytes that are still to come
abbrev pub lacking : State → ℕ
lacking (free state value) = 0
lacking (cr value) = 0
lacking (inside left) = left
lacking dead = 0

-- outside every literal's content, and after no header's CR
pub data Outside : State → Type 0 where
  outside : {state value : ℕ} → Outside (free state value)

-- the literal that is open --------------------------------------------------------------------------------------------------

-- at `at` begins a literal: its header is there up to its line end, and of its content the wanted bytes are missing
pub record Wants (s : List ℕ) (at wanted : ℕ) : Type 0 where
  -- where the content starts, and the count that the header announces
  pub start : ℕ
  pub count : ℕ
  pub header : scan header_move 0 0 (drop at s) at ≡ ended start count
  pub line_end : start ≤ length s
  pub cut : length s < start + count
  pub missing : wanted ≡ (start + count) - length s
  pub narrow : count ≤ largest_32

-- THIS LITERAL, of which w + 1 bytes are missing: fixed by the buffer s before any byte is added
pub record OpenLiteral (s : List ℕ) (w : ℕ) : Type 0 where
  -- where it begins, in s, and that by the bytes before it this is in no other literal's content
  pub begins : ℕ
  pub inside : begins < length s
  pub outside : Outside (after (take begins s))
  pub wants : Wants s begins (suc w)
  -- any w + 1 bytes more are its last ones: begun at that place, with content from that start, it is complete at the new end
  pub complete : (x : List ℕ) → length x ≡ suc w
      → literal_at (s ++ x) begins ≡ took (length (s ++ x)) (node_of kind_bytes wants.start (length (s ++ x)))
