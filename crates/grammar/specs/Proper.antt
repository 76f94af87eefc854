-- WHAT IS DEMANDED OF A RESULT, for a person to read: what every result holds (demand 1), when two results are the same answer
-- (demand 3), and what it is to meet the definition (demand 2). crates/reader/proofs/Demands.antt has the theorems.
use Rattle.std.specs.Prelude.{ℕ, suc, ◌+◌, ◌*◌, ◌≤◌, ◌<◌, ◌≡◌, Bool, ◌||◌, List, [], ◌∷◌, length, take, drop, T, leb, eqb}
use Rattle.grammar.specs.Kinds.{kind_bytes, kind_nil, kind_envelope}
use Rattle.grammar.specs.Scan.{largest_32}
use Rattle.grammar.specs.Reading.{Result, result, room, node_words, kind_word, a_word, b_word}
use Rattle.grammar.specs.OpenLiteral.{after, lacking, OpenLiteral}

-- an accepted reading -----------------------------------------------------------------------------------------------------------

-- the kinds whose a and b are a start and an end: bytes, NIL, and 10 to 25
abbrev pub ranged : ℕ → Bool
ranged kind = eqb kind kind_bytes || (eqb kind kind_nil || leb kind_envelope kind)

-- the result r of a reading of s into the table t, where the answer is 0
pub record Accepted (s t : List ℕ) (r : Result) : Type 0 where
  -- inside the lent buffer: what was taken, and with it every range of a node
  pub within : r.taken ≤ length s
  pub range_order : (i : ℕ) → i < r.nodes → T (ranged (kind_word r.table i)) → a_word r.table i ≤ b_word r.table i
  pub range_within : (i : ℕ) → i < r.nodes → T (ranged (kind_word r.table i)) → b_word r.table i ≤ r.taken
  -- inside the lent table, and no word behind the nodes' is changed
  pub in_room : r.nodes ≤ room t
  pub rest : drop (node_words r.nodes) r.table ≡ drop (node_words r.nodes) t
  pub few : r.nodes ≤ 4 * r.taken + 1

-- an unfinished one ---------------------------------------------------------------------------------------------------------------

-- wanted is what is missing of a literal's content whose line end is read, else 0
pub record Waits (s : List ℕ) (wanted : ℕ) : Type 0 where
  -- by the bytes alone
  pub is : wanted ≡ lacking (after s)
  -- and where some are wanted, there is the literal that lacks them
  pub of_literal : (w : ℕ) → wanted ≡ suc w → OpenLiteral s w

-- every one -------------------------------------------------------------------------------------------------------------------------

-- all are numbers of 32 bits
abbrev pub AllFit : List ℕ → Type 0
AllFit [] = Unit {0}
AllFit (word ∷ rest) = (word ≤ largest_32) × AllFit rest

-- the result r of a call on the bytes s with the table t; `call` is what the same call gives with any table
pub record Proper (call : List ℕ → Result) (s t : List ℕ) (r : Result) : Type 0 where
  pub known_answer : r.answer ≤ 6
  pub accepted : r.answer ≡ 0 → Accepted s t r
  -- any other answer changes no word, and has the numbers that are fixed for it
  pub untouched : (r.answer ≡ 0 → ⊥) → r.table ≡ t
  pub none_taken : (r.answer ≡ 0 → ⊥) → r.taken ≡ 0
  pub none_wanted : (r.answer ≡ 1 → ⊥) → r.wanted ≡ 0
  pub no_nodes : (r.answer ≡ 0 → ⊥) → (r.answer ≡ 4 → ⊥) → r.nodes ≡ 0
  pub waits : r.answer ≡ 1 → Waits s r.wanted
  -- answer 4's count: there is no room for it, and any table with room for it is enough
  pub no_room : r.answer ≡ 4 → room t < r.nodes
  pub room_enough : r.answer ≡ 4 → (t' : List ℕ) → r.nodes ≤ room t' → (call t').answer ≡ 0
  pub room_exact : r.answer ≡ 4 → (t' : List ℕ) → r.nodes ≤ room t' → (call t').nodes ≡ r.nodes
  -- 32 bits
  pub same_length : length r.table ≡ length t
  pub taken_fits : r.taken ≤ largest_32
  pub nodes_fit : r.nodes ≤ largest_32
  pub wanted_fits : r.wanted ≤ largest_32
  pub table_fits : AllFit t → AllFit r.table

-- the same answer -------------------------------------------------------------------------------------------------------------------

-- the same numbers, and where accepted the same node words
pub record SameAnswer (r r' : Result) : Type 0 where
  pub answer : r'.answer ≡ r.answer
  pub taken : r'.taken ≡ r.taken
  pub nodes : r'.nodes ≡ r.nodes
  pub wanted : r'.wanted ≡ r.wanted
  pub node_words_same : r.answer ≡ 0 → take (node_words r.nodes) r'.table ≡ take (node_words r.nodes) r.table

-- readers ---------------------------------------------------------------------------------------------------------------------------

-- a reader: rule, bytes, table
abbrev pub Reads : Type 0
Reads = ℕ → List ℕ → List ℕ → Result

-- one that meets the definition
abbrev pub Meets : Reads → Type 0
Meets r = (n : ℕ) (s t : List ℕ) → r n s t ≡ result n s t
