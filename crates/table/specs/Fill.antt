-- What the table holds after a reading: the second interpreter of grammars. It follows the code, so that what an abandoned
-- alternative or the last failed item of a list wrote is there too; proofs/Words.antt says what it comes to.
use Rattle.std.specs.Prelude.{ℕ, zero, suc, ◌+◌, List, length}
use Rattle.grammar.specs.Out.{Out, took, followed_by}
use Rattle.grammar.specs.Scan.{leaf_at, literal_at}
use Rattle.grammar.specs.Grammar.{Act, node, listed, heads, range, uid_range, dropped, act, Inner, G, leaf, literal, nothing, mark, seq, alt, star, does, entry, ref, Reader, run}
use Rattle.grammar.specs.BodyStructure.{grammar}
use Rattle.grammar.specs.Rules.{levels}
use Rattle.table.specs.Cursor.{Step}
use Rattle.table.specs.Table.{as_step, then_table, else_table, parent_table, list_table, head_table, lay, over, onward}

-- a reading's bytes and place, and a table
abbrev pub Filler : Type 0
Filler = List ℕ → ℕ → List ℕ → List ℕ

-- a structure: `below` is how its children are written. A node and a list stand before their children; one that is made of
-- numbers is read without the table and put once; what is dropped is read with no table.
unfoldable pub act_table : Act → ℕ → Out → (List ℕ → List ℕ) → List ℕ → List ℕ
act_table (node kind) at o below t = parent_table kind at (as_step o) (onward 1 below t)
act_table listed at o below t = list_table o (onward 1 below t)
act_table heads at o below t = head_table at (as_step o) (below t)
act_table range at o below t = lay (followed_by o (λ end f. took end (act range at end f))) t
act_table uid_range at o below t = lay (followed_by o (λ end f. took end (act uid_range at end f))) t
act_table dropped at o below t = t

-- the turns of a repetition, each item after the n nodes so far
unfoldable pub repeat_table : ℕ → (ℕ → Step) → (ℕ → List ℕ → List ℕ) → ℕ → ℕ → List ℕ → List ℕ
repeat_table zero item write at n t = t
repeat_table (suc turns) item write at n t =
    then_table (item at) (onward n (write at) t) (λ next nodes. repeat_table turns item write next (nodes + n) (onward n (write at) t))

unfoldable pub fill_with : (Inner → Reader) → (Inner → Filler) → G → Filler
fill_with inner below (leaf l) s at t = lay (leaf_at l s at) t
fill_with inner below literal s at t = lay (literal_at s at) t
fill_with inner below nothing s at t = t
fill_with inner below (mark kind a) s at t = over kind a 0 1 t
fill_with inner below (seq g h) s at t =
    then_table (as_step (run inner g s at)) (fill_with inner below g s at t)
    (λ next nodes. onward nodes (λ u. fill_with inner below h s next u) (fill_with inner below g s at t))
fill_with inner below (alt g h) s at t =
    else_table (as_step (run inner g s at)) (fill_with inner below g s at t)
    (λ u. fill_with inner below h s at (fill_with inner below g s at t))
fill_with inner below (star g) s at t =
    repeat_table (suc (length s)) (λ i. as_step (run inner g s i)) (λ i u. fill_with inner below g s i u) at 0 t
fill_with inner below (does a g) s at t = act_table a at (run inner g s at) (λ u. fill_with inner below g s at u) t
fill_with inner below (entry g) s at t = fill_with inner below g s at t
fill_with inner below (ref n) s at t = below n s at t

-- what is written one level deeper, with so many levels left: a level too many is not written
unfoldable pub fill_levels : ℕ → Inner → Filler
fill_levels zero n s at t = t
fill_levels (suc left) n s at t = fill_with (levels left) (fill_levels left) (grammar n) s at t

-- what the table then holds, with so many levels left below g
abbrev pub fill : ℕ → G → Filler
fill depth g s at t = fill_with (levels depth) (fill_levels depth) g s at t
