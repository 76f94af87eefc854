-- What the table's functions do to a table.
use Rattle.std.specs.Prelude.{ℕ, ◌+◌, ◌*◌, ◌/◌, List, ◌∷◌, ◌++◌, length, take, drop, get_or, leb}
use Rattle.grammar.specs.Forest.{none, tree, size, count}
use Rattle.grammar.specs.Out.{Out, took, more, refused, deep, branch}
use Rattle.grammar.specs.Kinds.{kind_list}
use Rattle.table.specs.Cursor.{Step, Took, More, Refused, Deep}

-- answers ----------------------------------------------------------------------------------------------------------

-- what the code answers where the definition finds o: the nodes are counted
abbrev pub as_step : Out → Step
as_step (took end f) = Took end (size f)
as_step (more wanted) = More wanted
as_step refused = Refused
as_step deep = Deep

-- the table --------------------------------------------------------------------------------------------------------

-- where the words after n nodes begin in a table of len words, or its end
unfoldable pub skip_to : ℕ → ℕ → ℕ
skip_to len n = branch (leb n (len / 4)) (λ u. 4 * n) (λ u. len)

-- a node's words at the front of t, if t has room for them
unfoldable pub over : ℕ → ℕ → ℕ → ℕ → List ℕ → List ℕ
over kind a b n t = branch (leb 4 (length t)) (λ u. kind ∷ a ∷ b ∷ n ∷ drop 4 t) (λ u. t)

-- the table with its rest, from n nodes on, as f leaves it
unfoldable pub onward : ℕ → (List ℕ → List ℕ) → List ℕ → List ℕ
onward n f t = take (skip_to (length t) n) t ++ f (drop (skip_to (length t) n) t)

-- what is done to the table once the code has an answer: if it took something; if it failed; or either
abbrev pub then_table : Step → List ℕ → (ℕ → ℕ → List ℕ) → List ℕ
then_table (Took next nodes) t k = k next nodes
then_table (More wanted) t k = t
then_table Refused t k = t
then_table Deep t k = t

abbrev pub else_table : Step → List ℕ → (Unit {0} → List ℕ) → List ℕ
else_table (Took next nodes) t k = t
else_table (More wanted) t k = t
else_table Refused t k = k tt
else_table Deep t k = t

-- a parent's words, once its children are read
abbrev pub parent_table : ℕ → ℕ → Step → List ℕ → List ℕ
parent_table kind at r t = then_table r t (λ next nodes. over kind at next (nodes + 1) t)

-- a list's words, once its items are read
abbrev pub list_table : Out → List ℕ → List ℕ
list_table (took end f) t = over kind_list (count f) 0 (size f + 1) t
list_table (more wanted) t = t
list_table refused t = t
list_table deep t = t

-- the first node's words with another start, end and number of nodes, if t has room for a node
unfoldable pub rehead : ℕ → ℕ → ℕ → List ℕ → List ℕ
rehead start end n t = branch (leb 4 (length t)) (λ u. get_or t 0 0 ∷ start ∷ end ∷ n ∷ drop 4 t) (λ u. t)

abbrev pub head_table : ℕ → Step → List ℕ → List ℕ
head_table at r t = then_table r t (λ next nodes. rehead at next nodes t)

-- one node that was read without the table
abbrev pub lay : Out → List ℕ → List ℕ
lay (took end none) t = t
lay (took end (tree kind a b below after)) t = over kind a b 1 t
lay (more wanted) t = t
lay refused t = t
lay deep t = t
