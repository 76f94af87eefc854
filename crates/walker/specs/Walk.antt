-- What the walk's functions answer, on any table whatever it holds. Places are indexes of nodes.
use Rattle.std.specs.Prelude.{ℕ, zero, suc, ◌+◌, Bool, ◌&&◌, List, ltb, leb, eqb, Option, Some, None, Result, Ok, Err}
use Rattle.grammar.specs.Out.{branch}
use Rattle.grammar.specs.Reading.{room, kind_word, a_word, b_word, nodes_word}
use Rattle.walker.specs.declared.Node.{Node}
use Rattle.walker.specs.declared.NoTree.{NoTree}
use Rattle.walker.specs.declared.NoTree.TheVariants.{Nothing, Wrong}

-- a node's words ----------------------------------------------------------------------------------------------------

unfoldable pub node_at : List ℕ → ℕ → Option Node
node_at t at =
    branch (ltb at (room t))
    (λ u. Some (record { kind = kind_word t at; a = a_word t at; b = b_word t at; nodes = nodes_word t at })) (λ u. None)

unfoldable pub kind_at : List ℕ → ℕ → ℕ
kind_at t at = branch (ltb at (room t)) (λ u. kind_word t at) (λ u. 0)

-- trees -------------------------------------------------------------------------------------------------------------

-- where a tree stands, or ends; or why there is none
abbrev pub Place : Type 0
Place = Result ℕ NoTree

-- the place found goes on; what is not found stays so
abbrev pub then_place : Place → (ℕ → Place) → Place
then_place (Ok at) go = go at
then_place (Err why) go = Err why

-- a tree of at least one node begins there and ends by the limit, which lies in the table's room
unfoldable pub proper_tree : List ℕ → ℕ → ℕ → Bool
proper_tree t at limit =
    leb limit (room t) && (leb 1 (nodes_word t at) && leb (at + nodes_word t at) limit)

-- where that tree ends. At the limit there is nothing, and all else is wrong: a limit outside the room, a place past the
-- limit, a subtree of no nodes, or one that reaches past the limit.
unfoldable pub tree_end : List ℕ → ℕ → ℕ → Place
unfolding proper_tree
tree_end t at limit =
    branch (eqb at limit) (λ u. Err Nothing) (λ u. branch (proper_tree t at limit) (λ v. Ok (at + nodes_word t at)) (λ v. Err Wrong))

-- that tree's own place
unfoldable pub tree_at : List ℕ → ℕ → ℕ → Place
tree_at t at limit = then_place (tree_end t at limit) (λ end. Ok at)

-- the end of a node's subtree
abbrev pub end_of : List ℕ → ℕ → Place
end_of t at = tree_end t at (room t)

-- a first child stands behind its parent, before the end of the parent's subtree
unfoldable pub first_child : List ℕ → ℕ → Place
first_child t at = then_place (end_of t at) (λ end. tree_at t (at + 1) end)

-- a next sibling stands where a tree ends, before the limit: the end of the parent's subtree
unfoldable pub next_sibling : List ℕ → ℕ → ℕ → Place
next_sibling t at limit = then_place (tree_end t at limit) (λ next. tree_at t next limit)

-- the tree that has n others before it, from a place on
unfoldable pub nth_tree : ℕ → List ℕ → ℕ → ℕ → Place
nth_tree zero t at limit = tree_at t at limit
nth_tree (suc n) t at limit = then_place (tree_end t at limit) (λ next. nth_tree n t next limit)

unfoldable pub nth_child : List ℕ → ℕ → ℕ → Place
nth_child t at n = then_place (end_of t at) (λ end. nth_tree n t (at + 1) end)
