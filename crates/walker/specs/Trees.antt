-- What walking a forest of ours is to find: the definition's nodes and children, by their places in the table.
use Rattle.std.specs.Prelude.{ℕ, zero, suc, ◌+◌, ◌*◌, ◌≤◌, ◌≡◌, List, [], ◌∷◌, ◌++◌, drop, Ok, Err}
use Rattle.grammar.specs.Forest.{Forest, none, tree, size, words}
use Rattle.grammar.specs.Reading.{room}
use Rattle.walker.specs.declared.NoTree.TheVariants.{Nothing}
use Rattle.walker.specs.Walk.{Place, end_of, first_child, next_sibling}

-- the words of f stand in the table t from the node `at` on
pub record Stands (t : List ℕ) (at : ℕ) (f : Forest) : Type 0 where
  pub rest : List ℕ
  pub there : drop (4 * at) t ≡ words f ++ rest
  pub inside : at + size f ≤ room t

-- the place of the first of the trees f that stand from `at` on
abbrev pub place_of : Forest → ℕ → Place
place_of none at = Err Nothing
place_of (tree kind a b below after) at = Ok at

-- the trees of f without the first n, and how many nodes those n have
unfoldable pub without : ℕ → Forest → Forest
without zero f = f
without (suc n) none = none
without (suc n) (tree kind a b below after) = without n after

unfoldable pub nodes_before : ℕ → Forest → ℕ
nodes_before zero f = 0
nodes_before (suc n) none = 0
nodes_before (suc n) (tree kind a b below after) = (1 + size below) + nodes_before n after

-- n places from `at` on
unfoldable pub places : ℕ → ℕ → List ℕ
places at zero = []
places at (suc n) = at ∷ places (at + 1) n

-- the number in a place, 0 where there is none
abbrev pub number_of : Place → ℕ
number_of (Ok at) = at
number_of (Err why) = 0

-- a walk by the functions alone, of at most so many steps: a node, what is below it, then its next siblings before the limit
unfoldable pub walk : ℕ → List ℕ → ℕ → Place → List ℕ
walk zero t limit p = []
walk (suc steps) t limit (Err why) = []
walk (suc steps) t limit (Ok at) =
    at ∷ (walk steps t (number_of (end_of t at)) (first_child t at) ++ walk steps t limit (next_sibling t at limit))
