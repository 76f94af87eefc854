-- The sample reading of `4:2,7` as a uid set: a list of a range and a single uid, walked; and the same table made wrong.
use Rattle.std.specs.Prelude.{ℕ, ◌≡◌, refl, List, [], ◌∷◌, Option, Some, None, Ok, Err}
use Rattle.grammar.specs.Kinds.{kind_range, kind_uid, kind_list}
use Rattle.walker.specs.declared.Node.{Node}
use Rattle.walker.specs.declared.NoTree.TheVariants.{Nothing, Wrong}
use Rattle.walker.specs.Walk.{Place, node_at, end_of, tree_end, first_child, next_sibling, nth_tree, nth_child, tree_at}
use Rattle.walker.specs.Trees.{walk}

-- the table with so many nodes in the list's subtree and in the range's
abbrev uid_set : ℕ → ℕ → List ℕ
uid_set all first =
    kind_list ∷ 2 ∷ 0 ∷ all ∷ kind_range ∷ 2 ∷ 4 ∷ first ∷ kind_uid ∷ 7 ∷ 7 ∷ 1 ∷ []

-- what is asked of a table: the node at 1 and past the room; the end at 0; the first child of 0 and of the leaf 1; the next
-- siblings of 1 and 2 before the end 3; the second and third child of 0; and the walk from 0 on
record Walked (t : List ℕ) : Type 0 where
  node : Option Node
  outside : Option Node
  end : Place
  child : Place
  none_below : Place
  sibling : Place
  last : Place
  second : Place
  third : Place
  visited : List ℕ

abbrev walked : (t : List ℕ) → Walked t
walked t = record {
  node = node_at t 1;
  outside = node_at t 3;
  end = end_of t 0;
  child = first_child t 0;
  none_below = first_child t 1;
  sibling = next_sibling t 1 3;
  last = next_sibling t 2 3;
  second = nth_child t 0 1;
  third = nth_child t 0 2;
  visited = walk 3 t 3 (tree_at t 0 3);
}

pub right : walked (uid_set 3 1) ≡ record {
  node = Some (record { kind = kind_range; a = 2; b = 4; nodes = 1 });
  outside = None;
  end = Ok 3;
  child = Ok 1;
  none_below = Err Nothing;
  sibling = Ok 2;
  last = Err Nothing;
  second = Ok 2;
  third = Err Nothing;
  visited = 0 ∷ 1 ∷ 2 ∷ [];
}
unfolding node_at tree_end tree_at first_child next_sibling nth_tree nth_child walk
right = refl

-- the list says one node more than there is room for
pub past_the_room : walked (uid_set 4 1) ≡ record {
  node = Some (record { kind = kind_range; a = 2; b = 4; nodes = 1 });
  outside = None;
  end = Err Wrong;
  child = Err Wrong;
  none_below = Err Nothing;
  sibling = Ok 2;
  last = Err Nothing;
  second = Err Wrong;
  third = Err Wrong;
  visited = [];
}
unfolding node_at tree_end tree_at first_child next_sibling nth_tree nth_child walk
past_the_room = refl

-- the range says no node, or reaches past its parent
pub none_counted : first_child (uid_set 3 0) 0 ≡ Err Wrong
unfolding tree_end tree_at first_child
none_counted = refl

pub past_the_parent : first_child (uid_set 2 2) 0 ≡ Err Wrong
unfolding tree_end tree_at first_child
past_the_parent = refl
