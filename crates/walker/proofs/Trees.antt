-- On a table in which the words of a forest stand, as an accepted reading leaves them, the walk finds exactly its trees.
use Prim.Native.Nat.{ℕ, zero, suc, ◌+◌, ◌*◌, ◌≤◌, ◌<◌}
use mathlib.Core.Path.{◌≡◌, refl, sym, ap, ◌∙◌}
use mathlib.Core.List.{List, [], ◌∷◌, ◌++◌, append_assoc}
use native.Mathlib.Omega.{arith}
use lib.ListN.{length, drop, get_or, length-append}
use lib.Dec.{leb}
use lib.Seq.{drop_at, drop-drop, get_or-drop}
use Rattle.std.specs.Prelude.{Some, Ok, Err}
use Rattle.grammar.specs.Forest.{Forest, none, tree, size, words}
use Rattle.grammar.specs.Out.{Out, took, more, refused, deep}
use Rattle.grammar.specs.Reading.{kind_word, a_word, b_word, nodes_word, Result, room, node_words, known_rule, length_limit, deepest_level, reading, settled}
use Rattle.grammar.specs.Reading.{result_at, result}
use Rattle.grammar.proofs.Tests.{branch_ind, apart}
use Rattle.grammar.proofs.Forests.{length_words}
use Rattle.walker.specs.Walk.{Place, node_at, tree_end, end_of, tree_at, first_child}
use Rattle.walker.specs.Walk.{next_sibling, nth_tree, nth_child, then_place}
use Rattle.walker.specs.Trees.{Stands, place_of, without, nodes_before, places, walk}
use Rattle.walker.proofs.Places.{Tree, node_inside, end_found, found_tree, limit_reached, goes_on}

-- where trees stand -------------------------------------------------------------------------------------------------

-- at the front of a table
pub stands_first : (f : Forest) (rest : List ℕ) → Stands (words f ++ rest) 0 f
stands_first f rest = let four = length_words f in record {
  rest = rest;
  there = refl;
  inside = rw (length-append (words f) rest) (omega arith);
}

module _ {t : List ℕ} {at kind a b : ℕ} {below after : Forest} (x : Stands t at (tree kind a b below after)) where
  -- past the node's own words
  behind : drop (4 * (at + 1)) t ≡ words below ++ (words after ++ x.rest)
  unfolding words
  behind =
      let z : 4 * (at + 1) ≡ 4 * at + 4 = omega arith in
      rw (z, ← drop-drop 4 (4 * at) t, x.there, append_assoc (words below) (words after) x.rest)

  -- below a node stand its children
  pub stands_below : Stands t (at + 1) below
  unfolding size
  stands_below = let i = x.inside in record { rest = words after ++ x.rest; there = behind; inside = omega arith }

  -- past its subtree the trees after it
  pub stands_after : Stands t (at + (1 + size below)) after
  unfolding size
  stands_after =
      let i = x.inside in
      let z : 4 * (at + (1 + size below)) ≡ 4 * (at + 1) + 4 * size below = omega arith in record {
        rest = x.rest;
        there = rw (z, ← drop-drop (4 * size below) (4 * (at + 1)) t, behind)
            (drop_at (words below) (words after ++ x.rest) (4 * size below) (length_words below));
        inside = omega arith;
      }

  -- its words are the definition's
  word : (i : ℕ) → get_or t (4 * at + i) 0 ≡ get_or (words (tree kind a b below after) ++ x.rest) i 0
  word i = sym (get_or-drop (4 * at) t i 0) ∙ ap (λ l. get_or l i 0) x.there

  nodes_is : nodes_word t at ≡ 1 + size below
  unfolding words
  nodes_is = word 3

  -- NODE: kind, fields and count of the node found are those of the tree
  pub node_found : node_at t at ≡ Some (record { kind = kind; a = a; b = b; nodes = 1 + size below })
  unfolding words size
  node_found =
      let i = x.inside in
      let z : 4 * at + 0 ≡ 4 * at = omega arith in
      let k : kind_word t at ≡ kind = ap (λ m. get_or t m 0) (sym z) ∙ word 0 in
      let l : a_word t at ≡ a = word 1 in
      let m : b_word t at ≡ b = word 2 in
      rw (← node_inside t at (omega arith), k, l, m, nodes_is)

  -- the tree's end, before any limit that it does not reach past
  pub tree_found : (limit : ℕ) → at + (1 + size below) ≤ limit → limit ≤ room t
      → tree_end t at limit ≡ Ok (at + (1 + size below))
  tree_found limit l m =
      let n = nodes_is in
      sym (end_found t at limit (record { limit_inside = m; some_nodes = omega arith; ends = omega arith; within = l }))

  -- END: the node's subtree ends after its nodes
  pub subtree_end : end_of t at ≡ Ok (at + (1 + size below))
  unfolding size
  subtree_end = let i = x.inside in tree_found (room t) (omega arith) (omega arith)

-- the first of the trees that stand there
pub first_of : {t : List ℕ} {at : ℕ} (f : Forest) → Stands t at f → (limit : ℕ) → limit ≡ at + size f
    → tree_at t at limit ≡ place_of f at
unfolding size tree_at
first_of {t} {at} none x limit l = rw (← limit_reached t at limit (omega arith))
first_of {t} {at} (tree kind a b below after) x limit l =
    let i = x.inside in rw (tree_found x limit (omega arith) (omega arith))

-- the children ------------------------------------------------------------------------------------------------------

module _ {t : List ℕ} {at kind a b : ℕ} {below after : Forest} (x : Stands t at (tree kind a b below after)) where
  -- FIRST CHILD: it stands behind its parent, and is there exactly if the tree has children
  pub first_child_found : first_child t at ≡ place_of below (at + 1)
  unfolding first_child
  first_child_found =
      goes_on (λ end. tree_at t (at + 1) end) (sym (subtree_end x)) refl
      ∙ first_of below (stands_below x) (at + (1 + size below)) (omega arith)

  -- NEXT SIBLING: it stands past the subtree, and is there exactly if the definition has trees after this one
  pub next_sibling_found : (limit : ℕ) → limit ≡ at + size (tree kind a b below after)
      → next_sibling t at limit ≡ place_of after (at + (1 + size below))
  unfolding next_sibling size
  next_sibling_found limit l =
      let i = x.inside in
      goes_on (λ next. tree_at t next limit) (sym (tree_found x limit (omega arith) (omega arith))) refl
      ∙ first_of after (stands_after x) limit (omega arith)

-- the trees that have n others before them
nth_found : (n : ℕ) {t : List ℕ} {at : ℕ} (f : Forest) → Stands t at f → (limit : ℕ) → limit ≡ at + size f
    → nth_tree n t at limit ≡ place_of (without n f) (at + nodes_before n f)
unfolding nth_tree without nodes_before size
nth_found zero {t} {at} f x limit l =
    let z : at + 0 ≡ at = omega arith in first_of f x limit l ∙ ap (λ m. place_of f m) (sym z)
nth_found (suc n) {t} {at} none x limit l = rw (← limit_reached t at limit (omega arith))
nth_found (suc n) {t} {at} (tree kind a b below after) x limit l =
    let i = x.inside in
    let z : at + ((1 + size below) + nodes_before n after) ≡ at + (1 + size below) + nodes_before n after = omega arith in
    goes_on (λ next. nth_tree n t next limit) (sym (tree_found x limit (omega arith) (omega arith))) refl
    ∙ nth_found n after (stands_after x) limit (omega arith) ∙ ap (λ m. place_of (without n after) m) (sym z)

-- CHILDREN: the n-th child is the first of the children without n, past the nodes of those n
pub nth_child_found : (n : ℕ) {t : List ℕ} {at kind a b : ℕ} {below after : Forest} → Stands t at (tree kind a b below after)
    → nth_child t at n ≡ place_of (without n below) (at + 1 + nodes_before n below)
unfolding nth_child
nth_child_found n {t} {at} {below = below} x =
    goes_on (λ end. nth_tree n t (at + 1) end) (sym (subtree_end x)) refl
    ∙ nth_found n below (stands_below x) (at + (1 + size below)) (omega arith)

-- the walk ----------------------------------------------------------------------------------------------------------

-- places one after the other
places_append : (at m n : ℕ) → places at (m + n) ≡ places at m ++ places (at + m) n
unfolding places
places_append at zero n =
    let y : 0 + n ≡ n = omega arith in let z : at + 0 ≡ at = omega arith in rw (y, z)
places_append at (suc m) n =
    let y : suc m + n ≡ suc (m + n) = omega arith in
    let z : at + suc m ≡ at + 1 + m = omega arith in rw (y, z) (ap (λ l. at ∷ l) (places_append (at + 1) m n))

-- WALK: it visits each node of the trees once, in order, and ends: more steps than nodes change nothing
pub walk_visits : (steps : ℕ) {t : List ℕ} {at : ℕ} (f : Forest) → Stands t at f → (limit : ℕ) → limit ≡ at + size f
    → size f ≤ steps → walk steps t limit (place_of f at) ≡ places at (size f)
unfolding walk places size
walk_visits zero none x limit l h = refl
walk_visits (suc steps) none x limit l h = refl
walk_visits zero (tree kind a b below after) x limit l h = absurd (omega arith)
walk_visits (suc steps) {t} {at} (tree kind a b below after) x limit l h =
    let first = walk_visits steps below (stands_below x) (at + (1 + size below)) (omega arith) (omega arith) in
    let later = walk_visits steps after (stands_after x) limit (omega arith) (omega arith) in
    let y : 1 + (size below + size after) ≡ suc (size below + size after) = omega arith in
    let z : at + (1 + size below) ≡ at + 1 + size below = omega arith in
    rw (subtree_end x, first_child_found x, next_sibling_found x limit l, first, later, y)
    (ap (λ l. at ∷ l) (rw z (sym (places_append (at + 1) (size below) (size after)))))

-- from the limit on a walk visits nothing
none_left : (steps : ℕ) (t : List ℕ) (at limit : ℕ) → limit ≤ at → walk steps t limit (tree_at t at limit) ≡ []
unfolding walk tree_at
none_left zero t at limit h = refl
none_left (suc steps) t at limit h = from (tree_end t at limit) refl
  where
    from : (p : Place) → tree_end t at limit ≡ p → walk (suc steps) t limit (then_place p (λ end. Ok at)) ≡ []
    from (Err why) q = refl
    from (Ok end) q =
        let x = found_tree t at limit refl q in absurd (omega (arith, x.some_nodes, x.ends, x.within))

-- one step: what stands at the place, where the same is known of the places after it
one_step : (m n : ℕ) (t : List ℕ) (at limit : ℕ)
    → ((at' limit' : ℕ) → at < at' → limit' ≤ limit
    → walk m t limit' (tree_at t at' limit') ≡ walk n t limit' (tree_at t at' limit'))
    → walk (suc m) t limit (tree_at t at limit) ≡ walk (suc n) t limit (tree_at t at limit)
unfolding walk first_child next_sibling tree_at
one_step m n t at limit same = from (tree_end t at limit) refl
  where
    from : (p : Place) → tree_end t at limit ≡ p
        → walk (suc m) t limit (then_place p (λ end. Ok at)) ≡ walk (suc n) t limit (then_place p (λ end. Ok at))
    from (Err why) q = refl
    from (Ok end) q =
        let x = found_tree t at limit refl q in
        let some = x.some_nodes in
        let ends = x.ends in
        let within = x.within in
        let inside = x.limit_inside in
        let whole : Tree t at end (room t) =
        record { limit_inside = omega arith; some_nodes = some; ends = ends; within = omega arith } in
        let subtree = end_found t at (room t) whole in
        rw (← subtree, q, same (at + 1) end (omega arith) (omega arith), same end limit (omega arith) (omega arith))

-- ENDS: on any table whatever it holds a walk ends: more steps than there are places before the limit change nothing
pub walk_ends : (m n : ℕ) (t : List ℕ) (at limit : ℕ) → limit ≤ at + m → limit ≤ at + n
    → walk m t limit (tree_at t at limit) ≡ walk n t limit (tree_at t at limit)
walk_ends zero n t at limit h i = none_left zero t at limit (omega arith) ∙ sym (none_left n t at limit (omega arith))
walk_ends (suc m) zero t at limit h i =
    none_left (suc m) t at limit (omega arith) ∙ sym (none_left zero t at limit (omega arith))
walk_ends (suc m) (suc n) t at limit h i =
    one_step m n t at limit (λ at' limit' j k. walk_ends m n t at' limit' (omega arith) (omega arith))

-- what a reading leaves ---------------------------------------------------------------------------------------------

-- of a result r where the definition finds o: o's own nodes stand at the front of the table, and are counted
pub record Leaves (o : Out) (r : Result) : Type 0 where
  pub forest : Forest
  pub read : o ≡ took r.taken forest
  pub counted : r.nodes ≡ size forest
  pub stands : Stands r.table 0 forest

-- if it is accepted
abbrev IfAccepted : Out → Result → Type 0
IfAccepted o r = r.answer ≡ 0 → Leaves o r

settled_leaves : (t : List ℕ) (o : Out) → IfAccepted o (settled t o)
settled_leaves t (took end f) =
    branch_ind (IfAccepted (took end f)) (leb (size f) (room t)) _ _
    (λ u q. record { forest = f; read = refl; counted = refl; stands = stands_first f (drop (node_words (size f)) t) })
    (λ u q. absurd (apart 4 0 tt q))
settled_leaves t (more w) = λ q. absurd (apart 1 0 tt q)
settled_leaves t refused = λ q. absurd (apart 2 0 tt q)
settled_leaves t deep = λ q. absurd (apart 3 0 tt q)

-- READING: an accepted reading leaves the definition's nodes, on which all of the above holds
pub accepted_leaves : (n : ℕ) (s t : List ℕ) → (result n s t).answer ≡ 0
    → Leaves (reading deepest_level n s) (result n s t)
unfolding result result_at
accepted_leaves n s t =
    let o = reading deepest_level n s in
    branch_ind (IfAccepted o) (known_rule n) _ _
    (λ u. branch_ind (IfAccepted o) (leb (length s) length_limit) _ _ (λ v. settled_leaves t o) (λ v q. absurd (apart 6 0 tt q)))
    (λ u q. absurd (apart 5 0 tt q))

-- so a walk of as many steps as it made nodes visits them all, once and in order
pub leaves_walk : (o : Out) (r : Result) → Leaves o r
    → walk r.nodes r.table r.nodes (tree_at r.table 0 r.nodes) ≡ places 0 r.nodes
leaves_walk o r l =
    let counted = l.counted in
    ap (λ p. walk r.nodes r.table r.nodes p) (first_of l.forest l.stands r.nodes (omega arith))
    ∙ walk_visits r.nodes l.forest l.stands r.nodes (omega arith) (omega arith) ∙ ap (λ n. places 0 n) (sym counted)
