-- What the walk's functions find, as laws; true of any table. (Every promise of this crate is an equation,
-- so that any two results which it allows are equal: `one_result`, crates/grammar/proofs/Tests.antt.)
use Prim.Native.Nat.{ℕ, zero, suc, ◌+◌, ◌≤◌, ◌<◌}
use mathlib.Core.Path.{◌≡◌, refl, sym, ◌∙◌}
use mathlib.Core.Bool.{◌&&◌}
use mathlib.Core.List.{List}
use native.Mathlib.Omega.{arith}
use lib.Dec.{T, leb, eqb, leb→le, eqb→eq}
use borrow.Author.Tests.{le-ltb, lt-ltb, le-leb, eq-eqb, ne_eqb}
use Rattle.std.specs.Prelude.{Some, None, Ok, Err}
use Rattle.grammar.specs.Reading.{room, kind_word, a_word, b_word, nodes_word}
use Rattle.grammar.proofs.Tests.{branch_ind, T_left, T_right}
use Rattle.walker.specs.declared.NoTree.{NoTree}
use Rattle.walker.specs.declared.NoTree.TheVariants.{Nothing, Wrong}
use Rattle.walker.specs.Walk.{Place, node_at, kind_at, then_place, proper_tree, tree_end}
use Rattle.walker.specs.Walk.{tree_at, end_of, first_child, next_sibling, nth_tree}

-- a node's words ----------------------------------------------------------------------------------------------------

module _ (t : List ℕ) (at : ℕ) where
  pub node_outside : room t ≤ at → None ≡ node_at t at
  unfolding node_at
  node_outside h = simp (le-ltb at (room t) h)

  pub node_inside : at < room t
      → Some (record { kind = kind_word t at; a = a_word t at; b = b_word t at; nodes = nodes_word t at }) ≡ node_at t at
  unfolding node_at
  node_inside h = simp (lt-ltb at (room t) h)

  pub kind_outside : room t ≤ at → 0 ≡ kind_at t at
  unfolding kind_at
  kind_outside h = simp (le-ltb at (room t) h)

  pub kind_inside : at < room t → kind_word t at ≡ kind_at t at
  unfolding kind_at
  kind_inside h = simp (lt-ltb at (room t) h)

-- places that are found and that are not ----------------------------------------------------------------------------

-- what is no place
abbrev pub NotAt : Place → Type 0
NotAt p = (at : ℕ) → p ≡ Ok at → ⊥

-- there nothing goes on
pub halts : {p found : Place} (go : ℕ → Place) → p ≡ found → NotAt p → p ≡ then_place found go
halts {p} go same not_at = rw (← same) (stays p not_at)
  where
    stays : (p : Place) → NotAt p → p ≡ then_place p go
    stays (Ok at) not_at = absurd (not_at at refl)
    stays (Err why) not_at = refl

-- and from a place it does
pub goes_on : {p found : Place} {at : ℕ} (go : ℕ → Place) → p ≡ found → p ≡ Ok at → then_place found go ≡ go at
goes_on go same is = rw (← same, is) refl

none_at : {R : Type 0} {why : NoTree} {at : ℕ} → ◌≡◌ {A = Place} (Err why) (Ok at) → R
none_at q = let z : ◌≡◌ {A = ℕ} 0 1 = cc in absurd (omega arith)

-- trees -------------------------------------------------------------------------------------------------------------

-- in the table t a tree stands from `at` to `end`, before the limit
pub record Tree (t : List ℕ) (at end limit : ℕ) : Type 0 where
  pub limit_inside : limit ≤ room t
  pub some_nodes : 1 ≤ nodes_word t at
  pub ends : end ≡ at + nodes_word t at
  pub within : end ≤ limit

module _ (t : List ℕ) (at limit : ℕ) where
  tested : T (proper_tree t at limit) → Tree t at (at + nodes_word t at) limit
  unfolding proper_tree
  tested u =
      let i = leb limit (room t) in
      let j = leb 1 (nodes_word t at) in
      let k = leb (at + nodes_word t at) limit in
      let v = T_right i (j && k) u in record {
        limit_inside = leb→le limit (room t) (T_left i (j && k) u);
        some_nodes = leb→le 1 (nodes_word t at) (T_left j k v);
        ends = refl;
        within = leb→le (at + nodes_word t at) limit (T_right j k v);
      }

  -- such a tree's end is found
  pub end_found : {end : ℕ} → Tree t at end limit → Ok end ≡ tree_end t at limit
  unfolding tree_end
  end_found {end} x =
      let some = x.some_nodes in
      let ends = x.ends in
      let within = x.within in
      simp (
        ne_eqb at limit (λ e. omega arith),
        le-leb limit (room t) x.limit_inside,
        le-leb 1 (nodes_word t at) some,
        le-leb (at + nodes_word t at) limit (omega arith),
        ends,
      )

  -- and only of such a tree
  pub found_tree : {p : Place} {end : ℕ} → p ≡ tree_end t at limit → p ≡ Ok end → Tree t at end limit
  unfolding tree_end
  found_tree {p} {end} is q =
      branch_ind (λ (o : Place). o ≡ Ok end → Tree t at end limit) (eqb at limit) _ _ (λ u r. none_at r)
      (λ u. branch_ind (λ (o : Place). o ≡ Ok end → Tree t at end limit) (proper_tree t at limit) _ _ (λ v r. is_end (tested v) r)
      (λ v r. none_at r)) (sym is ∙ q)
    where
      is_end : {e : ℕ} → Tree t at e limit → ◌≡◌ {A = Place} (Ok e) (Ok end) → Tree t at end limit
      is_end {e = e} x r = let z : e ≡ end = cc in rw z at x

  -- at the limit there is nothing
  pub limit_reached : at ≡ limit → Err Nothing ≡ tree_end t at limit
  unfolding tree_end
  limit_reached e = simp (eq-eqb at limit e)

  -- elsewhere, where there is no such tree, the table is wrong
  pub no_tree : (at ≡ limit → ⊥) → (Tree t at (at + nodes_word t at) limit → ⊥) → Err Wrong ≡ tree_end t at limit
  unfolding tree_end
  no_tree not_limit not_tree =
      branch_ind (λ (p : Place). Err Wrong ≡ p) (eqb at limit) _ _ (λ u. absurd (not_limit (eqb→eq at limit u)))
      (λ u. branch_ind (λ (p : Place). Err Wrong ≡ p) (proper_tree t at limit) _ _ (λ v. absurd (not_tree (tested v))) (λ v. refl))

-- FORWARD: on any table whatever it holds, a place found lies further on and before the limit, so every walk ends ------

-- what goes on to a place came from one
record Came (p : Place) (go : ℕ → Place) (place : ℕ) : Type 0 where
  from : ℕ
  is : p ≡ Ok from
  goes : go from ≡ Ok place

came : (p : Place) (go : ℕ → Place) {place : ℕ} → then_place p go ≡ Ok place → Came p go place
came (Ok from) go q = record { from = from; is = refl; goes = q }
came (Err why) go q = none_at q

-- between two places
pub record Between (low place limit : ℕ) : Type 0 where
  pub further : low ≤ place
  pub before : place < limit

pub tree_forward : (t : List ℕ) (at limit : ℕ) {place : ℕ} → tree_at t at limit ≡ Ok place → Between at place limit
unfolding tree_at
tree_forward t at limit {place} q =
    let c = came (tree_end t at limit) (λ end. Ok at) q in
    let x = found_tree t at limit refl c.is in
    let same = c.goes in
    let z : at ≡ place = cc in record { further = omega arith; before = omega (arith, x.some_nodes, x.ends, x.within) }

pub child_forward : (t : List ℕ) (at : ℕ) {place : ℕ} → first_child t at ≡ Ok place → Between (at + 1) place (room t)
unfolding first_child
child_forward t at q =
    let c = came (end_of t at) (λ end. tree_at t (at + 1) end) q in
    let x = found_tree t at (room t) refl c.is in
    let y = tree_forward t (at + 1) c.from c.goes in
    record { further = y.further; before = omega (arith, x.within, y.before) }

pub sibling_forward : (t : List ℕ) (at limit : ℕ) {place : ℕ} → next_sibling t at limit ≡ Ok place
    → Between (at + 1) place limit
unfolding next_sibling
sibling_forward t at limit q =
    let c = came (tree_end t at limit) (λ next. tree_at t next limit) q in
    let x = found_tree t at limit refl c.is in
    let y = tree_forward t c.from limit c.goes in
    record { further = omega (arith, x.some_nodes, x.ends, y.further); before = y.before }

-- counting trees ----------------------------------------------------------------------------------------------------

-- one tree less from the next one on
pub nth_next : {n m : ℕ} (t : List ℕ) (at limit : ℕ) {next : ℕ} → n ≡ suc m → Ok next ≡ tree_end t at limit
    → nth_tree m t next limit ≡ nth_tree n t at limit
unfolding nth_tree
nth_next t at limit less e = rw (less, ← e) refl

-- with no end of the first there is no later one
pub nth_halts : (n : ℕ) (t : List ℕ) (at limit : ℕ) {p : Place} → 0 < n → p ≡ tree_end t at limit → NotAt p
    → p ≡ nth_tree n t at limit
unfolding nth_tree
nth_halts zero t at limit h e not_at = absurd (omega arith)
nth_halts (suc n) t at limit h e not_at = halts (λ next. nth_tree n t next limit) e not_at

-- none before it: the tree itself
pub nth_none : (n : ℕ) (t : List ℕ) (at limit : ℕ) → n ≤ 0 → tree_at t at limit ≡ nth_tree n t at limit
unfolding nth_tree
nth_none zero t at limit h = refl
nth_none (suc n) t at limit h = absurd (omega arith)
