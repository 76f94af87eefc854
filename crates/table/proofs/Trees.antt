-- How many trees side by side a reading makes: a list counts one for each of its items.
use Prim.Native.Nat.{ℕ, ◌+◌, ◌≤◌, min, max}
use mathlib.Core.Path.{◌≡◌}
use mathlib.Core.Bool.{Bool, true, false, ◌&&◌}
use mathlib.Core.List.{List}
use native.Mathlib.Omega.{arith}
use lib.ListN.{length, drop}
use lib.Dec.{T, leb, leb→le}
use Rattle.grammar.specs.Forest.{Forest, none, tree, count, beside}
use Rattle.grammar.specs.Out.{took}
use Rattle.grammar.specs.Scan.{Leaf, tag, tag_no_case, digits, quotes, take_while1, take_while, leaf_nodes, leaf_at, leaf_found, leaf_fits, content, literal_at, header_move, leaf_move, first_state, scan, Scanned, ended, short, failed}
use Rattle.grammar.specs.Grammar.{Act, node, listed, heads, range, uid_range, dropped, act, Inner, a_body, an_extension_list, G, leaf, literal, nothing, mark, seq, alt, star, does, entry, ref}
use Rattle.grammar.specs.BodyStructure.{grammar}
use Rattle.grammar.proofs.Tests.{branch_ind, T_left, T_right, T_both}
use Rattle.grammar.proofs.On.{On, on_took, on_more, on_refused, at_took}
use Rattle.grammar.proofs.Closed.{Test, every, everywhere, Closed, grammar_keeps}
use Rattle.table.specs.Cursor.{find}

pub count_beside : (f g : Forest) → count (beside f g) ≡ count f + count g
unfolding count beside
count_beside none g = omega arith
count_beside (tree k a b x y) g = omega (arith, count_beside y g)

-- computed of a grammar: the fewest trees, the most, and whether there is a most ------------------------------------------------

unfoldable pub leaf_trees : Leaf → ℕ
leaf_trees (tag word) = 0
leaf_trees (tag_no_case word) = 0
leaf_trees (digits largest) = 1
leaf_trees quotes = 1
leaf_trees (take_while1 class) = 0
leaf_trees (take_while class) = 0

-- of an act, by those inside
unfoldable pub act_fewest : Act → ℕ → ℕ
act_fewest (node kind) n = 1
act_fewest listed n = 1
act_fewest heads n = min 1 n
act_fewest range n = min 1 n
act_fewest uid_range n = min 1 n
act_fewest dropped n = 0

unfoldable pub fewest_trees : G → ℕ
unfolding leaf_trees act_fewest
fewest_trees (leaf l) = leaf_trees l
fewest_trees literal = 1
fewest_trees nothing = 0
fewest_trees (mark kind a) = 1
fewest_trees (seq g h) = fewest_trees g + fewest_trees h
fewest_trees (alt g h) = min (fewest_trees g) (fewest_trees h)
fewest_trees (star g) = 0
fewest_trees (does a g) = act_fewest a (fewest_trees g)
fewest_trees (entry g) = fewest_trees g
fewest_trees (ref n) = 1

unfoldable pub most_trees : G → ℕ
unfolding leaf_trees
most_trees (leaf l) = leaf_trees l
most_trees literal = 1
most_trees nothing = 0
most_trees (mark kind a) = 1
most_trees (seq g h) = most_trees g + most_trees h
most_trees (alt g h) = max (most_trees g) (most_trees h)
most_trees (star g) = 0
most_trees (does a g) = 1
most_trees (entry g) = most_trees g
most_trees (ref n) = 1

unfoldable pub bounded : G → Bool
bounded (leaf l) = true
bounded literal = true
bounded nothing = true
bounded (mark kind a) = true
bounded (seq g h) = bounded g && bounded h
bounded (alt g h) = bounded g && bounded h
bounded (star g) = false
bounded (does a g) = true
bounded (entry g) = bounded g
bounded (ref n) = true

-- a reading of g makes one tree
unfoldable pub lone : G → Bool
unfolding bounded fewest_trees most_trees
lone g = bounded g && (leb 1 (fewest_trees g) && leb (most_trees g) 1)

-- the law ---------------------------------------------------------------------------------------------------------------------

pub record Trees (g : G) (f : Forest) : Type 0 where
  pub low : fewest_trees g ≤ count f
  pub high : T (bounded g) → count f ≤ most_trees g

leaf_count : (l : Leaf) (at e v : ℕ) → count (leaf_nodes l at e v) ≡ leaf_trees l
unfolding leaf_nodes leaf_trees count
leaf_count (tag word) at e v = omega arith
leaf_count (tag_no_case word) at e v = omega arith
leaf_count (digits largest) at e v = omega arith
leaf_count quotes at e v = omega arith
leaf_count (take_while1 class) at e v = omega arith
leaf_count (take_while class) at e v = omega arith

abbrev Of : G → ℕ → Forest → Type 0
Of g e f = Trees g f

leaf_tree : (l : Leaf) (at : ℕ) (x : Scanned) → On (Of (leaf l)) (λ w. Unit {0}) (leaf_found l at x)
unfolding fewest_trees most_trees
leaf_tree l at (ended e v) =
    branch_ind (On (Of (leaf l)) (λ w. Unit {0})) (leaf_fits l v) _ _
    (λ u. on_took (let z = leaf_count l at e v in record { low = omega arith; high = λ b. omega arith })) (λ u. on_refused)
leaf_tree l at short = on_more tt
leaf_tree l at failed = on_refused

literal_tree : (len : ℕ) (x : Scanned) → On (Of literal) (λ w. Unit {0}) (content len x)
unfolding fewest_trees most_trees count
literal_tree len (ended e v) =
    branch_ind (On (Of literal) (λ w. Unit {0})) (leb (e + v) len) _ _
    (λ u. on_took (record { low = omega arith; high = λ b. omega arith })) (λ u. on_more tt)
literal_tree len short = on_more tt
literal_tree len failed = on_refused

-- of an act: at least and at most so many
act_low : (a : Act) (at e n : ℕ) (f : Forest) → n ≤ count f → act_fewest a n ≤ count (act a at e f)
unfolding act act_fewest count
act_low (node kind) at e n f h = omega arith
act_low listed at e n f h = omega arith
act_low heads at e n none h = omega arith
act_low heads at e n (tree k a b f g) h = omega arith
act_low range at e n none h = omega arith
act_low range at e n (tree k a b f none) h = omega arith
act_low range at e n (tree k a b f (tree k' a' b' f' g)) h = omega arith
act_low uid_range at e n none h = omega arith
act_low uid_range at e n (tree k a b f none) h = omega arith
act_low uid_range at e n (tree k a b f (tree k' a' b' f' g)) h = omega arith
act_low dropped at e n f h = omega arith

act_high : (a : Act) (at e : ℕ) (f : Forest) → count (act a at e f) ≤ 1
unfolding act count
act_high (node kind) at e f = omega arith
act_high listed at e f = omega arith
act_high heads at e none = omega arith
act_high heads at e (tree k a b f g) = omega arith
act_high range at e none = omega arith
act_high range at e (tree k a b f none) = omega arith
act_high range at e (tree k a b f (tree k' a' b' f' g)) = omega arith
act_high uid_range at e none = omega arith
act_high uid_range at e (tree k a b f none) = omega arith
act_high uid_range at e (tree k a b f (tree k' a' b' f' g)) = omega arith
act_high dropped at e f = omega arith

inner_lone : (n : Inner) → T (lone (grammar n))
unfolding lone grammar
inner_lone a_body = tt
inner_lone an_extension_list = tt

lone_count : (g : G) (f : Forest) → T (lone g) → Trees g f → count f ≡ 1
unfolding lone
lone_count g f t x =
    let b = T_left (bounded g) (leb 1 (fewest_trees g) && leb (most_trees g) 1) t in
    let y = T_right (bounded g) (leb 1 (fewest_trees g) && leb (most_trees g) 1) t in
    let l = leb→le 1 (fewest_trees g) (T_left (leb 1 (fewest_trees g)) (leb (most_trees g) 1) y) in
    let m = leb→le (most_trees g) 1 (T_right (leb 1 (fewest_trees g)) (leb (most_trees g) 1) y) in
    let h = x.high b in
    omega (arith, x.low)

-- the law asks nothing of a grammar
abbrev nothing_asked : Test
nothing_asked = record { of_leaf = λ l. true; of_mark = λ kind a. true; of_star = λ g. true; of_does = λ a g. true }

trees_closed : Closed nothing_asked (λ g s at e f. Trees g f) (λ s at w. Unit {0})
unfolding leaf_at literal_at fewest_trees most_trees bounded count
trees_closed = record {
  at_leaf = λ l s at b t. leaf_tree l at (scan (leaf_move l) (first_state l) 0 (drop at s) at);
  at_literal = λ s at b. literal_tree (length s) (scan header_move 0 0 (drop at s) at);
  at_nothing = λ s at. record { low = omega arith; high = λ b. omega arith };
  at_mark = λ kind a s at t. record { low = omega arith; high = λ b. omega arith };
  at_seq = λ g h s at e e' f f' x y. record {
    low = omega (arith, count_beside f f', x.low, y.low);
    high = λ b. let p = x.high (T_left (bounded g) (bounded h) b) in let q = y.high (T_right (bounded g) (bounded h) b) in omega (arith, count_beside f f');
  };
  at_left = λ g h s at e f x. record { low = omega (arith, x.low); high = λ b. let p = x.high (T_left (bounded g) (bounded h) b) in omega arith };
  at_right = λ g h s at e f x. record { low = omega (arith, x.low); high = λ b. let p = x.high (T_right (bounded g) (bounded h) b) in omega arith };
  at_stop = λ g s at. record { low = omega arith; high = λ b. omega arith };
  at_again = λ g s at e e' f f' t l x y. record { low = omega arith; high = λ b. absurd b };
  at_does = λ a g s at e f t l m x. record { low = act_low a at e (fewest_trees g) f x.low; high = λ b. act_high a at e f };
  at_entry = λ g s at e f x. record { low = x.low; high = x.high };
  at_ref = λ n s at e f x. let z = lone_count (grammar n) f (inner_lone n) x in record { low = omega arith; high = λ b. omega arith };
  later = λ g s at e w f x q. tt;
}

none_asked : T (everywhere nothing_asked)
unfolding everywhere
none_asked = tt

none_asked_of : (g : G) → T (every nothing_asked g)
unfolding every
none_asked_of (leaf l) = tt
none_asked_of literal = tt
none_asked_of nothing = tt
none_asked_of (mark kind a) = tt
none_asked_of (seq g h) = T_both (every nothing_asked g) (every nothing_asked h) (none_asked_of g) (none_asked_of h)
none_asked_of (alt g h) = T_both (every nothing_asked g) (every nothing_asked h) (none_asked_of g) (none_asked_of h)
none_asked_of (star g) = none_asked_of g
none_asked_of (does a g) = none_asked_of g
none_asked_of (entry g) = none_asked_of g
none_asked_of (ref n) = tt

-- what is found by a lone grammar is one tree
pub one_tree : (d : ℕ) (g : G) (s : List ℕ) (at e : ℕ) (f : Forest) → T (lone g) → at ≤ length s → find d g s at ≡ took e f → count f ≡ 1
one_tree d g s at e f t inside p =
    lone_count g f t (at_took (grammar_keeps trees_closed none_asked d g (none_asked_of g) s at inside) p).holds
