-- What `fill` comes to: a table with room begins with the nodes' words, and one that is just large enough holds nothing else.
use Rattle.std.proofs.Common.{ℕ, zero, suc, ◌+◌, ◌*◌, ◌/◌, ◌≤◌}
use mathlib.Core.Path.{◌≡◌, refl, sym, ap, subst, ◌∙◌}
use mathlib.Core.List.{List, [], ◌∷◌, ◌++◌, append-nil, append_assoc}
use native.Mathlib.Omega.{arith}
use lib.ListN.{length, take, drop, length-append, length-drop, take-append-drop}
use lib.Seq.{take_at, drop_at, length-take-le}
use borrow.Author.Tests.{le-leb}
use Rattle.grammar.specs.Text.{ascii}
use Rattle.grammar.specs.Kinds.{kind_list}
use Rattle.grammar.specs.Forest.{Forest, none, tree, node_of, size, count, words, beside}
use Rattle.grammar.specs.Out.{Out, took, more, refused, deep, followed_by, or_else, with_before, again, repeated}
use Rattle.grammar.specs.Scan.{Leaf, tag, tag_no_case, digits, quotes, take_while1, take_while, Scanned, ended, short, failed, leaf_found, leaf_fits, leaf_nodes, leaf_at, leaf_move, first_state, scan, content, literal_at, header_move}
use Rattle.grammar.specs.EntryName.{check_entry_name}
use Rattle.grammar.specs.Grammar.{Act, node, listed, heads, range, uid_range, dropped, act, as_range, as_uid_range, headed, Inner, G, leaf, literal, nothing, mark, seq, alt, star, does, entry, ref, Reader, named, run}
use Rattle.grammar.specs.BodyStructure.{grammar}
use Rattle.grammar.specs.Rules.{levels}
use Rattle.grammar.proofs.Tests.{branch_ind}
use Rattle.grammar.proofs.On.{On, on_took, on_more, on_refused, on_deep, on_map, on_then, at_took}
use Rattle.table.specs.Table.{as_step, then_table, else_table, parent_table, list_table, head_table, lay, over, rehead, onward, skip_to}
use Rattle.table.specs.Fill.{Filler, act_table, repeat_table, fill_with, fill_levels, fill}
use Rattle.table.specs.Cursor.{find}
use Rattle.grammar.proofs.Forests.{size_beside, words_beside, length_words}
use Rattle.table.proofs.Structure.{size_headed}
use Rattle.table.proofs.Length.{Keeps, fill_length, fill_with_length, fill_levels_length}
use lib.Dec.{leb, ltb}

-- u, made of t, begins with f's words if t has room for them. What follows them may be what an abandoned alternative left.
pub record Begins (f : Forest) (u : List ℕ) : Type 0 where
  pub rest : List ℕ
  pub is : u ≡ words f ++ rest

abbrev pub Filled : Forest → List ℕ → List ℕ → Type 0
Filled f t u = 4 * size f ≤ length t → Begins f u

-- with something before the words
pub record After (before : List ℕ) (f : Forest) (u : List ℕ) : Type 0 where
  pub rest : List ℕ
  pub is : u ≡ before ++ (words f ++ rest)

-- the table's functions, at a table that is cut where they cut it --------------------------------------------------------

onward_at : (n : ℕ) (F : List ℕ → List ℕ) (W X : List ℕ) → length W ≡ 4 * n → onward n F (W ++ X) ≡ W ++ F X
unfolding onward skip_to
onward_at n F W X l =
    let m : n ≤ length (W ++ X) / 4 = omega (arith, length-append W X) in
    rw (le-leb n (length (W ++ X) / 4) m, take_at W X (4 * n) l, drop_at W X (4 * n) l)

over_at : (k a b n : ℕ) (W X : List ℕ) → length W ≡ 4 → over k a b n (W ++ X) ≡ k ∷ a ∷ b ∷ n ∷ X
unfolding over
over_at k a b n W X l = rw (le-leb 4 (length (W ++ X)) (omega (arith, length-append W X)), drop_at W X 4 l)

cut : (t : List ℕ) → t ≡ take 4 t ++ drop 4 t
cut t = sym (take-append-drop 4 t)

cut_length : (t : List ℕ) → 4 ≤ length t → length (take 4 t) ≡ 4
cut_length t h = length-take-le 4 t h

onward_one : (F : List ℕ → List ℕ) (t : List ℕ) → 4 ≤ length t → onward 1 F t ≡ take 4 t ++ F (drop 4 t)
onward_one F t h = ap (onward 1 F) (cut t) ∙ onward_at 1 F (take 4 t) (drop 4 t) (cut_length t h)

over_front : (k a b n : ℕ) (t : List ℕ) → 4 ≤ length t → over k a b n t ≡ k ∷ a ∷ b ∷ n ∷ drop 4 t
over_front k a b n t h = ap (over k a b n) (cut t) ∙ over_at k a b n (take 4 t) (drop 4 t) (cut_length t h)

-- one node, read without the table ------------------------------------------------------------------------------------------

data Single : Forest → Type 0 where
  no_node : Single none
  one_node : {k a b : ℕ} → Single (node_of k a b)

lay_filled : (e : ℕ) (f : Forest) (t : List ℕ) → Single f → Filled f t (lay (took e f) t)
unfolding size words
lay_filled e none t no_node h = record { rest = t; is = refl }
lay_filled e (tree k a b none none) t one_node h = record { rest = drop 4 t; is = over_front k a b 1 t h }
lay_filled e (tree k a b none (tree _ _ _ _ _)) t single h = elim single [ ]
lay_filled e (tree k a b (tree _ _ _ _ _) _) t single h = elim single [ ]

-- what was found is at most one node, and laid it fills the table
abbrev Lone : Out → Type 0
Lone = On (λ e f. Single f) (λ w. Unit {0})

abbrev Fills : (List ℕ → List ℕ) → Out → Type 0
Fills write = On (λ e f. (t : List ℕ) → Filled f t (write t)) (λ w. Unit {0})

lone_fills : (o : Out) → Lone o → Fills (lay o) o
lone_fills (took e f) x = on_took (λ t. lay_filled e f t (at_took x refl))
lone_fills (more w) x = on_more tt
lone_fills refused x = on_refused
lone_fills deep x = on_deep

leaf_single : (l : Leaf) (at e v : ℕ) → Single (leaf_nodes l at e v)
unfolding leaf_nodes
leaf_single (tag word) at e v = no_node
leaf_single (tag_no_case word) at e v = no_node
leaf_single (digits largest) at e v = one_node
leaf_single quotes at e v = one_node
leaf_single (take_while1 class) at e v = no_node
leaf_single (take_while class) at e v = no_node

leaf_lone : (l : Leaf) (at : ℕ) (x : Scanned) → Lone (leaf_found l at x)
leaf_lone l at (ended e v) = branch_ind Lone (leaf_fits l v) _ _ (λ u. on_took (leaf_single l at e v)) (λ u. on_refused)
leaf_lone l at short = on_more tt
leaf_lone l at failed = on_refused

literal_lone : (len : ℕ) (x : Scanned) → Lone (content len x)
literal_lone len (ended e v) = branch_ind Lone (leb (e + v) len) _ _ (λ u. on_took one_node) (λ u. on_more tt)
literal_lone len short = on_more tt
literal_lone len failed = on_refused

range_single : (f : Forest) → Single (as_range f)
unfolding as_range
range_single none = no_node
range_single (tree k a b f none) = one_node
range_single (tree k a b f (tree k' a' b' f' g)) = one_node

uid_range_single : (f : Forest) → Single (as_uid_range f)
unfolding as_uid_range
uid_range_single none = no_node
uid_range_single (tree k a b f none) = one_node
uid_range_single (tree k a b f (tree k' a' b' f' g)) = one_node

made_lone : (o : Out) (k : ℕ → Forest → Forest) → ((e : ℕ) (f : Forest) → Single (k e f)) → Lone (followed_by o (λ e f. took e (k e f)))
made_lone (took e f) k h = on_took (h e f)
made_lone (more w) k h = on_more tt
made_lone refused k h = on_refused
made_lone deep k h = on_deep

-- structures ----------------------------------------------------------------------------------------------------------------

-- a parent before its children
parent_filled : (k a b n : ℕ) (f : Forest) (write : List ℕ → List ℕ) (t : List ℕ) → n ≡ size f + 1 → ((x : List ℕ) → Filled f x (write x))
    → Filled (tree k a b f none) t (over k a b n (onward 1 write t))
unfolding size words
parent_filled k a b n f write t e p h =
    let d = length-drop 4 t in
    let i : 4 ≤ length t = omega arith in
    let x = p (drop 4 t) (omega arith) in
    let w : n ≡ 1 + size f = omega arith in
    record {
      rest = x.rest;
      is =
          ap (over k a b n) (onward_one write t i)
          ∙ over_at k a b n (take 4 t) (write (drop 4 t)) (cut_length t i)
          ∙ ap (λ (l : List ℕ). k ∷ a ∷ b ∷ n ∷ l) x.is
          ∙ ap (λ (m : ℕ). k ∷ a ∷ b ∷ m ∷ (words f ++ x.rest)) w
          ∙ ap (λ (l : List ℕ). k ∷ a ∷ b ∷ (1 + size f) ∷ (l ++ x.rest)) (sym (append-nil (words f)));
    }

node_fills : (k at : ℕ) (o : Out) (write : List ℕ → List ℕ) → Fills write o
    → Fills (λ t. parent_table k at (as_step o) (onward 1 write t)) (followed_by o (λ e f. took e (tree k at e f none)))
node_fills k at (took e f) write x = on_took (λ t. parent_filled k at e (size f + 1) f write t refl (at_took x refl))
node_fills k at (more w) write x = on_more tt
node_fills k at refused write x = on_refused
node_fills k at deep write x = on_deep

list_fills : (o : Out) (write : List ℕ → List ℕ) → Fills write o
    → Fills (λ t. list_table o (onward 1 write t)) (followed_by o (λ e f. took e (tree kind_list (count f) 0 f none)))
list_fills (took e f) write x = on_took (λ t. parent_filled kind_list (count f) 0 (size f + 1) f write t refl (at_took x refl))
list_fills (more w) write x = on_more tt
list_fills refused write x = on_refused
list_fills deep write x = on_deep

-- the first node with other words
head_filled : (start end : ℕ) (f : Forest) (t : List ℕ) → Begins f t → Begins (headed start end f) (rehead start end (size f) t)
unfolding headed words size rehead
head_filled start end none t b = record { rest = rehead start end 0 t; is = refl }
head_filled start end (tree k x y f g) t b =
    let W = words (tree k x y f g) ++ b.rest in
    let l : 4 ≤ length W = omega arith in
    record {
      rest = b.rest;
      is =
          ap (rehead start end (1 + (size f + size g))) b.is
          ∙ rw (le-leb 4 (length W) l)
          (ap (λ (n : ℕ). k ∷ start ∷ end ∷ n ∷ ((words f ++ words g) ++ b.rest)) (omega (arith, size_beside f g))
          ∙ ap (λ (l : List ℕ). k ∷ start ∷ end ∷ (1 + size (beside f g)) ∷ (l ++ b.rest)) (sym (words_beside f g) ∙ sym (append-nil (words (beside f g)))));
    }

heads_fills : (at : ℕ) (o : Out) (write : List ℕ → List ℕ) → Fills write o
    → Fills (λ t. head_table at (as_step o) (write t)) (followed_by o (λ e f. took e (headed at e f)))
heads_fills at (took e f) write x =
    on_took (λ t h. head_filled at e f (write t) (at_took x refl t (subst (λ (n : ℕ). 4 * n ≤ length t) (size_headed at e f) h)))
heads_fills at (more w) write x = on_more tt
heads_fills at refused write x = on_refused
heads_fills at deep write x = on_deep

dropped_fills : (o : Out) → Fills (λ t. t) (followed_by o (λ e f. took e none))
unfolding words
dropped_fills (took e f) = on_took (λ t h. record { rest = t; is = refl })
dropped_fills (more w) = on_more tt
dropped_fills refused = on_refused
dropped_fills deep = on_deep

act_fills : (a : Act) (at : ℕ) (o : Out) (write : List ℕ → List ℕ) → Fills write o
    → Fills (λ t. act_table a at o write t) (followed_by o (λ e f. took e (act a at e f)))
unfolding act act_table
act_fills (node kind) at o write x = node_fills kind at o write x
act_fills listed at o write x = list_fills o write x
act_fills heads at o write x = heads_fills at o write x
act_fills range at o write x = lone_fills (followed_by o (λ e f. took e (as_range f))) (made_lone o (λ e f. as_range f) (λ e f. range_single f))
act_fills uid_range at o write x =
    lone_fills (followed_by o (λ e f. took e (as_uid_range f))) (made_lone o (λ e f. as_uid_range f) (λ e f. uid_range_single f))
act_fills dropped at o write x = dropped_fills o

-- one after another -------------------------------------------------------------------------------------------------------------

-- two forests, the second in the rest of the table
beside_filled : (f f' : Forest) (write : List ℕ → List ℕ) (t u : List ℕ) → length u ≡ length t → Filled f t u
    → ((x : List ℕ) → Filled f' x (write x)) → Filled (beside f f') t (onward (size f) write u)
beside_filled f f' write t u l p q h =
    let a = size_beside f f' in
    let x = p (omega arith) in
    let m : length u ≡ 4 * size f + length x.rest =
    ap length x.is ∙ length-append (words f) x.rest ∙ ap (λ (n : ℕ). n + length x.rest) (length_words f) in
    let y = q x.rest (omega arith) in
    record {
      rest = y.rest;
      is =
          ap (onward (size f) write) x.is
          ∙ onward_at (size f) write (words f) x.rest (length_words f)
          ∙ ap (λ (l : List ℕ). words f ++ l) y.is
          ∙ sym (append_assoc (words f) (words f') y.rest)
          ∙ rw (words_beside f f');
    }

seq_fills : (o : Out) (next : ℕ → Out) (write : List ℕ → List ℕ) (write' : ℕ → List ℕ → List ℕ)
    → ((t : List ℕ) → length (write t) ≡ length t) → Fills write o → ((e : ℕ) → Fills (write' e) (next e))
    → Fills (λ t. then_table (as_step o) (write t) (λ e n. onward n (write' e) (write t))) (followed_by o (λ e f. with_before f (next e)))
seq_fills (took e f) next write write' keeps x y =
    on_then (y e) (λ e' f' q. on_took (λ t. beside_filled f f' (write' e) t (write t) (keeps t) (at_took x refl t) q)) (λ w u. u)
seq_fills (more w) next write write' keeps x y = on_more tt
seq_fills refused next write write' keeps x y = on_refused
seq_fills deep next write write' keeps x y = on_deep

else_fills : (o : Out) (other : Out) (write write' : List ℕ → List ℕ)
    → ((t : List ℕ) → length (write t) ≡ length t) → Fills write o → Fills write' other
    → Fills (λ t. else_table (as_step o) (write t) (λ u. write' (write t))) (or_else o (λ u. other))
else_fills (took e f) other write write' keeps x y = x
else_fills (more w) other write write' keeps x y = on_more tt
else_fills refused other write write' keeps x y =
    on_map y (λ e f p t h. p (write t) (subst (λ (n : ℕ). 4 * size f ≤ n) (sym (keeps t)) h)) (λ w u. u)
else_fills deep other write write' keeps x y = on_deep

-- the turns of a repetition: after the words W of n nodes
abbrev FillsAfter : ℕ → (List ℕ → List ℕ) → Out → Type 0
FillsAfter n write =
    On (λ e f. (W X : List ℕ) → length W ≡ 4 * n → 4 * size f ≤ length X → After W f (write (W ++ X))) (λ w. Unit {0})

module _ (item : ℕ → Out) (write : ℕ → List ℕ → List ℕ) (keeps : (i : ℕ) (t : List ℕ) → length (write i t) ≡ length t)
    (fills : (i : ℕ) → Fills (write i) (item i)) where
  -- an item that was read after W, with the rest of the turns
  turn_after : (n e : ℕ) (f f' : Forest) (at : ℕ) (go : List ℕ → List ℕ) → ((t : List ℕ) → Filled f t (write at t))
      → ((W X : List ℕ) → length W ≡ 4 * (size f + n) → 4 * size f' ≤ length X → After W f' (go (W ++ X)))
      → (W X : List ℕ) → length W ≡ 4 * n → 4 * size (beside f f') ≤ length X → After W (beside f f') (go (onward n (write at) (W ++ X)))
  turn_after n e f f' at go p q W X l h =
      let a = size_beside f f' in
      let x = p X (omega arith) in
      let m : length X ≡ 4 * size f + length x.rest =
      sym (keeps at X) ∙ ap length x.is ∙ length-append (words f) x.rest ∙ ap (λ (k : ℕ). k + length x.rest) (length_words f) in
      let y = q (W ++ words f) x.rest (length-append W (words f) ∙ omega (arith, length_words f)) (omega arith) in
      record {
        rest = y.rest;
        is =
            ap go (onward_at n (write at) W X l ∙ ap (λ (z : List ℕ). W ++ z) x.is ∙ sym (append_assoc W (words f) x.rest))
            ∙ y.is
            ∙ append_assoc W (words f) (words f' ++ y.rest)
            ∙ ap (λ (z : List ℕ). W ++ z) (sym (append_assoc (words f) (words f') y.rest) ∙ rw (words_beside f f'));
      }

  turn_fills : (o : Out) (at n : ℕ) (next : ℕ → Out) (go : ℕ → ℕ → List ℕ → List ℕ)
      → Fills (write at) o → ((e m : ℕ) → FillsAfter (m + n) (go e m) (next e))
      → FillsAfter n (λ t. then_table (as_step o) (onward n (write at) t) (λ e m. go e m (onward n (write at) t))) (again o at next)
  unfolding words
  turn_fills (took e f) at n next go x y =
      branch_ind (FillsAfter n (λ t. go e (size f) (onward n (write at) t))) (ltb at e) _ _
      (λ u. on_then (y e (size f)) (λ e' f' q. on_took (turn_after n e f f' at (go e (size f)) (at_took x refl) q)) (λ w v. v))
      (λ u. on_refused)
  turn_fills (more w) at n next go x y = on_more tt
  turn_fills refused at n next go x y = on_took (λ W X l h. record { rest = write at X; is = onward_at n (write at) W X l })
  turn_fills deep at n next go x y = on_deep

  repeat_fills : (turns at n : ℕ) → FillsAfter n (λ t. repeat_table turns (λ i. as_step (item i)) write at n t) (repeated turns item at)
  unfolding repeated repeat_table
  repeat_fills zero at n = on_refused
  repeat_fills (suc turns) at n =
      turn_fills (item at) at n (λ e. repeated turns item e) (λ e m t. repeat_table turns (λ i. as_step (item i)) write e (m + n) t)
      (fills at) (λ e m. repeat_fills turns e (m + n))

-- THE THEOREM: for every grammar, at every table ----------------------------------------------------------------------------

module _ (inner : Inner → Reader) (below : Inner → Filler) (keeps : (n : Inner) → Keeps (below n))
    (fills : (n : Inner) (s : List ℕ) (at : ℕ) → Fills (below n s at) (inner n s at)) where
  filled : (g : G) (s : List ℕ) (at : ℕ) → Fills (λ t. fill_with inner below g s at t) (run inner g s at)
  unfolding run fill_with leaf_at literal_at words
  filled (leaf l) s at = lone_fills (leaf_at l s at) (leaf_lone l at (scan (leaf_move l) (first_state l) 0 (drop at s) at))
  filled literal s at = lone_fills (literal_at s at) (literal_lone (length s) (scan header_move 0 0 (drop at s) at))
  filled nothing s at = on_took (λ t h. record { rest = t; is = refl })
  filled (mark kind a) s at = on_took (λ t h. lay_filled at (node_of kind a 0) t one_node h)
  filled (seq g h) s at =
      seq_fills (run inner g s at) (λ e. run inner h s e) (λ t. fill_with inner below g s at t) (λ e t. fill_with inner below h s e t)
      (fill_with_length inner below keeps g s at) (filled g s at) (λ e. filled h s e)
  filled (alt g h) s at =
      else_fills (run inner g s at) (run inner h s at) (λ t. fill_with inner below g s at t) (λ t. fill_with inner below h s at t)
      (fill_with_length inner below keeps g s at) (filled g s at) (filled h s at)
  filled (star g) s at =
      on_map (repeat_fills (λ i. run inner g s i) (λ i t. fill_with inner below g s i t) (λ i t. fill_with_length inner below keeps g s i t)
      (λ i. filled g s i) (suc (length s)) at 0)
      (λ e f p t h. let x = p [] t refl h in record { rest = x.rest; is = x.is }) (λ w u. u)
  filled (does a g) s at = act_fills a at (run inner g s at) (λ t. fill_with inner below g s at t) (filled g s at)
  filled (entry g) s at =
      on_then (filled g s at) (λ e f p. branch_ind (Fills (λ t. fill_with inner below g s at t)) (check_entry_name (named f (take e s))) _ _
      (λ u. on_took p) (λ u. on_refused)) (λ w u. u)
  filled (ref n) s at = fills n s at

levels_filled : (d : ℕ) (n : Inner) (s : List ℕ) (at : ℕ) → Fills (fill_levels d n s at) (levels d n s at)
unfolding levels fill_levels
levels_filled zero n s at = too_deep_fills (leaf_at (tag (ascii "(")) s at)
  where
    too_deep_fills : (o : Out) → Fills (λ t. t) (followed_by o (λ e f. deep))
    too_deep_fills (took e f) = on_deep
    too_deep_fills (more w) = on_more tt
    too_deep_fills refused = on_refused
    too_deep_fills deep = on_deep
levels_filled (suc d) n s at = filled (levels d) (fill_levels d) (fill_levels_length d) (levels_filled d) (grammar n) s at

-- a table with room begins with the nodes' words
pub fill_words : (d : ℕ) (g : G) (s : List ℕ) (at : ℕ) (t : List ℕ) (e : ℕ) (f : Forest) → find d g s at ≡ took e f → 4 * size f ≤ length t
    → Begins f (fill d g s at t)
fill_words d g s at t e f p = at_took (filled (levels d) (fill_levels d) (fill_levels_length d) (levels_filled d) g s at) p t

empty : (x : List ℕ) → length x ≡ 0 → x ≡ []
empty [] h = refl
empty (y ∷ x) h = absurd (omega arith)

-- a table that is just large enough is the nodes' words, whatever stood there before
pub fill_exact : (d : ℕ) (g : G) (s : List ℕ) (at : ℕ) (t : List ℕ) (e : ℕ) (f : Forest) → find d g s at ≡ took e f → length t ≡ 4 * size f
    → fill d g s at t ≡ words f
fill_exact d g s at t e f p l =
    let z = fill_words d g s at t e f p (omega arith) in
    let m : length z.rest ≡ 0 =
    omega (arith, ap length z.is, length-append (words f) z.rest, length_words f, fill_length d g s at t) in
    z.is ∙ ap (λ (x : List ℕ). words f ++ x) (empty z.rest m) ∙ append-nil (words f)
