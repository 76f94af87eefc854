-- RANGES: in an accepted reading every node that holds a start and an end holds a range of the bytes taken.
use Prim.Native.Char.{code}
use Prim.Native.Nat.{ℕ, zero, suc, ◌+◌, ◌*◌, ◌≤◌, ◌<◌}
use mathlib.Core.Path.{◌≡◌}
use mathlib.Core.Bool.{true, not}
use mathlib.Core.List.{List, [], ◌∷◌, ◌++◌, append_assoc, append-nil}
use native.Mathlib.Omega.{arith}
use lib.ListN.{length, drop, get_or, get_or-append}
use lib.Dec.{T, eqb, T_not}
use Rattle.grammar.specs.Forest.{Forest, none, tree, node_of, size, words, beside}
use Rattle.grammar.specs.Out.{took}
use Rattle.grammar.specs.Scan.{Leaf, tag, tag_no_case, digits, quotes, take_while1, take_while, leaf_move, first_state}
use Rattle.grammar.specs.Scan.{leaf_nodes, leaf_at, header_move, literal_at, text_char, quoted_special, scan, quotes_move}
use Rattle.grammar.specs.Grammar.{Act, node, listed, heads, range, uid_range, dropped, act, G}
use Rattle.grammar.specs.Reading.{reading, node_words, kind_word, a_word, b_word}
use Rattle.grammar.specs.Proper.{ranged}
use Rattle.grammar.proofs.Tests.{branch_ind}
use Rattle.grammar.proofs.On.{at_took}
use Rattle.grammar.proofs.Scans.{Scans, scans_map, scans_both, Moves, goes_on, ends_after, fails, scan_ind, scan_bounds, on_leaf, on_content}
use Rattle.grammar.proofs.Forests.{length_words}
use Rattle.grammar.proofs.Closed.{Test, everywhere, Closed, rule_keeps}

-- the statement -------------------------------------------------------------------------------------------------------------

-- of words, four a node: every range is one of the bytes before `end`
abbrev pub Ranges : ℕ → List ℕ → Type 0
Ranges end [] = Unit {0}
Ranges end (kind ∷ []) = Unit {0}
Ranges end (kind ∷ a ∷ []) = Unit {0}
Ranges end (kind ∷ a ∷ b ∷ []) = Unit {0}
Ranges end (kind ∷ a ∷ b ∷ nodes ∷ rest) = (T (ranged kind) → (a ≤ b) × (b ≤ end)) × Ranges end rest

-- forests -------------------------------------------------------------------------------------------------------------------

abbrev In : ℕ → Forest → Type 0
In end none = Unit {0}
In end (tree kind a b below after) = (T (ranged kind) → (a ≤ b) × (b ≤ end)) × In end below × In end after

in_up : (e e' : ℕ) (f : Forest) → e ≤ e' → In e f → In e' f
in_up e e' none l x = tt
in_up e e' (tree kind a b below after) l x =
    ((λ t. let y = x.0 t in (y.0, omega (arith, y.1))), in_up e e' below l x.1, in_up e e' after l x.2)

in_beside : (e : ℕ) (f g : Forest) → In e f → In e g → In e (beside f g)
unfolding beside
in_beside e none g x y = y
in_beside e (tree kind a b below after) g x y = (x.0, x.1, in_beside e after g x.2 y)

in_words : (e : ℕ) (f : Forest) (w : List ℕ) → In e f → Ranges e w → Ranges e (words f ++ w)
unfolding words
in_words e none w x y = y
in_words e (tree kind a b below after) w x y =
    rw (append_assoc (words below) (words after) w)
    (x.0, in_words e below (words after ++ w) x.1 (in_words e after w x.2 y))

-- leaves --------------------------------------------------------------------------------------------------------------------

-- behind the opening quote a byte is taken
abbrev Opened : ℕ → ℕ → ℕ → Type 0
Opened at i zero = at ≤ i
Opened at i (suc state) = at + 1 ≤ i

quotes_two : (at i state b : ℕ) → Opened at i state → Moves (λ i q v. Opened at i q) (λ e v. at + 2 ≤ e) i (quotes_move state b)
quotes_two at i zero b h = branch_ind (Moves _ _ i) (eqb b (code "\"")) _ _ (λ t. goes_on (omega arith)) (λ t. fails)
quotes_two at i (suc zero) b h =
    branch_ind (Moves _ _ i) (eqb b (code "\"")) _ _ (λ t. ends_after (omega arith))
    (λ t. branch_ind (Moves _ _ i) (eqb b (code "\\")) _ _ (λ u. goes_on (omega arith))
    (λ u. branch_ind (Moves _ _ i) (text_char b) _ _ (λ v. goes_on (omega arith)) (λ v. fails)))
quotes_two at i (suc (suc state)) b h =
    branch_ind (Moves _ _ i) (quoted_special b) _ _ (λ t. goes_on (omega arith)) (λ t. fails)

abbrev RoomFor : Leaf → ℕ → ℕ → Type 0
RoomFor (tag word) at e = Unit {0}
RoomFor (tag_no_case word) at e = Unit {0}
RoomFor (digits largest) at e = Unit {0}
RoomFor quotes at e = at + 2 ≤ e
RoomFor (take_while1 class) at e = Unit {0}
RoomFor (take_while class) at e = Unit {0}

leaf_room : (l : Leaf) (s : List ℕ) (at : ℕ) → at ≤ length s
    → Scans (λ e v. RoomFor l at e) (Unit {0}) (scan (leaf_move l) (first_state l) 0 (drop at s) at)
unfolding leaf_move first_state
leaf_room (tag word) s at b = scans_map (scan_bounds s at b (leaf_move (tag word)) 0 0) (λ e v h. tt)
leaf_room (tag_no_case word) s at b = scans_map (scan_bounds s at b (leaf_move (tag_no_case word)) 0 0) (λ e v h. tt)
leaf_room (digits largest) s at b = scans_map (scan_bounds s at b (leaf_move (digits largest)) 0 0) (λ e v h. tt)
leaf_room quotes s at b =
    scans_map
    (scan_ind (leaf_move quotes) s (λ i q v. Opened at i q) (λ e v. at + 2 ≤ e)
    (λ i q v l h. quotes_two at i q (get_or s i 0) h) at 0 0 b (omega arith))
    (λ e v h. h)
leaf_room (take_while1 class) s at b = scans_map (scan_bounds s at b (leaf_move (take_while1 class)) 0 0) (λ e v h. tt)
leaf_room (take_while class) s at b = scans_map (scan_bounds s at b (leaf_move (take_while class)) 1 0) (λ e v h. tt)

leaf_in : (l : Leaf) (at e v : ℕ) → RoomFor l at e → In e (leaf_nodes l at e v)
unfolding leaf_nodes
leaf_in (tag word) at e v h = tt
leaf_in (tag_no_case word) at e v h = tt
leaf_in (digits largest) at e v h = ((λ t. absurd t), tt, tt)
leaf_in quotes at e v h = ((λ t. (omega arith, omega arith)), tt, tt)
leaf_in (take_while1 class) at e v h = tt
leaf_in (take_while class) at e v h = tt

-- the law -------------------------------------------------------------------------------------------------------------------

pub record Lies (g : G) (s : List ℕ) (at e : ℕ) (f : Forest) : Type 0 where
  pub forward : at ≤ e
  pub nodes : In e f

-- a mark is of no kind that holds a range
abbrev marks : Test
marks = record {
  of_leaf = λ l. true;
  of_mark = λ kind a. not (ranged kind);
  of_star = λ g. true;
  of_does = λ a g. true;
}

mark_in : (kind a e : ℕ) → T (not (ranged kind)) → In e (node_of kind a 0)
mark_in kind a e t = ((λ u. absurd (T_not (ranged kind) t u)), tt, tt)

act_in : (a : Act) (at e : ℕ) (f : Forest) → at ≤ e → In e f → In e (act a at e f)
unfolding act
act_in (node kind) at e f l x = ((λ t. (l, omega arith)), x, tt)
act_in listed at e f l x = ((λ t. absurd t), x, tt)
act_in heads at e none l x = tt
act_in heads at e (tree kind a b below after) l x = ((λ t. (l, omega arith)), in_beside e below after x.1 x.2, tt)
act_in range at e none l x = tt
act_in range at e (tree kind a b below none) l x = ((λ t. absurd t), tt, tt)
act_in range at e (tree kind a b below (tree kind' a' b' below' after)) l x = ((λ t. absurd t), tt, tt)
act_in uid_range at e none l x = tt
act_in uid_range at e (tree kind a b below none) l x = ((λ t. absurd t), tt, tt)
act_in uid_range at e (tree kind a b below (tree kind' a' b' below' after)) l x = ((λ t. absurd t), tt, tt)
act_in dropped at e f l x = tt

lies_next : {g h k : G} {s : List ℕ} {at e e' : ℕ} {f f' : Forest} → Lies g s at e f → Lies h s e e' f' → Lies k s at e' (beside f f')
lies_next {e = e} {e'} {f} {f'} x y = record {
  forward = omega (arith, x.forward, y.forward);
  nodes = in_beside e' f f' (in_up e e' f y.forward x.nodes) y.nodes;
}

lies_as : {g h : G} {s : List ℕ} {at e : ℕ} {f : Forest} → Lies g s at e f → Lies h s at e f
lies_as x = record { forward = x.forward; nodes = x.nodes }

lies_closed : Closed marks Lies (λ s at w. Unit {0})
unfolding leaf_at literal_at
lies_closed = record {
  at_leaf = λ l s at b t. on_leaf l at (scans_both (scan_bounds s at b (leaf_move l) (first_state l) 0) (leaf_room l s at b))
      (λ e v u p. record { forward = p.0.0; nodes = leaf_in l at e v p.1 }) (λ x. tt);
  at_literal = λ s at b. on_content (length s) (scan_bounds s at b header_move 0 0)
      (λ start v l p. record { forward = omega arith; nodes = ((λ t. (omega arith, omega arith)), tt, tt) }) (λ start v l p. tt) (λ x. tt);
  at_nothing = λ s at. record { forward = omega arith; nodes = tt };
  at_mark = λ kind a s at t. record { forward = omega arith; nodes = mark_in kind a at t };
  at_seq = λ g h s at e e' f f' x y. lies_next x y;
  at_left = λ g h s at e f x. lies_as x;
  at_right = λ g h s at e f x. lies_as x;
  at_stop = λ g s at. record { forward = omega arith; nodes = tt };
  at_again = λ g s at e e' f f' t l x y. lies_next x y;
  at_does = λ a g s at e f t l m x. record { forward = l; nodes = act_in a at e f l x.nodes };
  at_entry = λ g s at e f x. lies_as x;
  at_ref = λ n s at e f x. lies_as x;
  later = λ g s at e w f x q. tt;
}

-- all marks are so
all_marks : T (everywhere marks)
unfolding everywhere
all_marks = tt

-- of every reading, with any number of levels
nodes_in : (depth n : ℕ) (s : List ℕ) (e : ℕ) (f : Forest) → reading depth n s ≡ took e f → In e f
unfolding reading
nodes_in depth n s e f q = (at_took (rule_keeps lies_closed all_marks depth n s 0 (omega arith)) q).holds.nodes

-- so their words
pub reading_ranges : (depth n : ℕ) (s : List ℕ) (e : ℕ) (f : Forest) → reading depth n s ≡ took e f → Ranges e (words f)
reading_ranges depth n s e f q = rw (append-nil (words f)) at (in_words e f [] (nodes_in depth n s e f q) tt)

-- of the node with an index
pub range_at : (end : ℕ) (t : List ℕ) (i : ℕ) → Ranges end t → node_words i + 3 < length t → T (ranged (kind_word t i))
    → (a_word t i ≤ b_word t i) × (b_word t i ≤ end)
range_at end [] i x l k = absurd (omega arith)
range_at end (a ∷ []) i x l k = absurd (omega arith)
range_at end (a ∷ b ∷ []) i x l k = absurd (omega arith)
range_at end (a ∷ b ∷ c ∷ []) i x l k = absurd (omega arith)
range_at end (kind ∷ a ∷ b ∷ nodes ∷ rest) zero x l k = x.0 k
range_at end (kind ∷ a ∷ b ∷ nodes ∷ rest) (suc i) x l k =
    let p : 4 * suc i ≡ suc (suc (suc (suc (4 * i)))) = omega arith in
    let q : 4 * suc i + 1 ≡ suc (suc (suc (suc (4 * i + 1)))) = omega arith in
    let r : 4 * suc i + 2 ≡ suc (suc (suc (suc (4 * i + 2)))) = omega arith in
    rw (q, r) (range_at end rest i x.1 (omega arith) (rw p at k))

-- RANGES of the node with an index, whatever stands behind the words
pub range_in : (end : ℕ) (f : Forest) (rest : List ℕ) (i : ℕ) → Ranges end (words f) → i < size f
    → T (ranged (kind_word (words f ++ rest) i))
    → (a_word (words f ++ rest) i ≤ b_word (words f ++ rest) i) × (b_word (words f ++ rest) i ≤ end)
range_in end f rest i x l k =
    let n = length_words f in
    rw (get_or-append (words f) rest 0 (4 * i + 1) (omega arith), get_or-append (words f) rest 0 (4 * i + 2) (omega arith))
    (range_at end (words f) i x (omega arith) (rw (get_or-append (words f) rest 0 (4 * i) (omega arith)) at k))
