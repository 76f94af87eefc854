-- WHERE A RULE LEAVES NO CHOICE: rules that hold no literal want no bytes, rules of one node have one, and the rule of one word
-- takes its length. These are the exceptions that EachRule.antt names.
use Prim.Native.Char.{code}
use Prim.Native.Nat.{ℕ, zero, suc, ◌+◌, ◌≤◌}
use mathlib.Core.Path.{◌≡◌, refl, sym, ap, ◌∙◌}
use mathlib.Core.Bool.{Bool, true, false, ◌&&◌}
use mathlib.Core.List.{List}
use native.Mathlib.Omega.{arith}
use lib.ListN.{length, take, drop, get_or}
use lib.Dec.{T, leb, eqb, eqb→eq}
use Rattle.grammar.specs.Forest.{Forest, none, tree, size}
use Rattle.grammar.specs.Out.{Out, took, more, refused, deep, repeated}
use Rattle.grammar.specs.Scan.{Scanned, ended, short, failed, scan, Leaf, tag, tag_no_case, digits, quotes, take_while1, take_while, leaf_fits}
use Rattle.grammar.specs.Scan.{leaf_nodes, leaf_found, leaf_at, content, literal_at, header_move, leaf_move, first_state, tag_move, capital}
use Rattle.grammar.specs.Grammar.{Act, node, listed, heads, range, uid_range, dropped, act, G, leaf, literal, nothing, mark, seq, alt, star, does, entry, ref, named, Inner, Reader, run}
use Rattle.grammar.specs.EntryName.{check_entry_name}
use Rattle.grammar.specs.Rules.{rule, levels}
use Rattle.grammar.specs.Reading.{reading, length_limit, known_rule, room, Result, settled, result_at}
use Rattle.grammar.proofs.Tests.{branch_ind, T_left, T_right, apart}
use Rattle.grammar.proofs.On.{On, on_took, on_more, on_refused, on_map, on_then, on_else, on_again, at_took, at_more}
use Rattle.grammar.proofs.Scans.{Moves, goes_on, ends_after, fails, scan_ind, on_leaf}
use Rattle.grammar.proofs.Forests.{size_beside}
use Rattle.grammar.proofs.Demand3.{open_reading}

-- wanted ----------------------------------------------------------------------------------------------------------------------

-- no literal in it, and nothing that lies deeper
unfoldable pub literal_free : G → Bool
literal_free (leaf l) = true
literal_free literal = false
literal_free nothing = true
literal_free (mark kind a) = true
literal_free (seq g h) = literal_free g && literal_free h
literal_free (alt g h) = literal_free g && literal_free h
literal_free (star g) = literal_free g
literal_free (does a g) = literal_free g
literal_free (entry g) = literal_free g
literal_free (ref n) = false

abbrev None : Out → Type 0
None o = On (λ e f. Unit {0}) (λ w. w ≡ 0) o

leaf_none : (l : Leaf) (at : ℕ) (r : Scanned) → None (leaf_found l at r)
leaf_none l at (ended e v) = branch_ind None (leaf_fits l v) _ _ (λ t. on_took tt) (λ t. on_refused)
leaf_none l at short = on_more refl
leaf_none l at failed = on_refused

turns_none : (turns : ℕ) (item : ℕ → Out) → ((i : ℕ) → None (item i)) → (at : ℕ) → None (repeated turns item at)
unfolding repeated
turns_none zero item h at = on_refused
turns_none (suc turns) item h at =
    on_again at (λ e. repeated turns item e) (h at) tt
    (λ e f l p. on_then (turns_none turns item h e) (λ e' f' r. on_took tt) (λ w q. q)) (λ w q. q)

run_none : (inner : Inner → Reader) (g : G) (s : List ℕ) (at : ℕ) → T (literal_free g) → None (run inner g s at)
unfolding run literal_free leaf_at
run_none inner (leaf l) s at t = leaf_none l at (scan (leaf_move l) (first_state l) 0 (drop at s) at)
run_none inner literal s at t = absurd t
run_none inner nothing s at t = on_took tt
run_none inner (mark kind a) s at t = on_took tt
run_none inner (seq g h) s at t =
    on_then (run_none inner g s at (T_left (literal_free g) (literal_free h) t))
    (λ e f p. on_then (run_none inner h s e (T_right (literal_free g) (literal_free h) t)) (λ e' f' r. on_took tt) (λ w q. q)) (λ w q. q)
run_none inner (alt g h) s at t =
    on_else (λ u. run inner h s at) (run_none inner g s at (T_left (literal_free g) (literal_free h) t))
    (run_none inner h s at (T_right (literal_free g) (literal_free h) t))
run_none inner (star g) s at t = turns_none (suc (length s)) (λ i. run inner g s i) (λ i. run_none inner g s i t) at
run_none inner (does a g) s at t = on_then (run_none inner g s at t) (λ e f p. on_took tt) (λ w q. q)
run_none inner (entry g) s at t =
    on_then (run_none inner g s at t)
    (λ e f p. branch_ind None (check_entry_name (named f (take e s))) _ _ (λ u. on_took tt) (λ u. on_refused)) (λ w q. q)
run_none inner (ref n) s at t = absurd t

-- nodes -----------------------------------------------------------------------------------------------------------------------

unfoldable pub leaf_count : Leaf → ℕ
leaf_count (tag word) = 0
leaf_count (tag_no_case word) = 0
leaf_count (digits largest) = 1
leaf_count quotes = 1
leaf_count (take_while1 class) = 0
leaf_count (take_while class) = 0

-- how many nodes a grammar makes, where `counted` says that it makes no other number
unfoldable pub nodes_of : G → ℕ
nodes_of (leaf l) = leaf_count l
nodes_of literal = 1
nodes_of nothing = 0
nodes_of (mark kind a) = 1
nodes_of (seq g h) = nodes_of g + nodes_of h
nodes_of (alt g h) = nodes_of g
nodes_of (star g) = 0
nodes_of (does a g) = 1 + nodes_of g
nodes_of (entry g) = nodes_of g
nodes_of (ref n) = 0

abbrev is_node : Act → Bool
is_node (node kind) = true
is_node listed = false
is_node heads = false
is_node range = false
is_node uid_range = false
is_node dropped = false

unfoldable pub counted : G → Bool
counted (leaf l) = true
counted literal = true
counted nothing = true
counted (mark kind a) = true
counted (seq g h) = counted g && counted h
counted (alt g h) = eqb (nodes_of h) (nodes_of g) && (counted g && counted h)
counted (star g) = false
counted (does a g) = is_node a && counted g
counted (entry g) = counted g
counted (ref n) = false

abbrev Makes : ℕ → Out → Type 0
Makes n o = On (λ e f. size f ≡ n) (λ w. Unit {0}) o

leaf_size : (l : Leaf) (at e v : ℕ) → size (leaf_nodes l at e v) ≡ leaf_count l
unfolding leaf_nodes leaf_count size
leaf_size (tag word) at e v = refl
leaf_size (tag_no_case word) at e v = refl
leaf_size (digits largest) at e v = refl
leaf_size quotes at e v = refl
leaf_size (take_while1 class) at e v = refl
leaf_size (take_while class) at e v = refl

leaf_makes : (l : Leaf) (at : ℕ) (r : Scanned) → Makes (leaf_count l) (leaf_found l at r)
leaf_makes l at (ended e v) = branch_ind (Makes (leaf_count l)) (leaf_fits l v) _ _ (λ t. on_took (leaf_size l at e v)) (λ t. on_refused)
leaf_makes l at short = on_more tt
leaf_makes l at failed = on_refused

content_makes : (len : ℕ) (r : Scanned) → Makes 1 (content len r)
unfolding size
content_makes len (ended start v) = branch_ind (Makes 1) (leb (start + v) len) _ _ (λ t. on_took refl) (λ t. on_more tt)
content_makes len short = on_more tt
content_makes len failed = on_refused

act_makes : (a : Act) (at e : ℕ) (f : Forest) → T (is_node a) → size (act a at e f) ≡ 1 + size f
unfolding act size
act_makes (node kind) at e f t = omega arith
act_makes listed at e f t = absurd t
act_makes heads at e f t = absurd t
act_makes range at e f t = absurd t
act_makes uid_range at e f t = absurd t
act_makes dropped at e f t = absurd t

run_makes : (inner : Inner → Reader) (g : G) (s : List ℕ) (at : ℕ) → T (counted g) → Makes (nodes_of g) (run inner g s at)
unfolding run counted nodes_of leaf_at literal_at size
run_makes inner (leaf l) s at t = leaf_makes l at (scan (leaf_move l) (first_state l) 0 (drop at s) at)
run_makes inner literal s at t = content_makes (length s) (scan header_move 0 0 (drop at s) at)
run_makes inner nothing s at t = on_took refl
run_makes inner (mark kind a) s at t = on_took refl
run_makes inner (seq g h) s at t =
    on_then (run_makes inner g s at (T_left (counted g) (counted h) t))
    (λ e f p. on_then (run_makes inner h s e (T_right (counted g) (counted h) t))
    (λ e' f' r. on_took (size_beside f f' ∙ ap (λ m. m + size f') p ∙ ap (λ m. nodes_of g + m) r)) (λ w q. tt)) (λ w q. tt)
run_makes inner (alt g h) s at t =
    let same = eqb→eq (nodes_of h) (nodes_of g) (T_left (eqb (nodes_of h) (nodes_of g)) (counted g && counted h) t) in
    let both = T_right (eqb (nodes_of h) (nodes_of g)) (counted g && counted h) t in
    on_else (λ u. run inner h s at) (run_makes inner g s at (T_left (counted g) (counted h) both))
    (on_map (run_makes inner h s at (T_right (counted g) (counted h) both)) (λ e f p. p ∙ same) (λ w q. tt))
run_makes inner (star g) s at t = absurd t
run_makes inner (does a g) s at t =
    on_then (run_makes inner g s at (T_right (is_node a) (counted g) t))
    (λ e f p. on_took (act_makes a at e f (T_left (is_node a) (counted g) t) ∙ ap (λ m. 1 + m) p)) (λ w q. tt)
run_makes inner (entry g) s at t =
    on_then (run_makes inner g s at t)
    (λ e f p. branch_ind (Makes (nodes_of g)) (check_entry_name (named f (take e s))) _ _ (λ u. on_took p) (λ u. on_refused)) (λ w q. tt)
run_makes inner (ref n) s at t = absurd t

-- taken -----------------------------------------------------------------------------------------------------------------------

-- a fixed word without regard to case ends behind as many bytes as it has
word_moves : (word : List ℕ) (at i state value b : ℕ) → i ≡ at + state
    → Moves (λ j q v. j ≡ at + q) (λ e v. e ≡ at + length word) i (tag_move capital word state b)
word_moves word at i state value b h =
    branch_ind (Moves _ _ i) (eqb (capital b) (capital (get_or word state (code " ")))) _ _
    (λ t. branch_ind (Moves _ _ i) (eqb (suc state) (length word)) _ _
    (λ u. ends_after (let z = eqb→eq (suc state) (length word) u in omega arith)) (λ u. goes_on (omega arith)))
    (λ t. fails)

abbrev Ends : ℕ → Out → Type 0
Ends place o = On (λ e f. e ≡ place) (λ w. Unit {0}) o

word_ends : (word s : List ℕ) (at : ℕ) → at ≤ length s → Ends (at + length word) (leaf_at (tag_no_case word) s at)
unfolding leaf_at leaf_move first_state
word_ends word s at b =
    on_leaf (tag_no_case word) at
    (scan_ind (leaf_move (tag_no_case word)) s (λ j q v. j ≡ at + q) (λ e v. e ≡ at + length word)
    (λ i state value l h. word_moves word at i state value (get_or s i 0) h) at 0 0 b (omega arith))
    (λ e v t p. p) (λ x. tt)

-- results -----------------------------------------------------------------------------------------------------------------------

-- an accepted result is that of a reading that ended there, with so many nodes
pub record Took (depth n : ℕ) (s : List ℕ) (r : Result) : Type 0 where
  pub forest : Forest
  pub reads : reading depth n s ≡ took r.taken forest
  pub nodes_are : r.nodes ≡ size forest

settled_took : (depth n : ℕ) (s t : List ℕ) (o : Out) → reading depth n s ≡ o → (settled t o).answer ≡ 0 → Took depth n s (settled t o)
settled_took depth n s t (took e f) p =
    branch_ind (λ (r : Result). r.answer ≡ 0 → Took depth n s r) (leb (size f) (room t)) _ _
    (λ u q. record { forest = f; reads = p; nodes_are = refl }) (λ u q. absurd (apart 4 0 tt q))
settled_took depth n s t (more w) p = λ q. absurd (apart 1 0 tt q)
settled_took depth n s t refused p = λ q. absurd (apart 2 0 tt q)
settled_took depth n s t deep p = λ q. absurd (apart 3 0 tt q)

pub took_reading : (depth n : ℕ) (s t : List ℕ) → (result_at depth n s t).answer ≡ 0 → Took depth n s (result_at depth n s t)
unfolding result_at
took_reading depth n s t =
    branch_ind (λ (r : Result). r.answer ≡ 0 → Took depth n s r) (known_rule n) _ _
    (λ k. branch_ind (λ (r : Result). r.answer ≡ 0 → Took depth n s r) (leb (length s) length_limit) _ _
    (λ l q. settled_took depth n s t (reading depth n s) refl q) (λ l q. absurd (apart 6 0 tt q)))
    (λ k q. absurd (apart 5 0 tt q))

-- of any rule that is so, with any number of levels
pub wants_none : (depth n : ℕ) (s t : List ℕ) → T (literal_free (rule n))
    → (result_at depth n s t).answer ≡ 1 → (result_at depth n s t).wanted ≡ 0
unfolding reading
wants_none depth n s t h a = at_more (run_none (levels depth) (rule n) s 0 h) (open_reading depth n s t a).reads

pub makes_nodes : (depth n : ℕ) (s t : List ℕ) → T (counted (rule n))
    → (result_at depth n s t).answer ≡ 0 → (result_at depth n s t).nodes ≡ nodes_of (rule n)
unfolding reading
makes_nodes depth n s t h a =
    let x = took_reading depth n s t a in x.nodes_are ∙ at_took (run_makes (levels depth) (rule n) s 0 h) x.reads

pub takes_word : (depth n kind : ℕ) (word s t : List ℕ) → rule n ≡ does (node kind) (leaf (tag_no_case word))
    → (result_at depth n s t).answer ≡ 0 → (result_at depth n s t).taken ≡ length word
unfolding reading run act
takes_word depth n kind word s t is a =
    let x = took_reading depth n s t a in
    let y = on_then {P' = λ e f. e ≡ length word} {Q' = λ w. Unit {0}} (word_ends word s 0 (omega arith))
    (λ e f p. on_took {end = e} {f = tree kind 0 e f none} (let z : 0 + length word ≡ length word = omega arith in p ∙ z)) (λ w q. tt) in
    at_took y (sym (ap (λ g. run (levels depth) g s 0) is) ∙ x.reads)
