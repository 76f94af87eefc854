-- What the deepest level decides, for any deepest level: a reading with fewer levels is too deep or the same, and with as many
-- levels as the buffer has bytes none is too deep.
use Prim.Native.Nat.{ℕ, zero, suc, ◌+◌, ◌≤◌, ◌<◌}
use mathlib.Core.Path.{◌≡◌, refl, sym}
use mathlib.Core.Bool.{Bool, true, false}
use mathlib.Core.List.{List}
use native.Mathlib.Omega.{arith}
use lib.ListN.{length, take, drop}
use lib.Dec.{ltb, ltb→lt, leb, leb→le, nleb→lt, not_T}
use Rattle.grammar.specs.Text.{ascii}
use Rattle.grammar.specs.Forest.{Forest, size}
use Rattle.grammar.specs.Out.{Out, took, more, refused, deep, branch, followed_by, or_else, with_before, again, repeated}
use Rattle.grammar.specs.Scan.{Scanned, ended, short, failed, scan, Leaf, tag, leaf_move, first_state, leaf_fits, leaf_found}
use Rattle.grammar.specs.Scan.{leaf_at, header_move, content, literal_at}
use Rattle.grammar.specs.EntryName.{check_entry_name}
use Rattle.grammar.specs.Grammar.{Act, Inner, a_body, an_extension_list, G, leaf, literal, nothing, mark, seq, alt, star, does}
use Rattle.grammar.specs.Grammar.{entry, ref, Reader, named, run}
use Rattle.grammar.specs.BodyStructure.{grammar}
use Rattle.grammar.specs.Rules.{rule, too_deep, levels}
use Rattle.grammar.specs.Reading.{reading, result_at, settled, Result, room, known_rule, length_limit}
use Rattle.grammar.proofs.Tests.{branch_ind, apart}
use Rattle.grammar.proofs.On.{On, on_took, on_map, on_then, on_both, at_took}
use Rattle.grammar.proofs.Scans.{leaf_bounds}
use Rattle.grammar.proofs.Size.{leaf_cost, leaf_costs}
use Rattle.grammar.proofs.Stays.{Stays, run_stays, levels_stay}

-- what opens a level ------------------------------------------------------------------------------------------------------

-- a grammar that begins with an opening parenthesis
pub data Opens : G → Type 0 where
  opens_leaf : Opens (leaf (tag (ascii "(")))
  opens_seq : {g h : G} → Opens g → Opens (seq g h)
  opens_does : {a : Act} {g : G} → Opens g → Opens (does a g)

-- bodies and extension lists do
pub inner_opens : (n : Inner) → Opens (grammar n)
unfolding grammar
inner_opens a_body = opens_does (opens_seq (opens_seq opens_leaf))
inner_opens an_extension_list = opens_seq (opens_seq (opens_seq opens_leaf))

-- with more levels --------------------------------------------------------------------------------------------------------

-- what is found with some levels, and with more
pub data Raised : Out → Out → Type 0 where
  alike : {o : Out} → Raised o o
  was_deep : {o : Out} → Raised deep o

-- one reading after another
raised_then : {o o' : Out} {next next' : ℕ → Forest → Out} → Raised o o'
    → ((e : ℕ) (f : Forest) → Raised (next e f) (next' e f)) → Raised (followed_by o next) (followed_by o' next')
raised_then {o = took e f} alike h = h e f
raised_then {o = more w} alike h = alike
raised_then {o = refused} alike h = alike
raised_then {o = deep} alike h = alike
raised_then was_deep h = was_deep

-- alternatives
raised_else : {o o' : Out} (other other' : Unit {0} → Out) → Raised o o' → Raised (other tt) (other' tt)
    → Raised (or_else o other) (or_else o' other')
raised_else {o = took e f} other other' alike h = alike
raised_else {o = more w} other other' alike h = alike
raised_else {o = refused} other other' alike h = h
raised_else {o = deep} other other' alike h = alike
raised_else other other' was_deep h = was_deep

-- with nodes before
raised_before : (f : Forest) {o o' : Out} → Raised o o' → Raised (with_before f o) (with_before f o')
raised_before f d = raised_then d (λ e f'. alike)

-- a reading under a test
raised_pick : (b : Bool) (x x' : Unit {0} → Out) → Raised (x tt) (x' tt)
    → Raised (branch b x (λ u. refused)) (branch b x' (λ u. refused))
raised_pick true x x' h = h
raised_pick false x x' h = alike

-- one turn of a repetition
raised_again : (at : ℕ) {o o' : Out} (next next' : ℕ → Out) → Raised o o' → ((e : ℕ) → Raised (next e) (next' e))
    → Raised (again o at next) (again o' at next')
raised_again at {o = took e f} next next' alike h = raised_pick (ltb at e) _ _ (raised_before f (h e))
raised_again at {o = more w} next next' alike h = alike
raised_again at {o = refused} next next' alike h = alike
raised_again at {o = deep} next next' alike h = alike
raised_again at next next' was_deep h = was_deep

-- all turns
raised_repeat : (item item' : ℕ → Out) → ((i : ℕ) → Raised (item i) (item' i)) → (turns at : ℕ)
    → Raised (repeated turns item at) (repeated turns item' at)
unfolding repeated
raised_repeat item item' h zero at = alike
raised_repeat item item' h (suc turns) at = raised_again at _ _ (h at) (λ e. raised_repeat item item' h turns e)

-- every grammar, over inner readers of which one has more levels
run_raised : (inner inner' : Inner → Reader) → ((n : Inner) (s : List ℕ) (at : ℕ) → Raised (inner n s at) (inner' n s at))
    → (g : G) (s : List ℕ) (at : ℕ) → Raised (run inner g s at) (run inner' g s at)
unfolding run
run_raised inner inner' h (leaf l) s at = alike
run_raised inner inner' h literal s at = alike
run_raised inner inner' h nothing s at = alike
run_raised inner inner' h (mark kind a) s at = alike
run_raised inner inner' h (seq g k) s at =
    raised_then (run_raised inner inner' h g s at) (λ e f. raised_before f (run_raised inner inner' h k s e))
run_raised inner inner' h (alt g k) s at = raised_else _ _ (run_raised inner inner' h g s at) (run_raised inner inner' h k s at)
run_raised inner inner' h (star g) s at = raised_repeat _ _ (λ i. run_raised inner inner' h g s i) (suc (length s)) at
run_raised inner inner' h (does a g) s at = raised_then (run_raised inner inner' h g s at) (λ e f. alike)
run_raised inner inner' h (entry g) s at =
    raised_then (run_raised inner inner' h g s at)
    (λ e f. raised_pick (check_entry_name (named f (take e s))) _ _ alike)
run_raised inner inner' h (ref n) s at = h n s at

-- where no level is left a parenthesis is too deep, and without one nothing that begins with it goes on
stopped_there : (o : Out) {x : Out} (next : ℕ → Forest → Out) → Raised (followed_by o (λ e f. deep)) x
    → Raised (followed_by o (λ e f. deep)) (followed_by x next)
stopped_there (took e f) next r = was_deep
stopped_there (more w) next alike = alike
stopped_there refused next alike = alike
stopped_there deep next r = was_deep

too_deep_or : (o : Out) → Raised (followed_by o (λ e f. deep)) o
too_deep_or (took e f) = was_deep
too_deep_or (more w) = alike
too_deep_or refused = alike
too_deep_or deep = alike

opens_raised : (inner : Inner → Reader) (g : G) → Opens g → (s : List ℕ) (at : ℕ) → Raised (too_deep s at) (run inner g s at)
unfolding run
opens_raised inner _ opens_leaf s at = too_deep_or (leaf_at (tag (ascii "(")) s at)
opens_raised inner (seq g h) (opens_seq x) s at = stopped_there (leaf_at (tag (ascii "(")) s at) _ (opens_raised inner g x s at)
opens_raised inner (does a g) (opens_does x) s at = stopped_there (leaf_at (tag (ascii "(")) s at) _ (opens_raised inner g x s at)

-- so with any number of levels and one not smaller
levels_raised : (left right : ℕ) → left ≤ right → (n : Inner) (s : List ℕ) (at : ℕ) → Raised (levels left n s at) (levels right n s at)
unfolding levels
levels_raised zero zero l n s at = alike
levels_raised zero (suc right) l n s at = opens_raised (levels right) (grammar n) (inner_opens n) s at
levels_raised (suc left) zero l n s at = absurd (omega arith)
levels_raised (suc left) (suc right) l n s at =
    run_raised (levels left) (levels right) (levels_raised left right (omega arith)) (grammar n) s at

-- MORE LEVELS: what is not too deep is found again, by every rule
pub more_levels : (depth depth' n : ℕ) (s : List ℕ) → depth ≤ depth' → Raised (reading depth n s) (reading depth' n s)
unfolding reading
more_levels depth depth' n s l = run_raised (levels depth) (levels depth') (levels_raised depth depth' l) (rule n) s 0

-- with enough levels ------------------------------------------------------------------------------------------------------

-- not too deep
pub data Shallow : Out → Type 0 where
  shallow_took : {e : ℕ} {f : Forest} → Shallow (took e f)
  shallow_more : {w : ℕ} → Shallow (more w)
  shallow_refused : Shallow refused

-- one reading after another
shallow_then : {o : Out} {next : ℕ → Forest → Out} → Shallow o → ((e : ℕ) (f : Forest) → o ≡ took e f → Shallow (next e f))
    → Shallow (followed_by o next)
shallow_then shallow_took h = h _ _ refl
shallow_then shallow_more h = shallow_more
shallow_then shallow_refused h = shallow_refused

-- alternatives
shallow_else : {o : Out} (other : Unit {0} → Out) → Shallow o → Shallow (other tt) → Shallow (or_else o other)
shallow_else other shallow_took h = shallow_took
shallow_else other shallow_more h = shallow_more
shallow_else other shallow_refused h = h

-- with nodes before
shallow_before : (f : Forest) {o : Out} → Shallow o → Shallow (with_before f o)
shallow_before f x = shallow_then x (λ e f' q. shallow_took)

-- one turn of a repetition
shallow_again : (at : ℕ) {o : Out} (next : ℕ → Out) → Shallow o → ((e : ℕ) (f : Forest) → o ≡ took e f → at < e → Shallow (next e))
    → Shallow (again o at next)
shallow_again at next (shallow_took {e} {f}) h =
    branch_ind Shallow (ltb at e) _ _ (λ t. shallow_before f (h e f refl (ltb→lt at e t))) (λ t. shallow_refused)
shallow_again at next shallow_more h = shallow_more
shallow_again at next shallow_refused h = shallow_took

-- leaves and literals are at no level
found_shallow : (l : Leaf) (at : ℕ) (x : Scanned) → Shallow (leaf_found l at x)
found_shallow l at (ended e v) = branch_ind Shallow (leaf_fits l v) _ _ (λ t. shallow_took) (λ t. shallow_refused)
found_shallow l at short = shallow_more
found_shallow l at failed = shallow_refused

leaf_shallow : (l : Leaf) (s : List ℕ) (at : ℕ) → Shallow (leaf_at l s at)
unfolding leaf_at
leaf_shallow l s at = found_shallow l at (scan (leaf_move l) (first_state l) 0 (drop at s) at)

content_shallow : (len : ℕ) (x : Scanned) → Shallow (content len x)
content_shallow len (ended start v) = branch_ind Shallow (leb (start + v) len) _ _ (λ t. shallow_took) (λ t. shallow_more)
content_shallow len short = shallow_more
content_shallow len failed = shallow_refused

literal_shallow : (s : List ℕ) (at : ℕ) → Shallow (literal_at s at)
unfolding literal_at
literal_shallow s at = content_shallow (length s) (scan header_move 0 0 (drop at s) at)

module _ (s : List ℕ) (from : ℕ) (inner : Inner → Reader) (stays : (n : Inner) → Stays (inner n))
    (shallow : (n : Inner) (at : ℕ) → from ≤ at → at ≤ length s → Shallow (inner n s at)) where
  -- where a reading ends
  ends : (g : G) (at : ℕ) {e : ℕ} {f : Forest} → at ≤ length s → run inner g s at ≡ took e f → (at ≤ e) × (e ≤ length s)
  ends g at b q = at_took (run_stays inner stays g s at b) q

  -- all turns of a repetition
  shallow_repeat : (g : G) → ((at : ℕ) → from ≤ at → at ≤ length s → Shallow (run inner g s at)) → (turns at : ℕ) → from ≤ at → at ≤ length s
      → Shallow (repeated turns (λ i. run inner g s i) at)
  unfolding repeated
  shallow_repeat g h zero at l b = shallow_refused
  shallow_repeat g h (suc turns) at l b =
      shallow_again at _ (h at l b) (λ e f q less. shallow_repeat g h turns e (omega arith) (ends g at b q).1)

  -- where what lies deeper is not too deep, from a place on, no grammar is
  run_shallow : (g : G) (at : ℕ) → from ≤ at → at ≤ length s → Shallow (run inner g s at)
  unfolding run
  run_shallow (leaf k) at l b = leaf_shallow k s at
  run_shallow literal at l b = literal_shallow s at
  run_shallow nothing at l b = shallow_took
  run_shallow (mark kind a) at l b = shallow_took
  run_shallow (seq g h) at l b =
      shallow_then (run_shallow g at l b)
      (λ e f q. let x = ends g at b q in shallow_before f (run_shallow h e (omega (arith, x)) x.1))
  run_shallow (alt g h) at l b = shallow_else _ (run_shallow g at l b) (run_shallow h at l b)
  run_shallow (star g) at l b = shallow_repeat g (run_shallow g) (suc (length s)) at l b
  run_shallow (does a g) at l b = shallow_then (run_shallow g at l b) (λ e f q. shallow_took)
  run_shallow (entry g) at l b =
      shallow_then (run_shallow g at l b)
      (λ e f q. branch_ind Shallow (check_entry_name (named f (take e s))) _ _ (λ t. shallow_took) (λ t. shallow_refused))
  run_shallow (ref n) at l b = shallow n at l b

-- a parenthesis takes a byte
opening_takes : (s : List ℕ) (at : ℕ) → at ≤ length s
    → On (λ e f. (at < e) × (e ≤ length s)) (λ w. Unit {0}) (leaf_at (tag (ascii "(")) s at)
unfolding leaf_cost
opening_takes s at b =
    on_both (leaf_costs (tag (ascii "(")) s at b) (leaf_bounds s at b (tag (ascii "(")))
    (λ e f x y. (omega (arith, x.bytes), y.1)) (λ w x y. tt)

-- and what begins with one takes it before it comes to anything deeper
module _ (s : List ℕ) (at : ℕ) (b : at ≤ length s) (inner : Inner → Reader) (stays : (n : Inner) → Stays (inner n)) where
  opens_takes : {g : G} → Opens g → On (λ e f. at < e) (λ w. Unit {0}) (run inner g s at)
  unfolding run
  opens_takes opens_leaf = on_map (opening_takes s at b) (λ e f x. x.0) (λ w q. q)
  opens_takes (opens_seq {g} {h} x) =
      on_then {P = λ e f. (at < e) × (e ≤ length s)} {Q = λ w. Unit {0}} (on_both (opens_takes x) (run_stays inner stays g s at b) (λ e f p r. (p, r.1)) (λ w q r. tt))
      (λ e f p. on_then (run_stays inner stays h s e p.1) (λ e' f' r. on_took (omega (arith, p.0, r.0))) (λ w q. tt))
      (λ w q. tt)
  opens_takes (opens_does x) = on_then (opens_takes x) (λ e f p. on_took p) (λ w q. tt)

  opens_shallow : ((n : Inner) (e : ℕ) → at < e → e ≤ length s → Shallow (inner n s e)) → (g : G) → Opens g → Shallow (run inner g s at)
  unfolding run
  opens_shallow shallow _ opens_leaf = leaf_shallow (tag (ascii "(")) s at
  opens_shallow shallow (seq g h) (opens_seq x) =
      shallow_then (opens_shallow shallow g x)
      (λ e f q. shallow_before f
      (run_shallow s (suc at) inner stays shallow h e (at_took (opens_takes x) q) (at_took (run_stays inner stays g s at b) q).1))
  opens_shallow shallow (does a g) (opens_does x) = shallow_then (opens_shallow shallow g x) (λ e f q. shallow_took)

-- as many levels as there are bytes left
levels_shallow : (left : ℕ) (n : Inner) (s : List ℕ) (at : ℕ) → at ≤ length s → length s ≤ at + left → Shallow (levels left n s at)
unfolding levels
levels_shallow zero n s at b l =
    shallow_then (leaf_shallow (tag (ascii "(")) s at)
    (λ e f q. let x = at_took (opening_takes s at b) q in absurd (omega (arith, x.0, x.1)))
levels_shallow (suc left) n s at b l =
    opens_shallow s at b (levels left) (levels_stay left)
    (λ m e less inside. levels_shallow left m s e inside (omega arith)) (grammar n) (inner_opens n)

-- ENOUGH LEVELS: with as many as the buffer has bytes nothing is too deep
pub enough_levels : (depth n : ℕ) (s : List ℕ) → length s ≤ depth → Shallow (reading depth n s)
unfolding reading
enough_levels depth n s l =
    run_shallow s 0 (levels depth) (levels_stay depth) (λ m at a b. levels_shallow depth m s at b (omega arith)) (rule n) 0 (omega arith) (omega arith)

-- results -----------------------------------------------------------------------------------------------------------------

-- a result that is not 3 is that of the reading with more levels
kept : (t : List ℕ) {o o' : Out} → Raised o o' → ((settled t o).answer ≡ 3 → ⊥) → settled t o ≡ settled t o'
kept t alike h = refl
kept t was_deep h = absurd (h refl)

-- under a test that does not depend on the levels
kept_under : (b : Bool) (x x' y : Unit {0} → Result) → ((branch b x y).answer ≡ 3 → ⊥) → (((x tt).answer ≡ 3 → ⊥) → x tt ≡ x' tt)
    → branch b x y ≡ branch b x' y
kept_under true x x' y h k = k h
kept_under false x x' y h k = refl

-- A HIGHER LIMIT changes no answer but 3
pub higher_limit : (depth depth' n : ℕ) (s t : List ℕ) → depth ≤ depth' → ((result_at depth n s t).answer ≡ 3 → ⊥)
    → result_at depth n s t ≡ result_at depth' n s t
unfolding result_at
higher_limit depth depth' n s t l h =
    kept_under (known_rule n) _ _ _ h
    (λ i. kept_under (leb (length s) length_limit) _ _ _ i (λ j. kept t (more_levels depth depth' n s l) j))

-- answer 3 comes from a reading that is too deep
three_is_deep : (t : List ℕ) {o : Out} → Shallow o → (settled t o).answer ≡ 3 → ⊥
three_is_deep t (shallow_took {e} {f}) =
    branch_ind (λ (r : Result). r.answer ≡ 3 → ⊥) (leb (size f) (room t)) _ _ (λ u. apart 0 3 tt) (λ u. apart 4 3 tt)
three_is_deep t shallow_more = apart 1 3 tt
three_is_deep t shallow_refused = apart 2 3 tt

-- so with enough levels there is none
pub never_three : (depth n : ℕ) (s t : List ℕ) → length s ≤ depth → (result_at depth n s t).answer ≡ 3 → ⊥
unfolding result_at
never_three depth n s t l =
    branch_ind (λ (r : Result). r.answer ≡ 3 → ⊥) (known_rule n) _ _
    (λ u. branch_ind (λ (r : Result). r.answer ≡ 3 → ⊥) (leb (length s) length_limit) _ _
    (λ v. three_is_deep t (enough_levels depth n s l)) (λ v. apart 6 3 tt))
    (λ u. apart 5 3 tt)

-- ANSWER 3 takes more bytes than there are levels
pub deep_is_long : (depth n : ℕ) (s t : List ℕ) → (result_at depth n s t).answer ≡ 3 → depth < length s
deep_is_long depth n s t q =
    nleb→lt (length s) depth (not_T (leb (length s) depth) (λ u. never_three depth n s t (leb→le (length s) depth u) q))

-- THE LIMIT only cuts off: every answer but 3 is that with as many levels as there are bytes, where there is no answer 3
pub without_limit : (depth n : ℕ) (s t : List ℕ) → ((result_at depth n s t).answer ≡ 3 → ⊥)
    → result_at depth n s t ≡ result_at (length s) n s t
without_limit depth n s t h =
    branch_ind (λ (u : Unit {0}). result_at depth n s t ≡ result_at (length s) n s t) (leb (length s) depth) (λ u. tt) (λ u. tt)
    (λ u. sym (higher_limit (length s) depth n s t (leb→le (length s) depth u) (never_three (length s) n s t (omega arith))))
    (λ u. let l = nleb→lt (length s) depth u in higher_limit depth (length s) n s t (omega arith) h)
