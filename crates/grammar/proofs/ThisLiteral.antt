-- THIS LITERAL: the one that an unfinished reading is in. It is fixed by the first buffer alone, before any byte is added, and
-- there is only one.
use Prim.Native.Char.{code}
use Prim.Native.Nat.{ℕ, zero, suc, ◌+◌, ◌-◌, ◌≤◌, ◌<◌}
use mathlib.Core.Path.{◌≡◌, refl, sym, ap, subst, ◌∙◌}
use mathlib.Core.Bool.{◌&&◌}
use mathlib.Core.List.{List}
use native.Mathlib.Omega.{arith}
use lib.ListN.{length, take, drop, get_or}
use lib.Dec.{leb, eqb, leb→le, nleb→lt, eqb→eq}
use Rattle.grammar.specs.Out.{more}
use Rattle.grammar.specs.Scan.{Leaf, leaf_at, leaf_move, first_state, ended, moved, scan, digit, header_move, largest_32, literal_at}
use Rattle.grammar.specs.Reading.{reading}
use Rattle.grammar.specs.OpenLiteral.{State, free, inside, to_come, start, walk, lacking, Outside, outside, OpenLiteral}
use Rattle.grammar.proofs.Tests.{branch_ind, either_way, apart, T_left}
use Rattle.grammar.proofs.On.{On, on_map, on_itself, on_both, at_more}
use Rattle.grammar.proofs.Scans.{scan_bounds, scan_ind, scan_step, scans_at, Moves, goes_on, ends_after, fails, on_leaf}
use Rattle.grammar.proofs.Walk.{Quiet, free_quiet, cr_quiet, Reach, reach_trans, reach_le, stay, reach_content, reach_walk, Calm, Unfinished, calm_here, calm_trans, walked, walked_all}
use Rattle.grammar.proofs.Literals.{text_test, Outside as EndsOutside, walk_closed, words_are_text, rule_fine, Announced, header_announces, digit_no_brace}
use Rattle.grammar.proofs.Closed.{Closed, rule_keeps}
use Rattle.grammar.proofs.Wanted.{literal_wants, completes}

-- there is one ------------------------------------------------------------------------------------------------------------

-- an unfinished reading from `at`: a literal wants the bytes that begins at i, and the walk by the bytes alone comes to i
-- outside every literal's content
abbrev pub Lacks : List ℕ → ℕ → ℕ → Type 0
Lacks s at zero = Unit {0}
Lacks s at (suc w) = (i : ℕ) × (i ≤ length s) × Calm s at i × (literal_at s i ≡ more (suc w))

leaf_lacks : (l : Leaf) (s : List ℕ) (at : ℕ) → at ≤ length s → On (λ e f. Unit {0}) (Lacks s at) (leaf_at l s at)
unfolding leaf_at
leaf_lacks l s at b = on_leaf l at (scan_bounds s at b (leaf_move l) (first_state l) 0) (λ e v t p. tt) (λ x. tt)

literal_lacks : (s : List ℕ) (at : ℕ) → at ≤ length s → On (λ e f. Unit {0}) (Lacks s at) (literal_at s at)
literal_lacks s at b = on_map (on_itself (literal_at s at)) (λ e f q. tt) lacks
  where
    lacks : (w : ℕ) → literal_at s at ≡ more w → Lacks s at w
    lacks zero q = tt
    lacks (suc w) q = (at, b, calm_here s at, q)

lacks_later : (s : List ℕ) (at e w : ℕ) → Calm s at e → Lacks s e w → Lacks s at w
lacks_later s at e zero c q = tt
lacks_later s at e (suc w) c q = (q.0, q.1, calm_trans s at e q.0 c q.2, q.3)

lacks_closed : Closed text_test EndsOutside Lacks
lacks_closed = record {
  at_leaf = λ l s at b t. on_both (walk_closed.at_leaf l s at b t) (leaf_lacks l s at b) (λ e f x y. x) (λ w x q. q);
  at_literal = λ s at b. on_both (walk_closed.at_literal s at b) (literal_lacks s at b) (λ e f x y. x) (λ w x q. q);
  at_nothing = walk_closed.at_nothing;
  at_mark = walk_closed.at_mark;
  at_seq = walk_closed.at_seq;
  at_left = walk_closed.at_left;
  at_right = walk_closed.at_right;
  at_stop = walk_closed.at_stop;
  at_again = walk_closed.at_again;
  at_does = walk_closed.at_does;
  at_entry = walk_closed.at_entry;
  at_ref = walk_closed.at_ref;
  later = λ g s at e w f x q. lacks_later s at e w x q;
}

-- a header takes a byte: its walk goes on from every state outside
header_long : (s : List ℕ) (at start count : ℕ) → Announced s at start count → at < start
header_long s at start count r =
    either_way (leb (suc at) start) (λ t. leb→le (suc at) start t)
    (λ t. absurd (stays count (stay (r 1 0) (let l = reach_le (r 1 0) in let m = nleb→lt (suc at) start t in omega arith))))
  where
    stays : (count : ℕ) → free 1 0 ≡ to_come count → ⊥
    stays zero e = let z : ◌≡◌ {A = ℕ} 1 0 = cc in omega arith
    stays (suc n) e = let z : ◌≡◌ {A = ℕ} 0 1 = cc in omega arith

-- THIS LITERAL: where a reading wants w + 1 bytes, there is one that wants them
pub this_literal : (depth n : ℕ) (s : List ℕ) (w : ℕ) → reading depth n s ≡ more (suc w) → OpenLiteral s w
unfolding reading
this_literal depth n s w q =
    let x = at_more (rule_keeps lacks_closed words_are_text depth n s 0 (omega arith)) q in
    let y = literal_wants s x.0 w x.1 x.3 in
    let long = header_long s x.0 y.start y.count (header_announces s x.0 y.start y.count x.1 y.header) in
    let c = x.2 0 0 in record {
      begins = x.0;
      inside = omega (arith, long, y.line_end);
      outside = subst Outside (sym (walked s x.0 c.2)) outside;
      wants = y;
      complete = λ z l. completes s z x.0 (suc w) y x.1 l;
    }

-- what it lacks is decided by the bytes alone -----------------------------------------------------------------------------------

quiet_lacks : {x : State} → Quiet x → lacking x ≡ 0
quiet_lacks free_quiet = refl
quiet_lacks cr_quiet = refl

unfinished_lacks : (s : List ℕ) (w : ℕ) → Unfinished s 0 w → w ≡ lacking (walk start s)
unfinished_lacks s zero u = let x = u 0 0 in sym (ap lacking (walked_all s x.2) ∙ quiet_lacks x.1)
unfinished_lacks s (suc w) u = sym (ap lacking (walked_all s (u 0 0)))

-- WANTED of every reading: what the content lacks that the buffer ends in, by the bytes alone
pub wanted_is : (depth n : ℕ) (s : List ℕ) (w : ℕ) → reading depth n s ≡ more w → w ≡ lacking (walk start s)
unfolding reading
wanted_is depth n s w q = unfinished_lacks s w (at_more (rule_fine depth n s 0 (omega arith)) q)

-- there is only one ---------------------------------------------------------------------------------------------------------

-- a literal's first byte is a brace
first_brace : (s : List ℕ) (at e v : ℕ) → at < length s → scan header_move 0 0 (drop at s) at ≡ ended e v → get_or s at 0 ≡ code "{"
first_brace s at e v l q =
    branch_ind (λ m. moved m at (λ q v. scan header_move q v (drop (suc at) s) (suc at)) ≡ ended e v → get_or s at 0 ≡ code "{")
    (eqb (get_or s at 0) (code "{")) _ _ (λ t x. eqb→eq (get_or s at 0) (code "{") t)
    (λ t x. let z : ◌≡◌ {A = ℕ} 0 1 = cc in absurd (omega arith))
    (sym (scan_step header_move s 0 0 at l) ∙ q)

-- no brace between two places
abbrev NoBrace : List ℕ → ℕ → ℕ → Type 0
NoBrace s at e = (j : ℕ) → at < j → j < e → get_or s j 0 ≡ code "{" → ⊥

one_more : (s : List ℕ) (at i : ℕ) → NoBrace s at i → (get_or s i 0 ≡ code "{" → ⊥) → NoBrace s at (suc i)
one_more s at i h k j l m e =
    either_way (leb (suc j) i) (λ t. h j l (leb→le (suc j) i t) e)
    (λ t. let z : j ≡ i = (let n = nleb→lt (suc j) i t in omega arith) in k (subst (λ p. get_or s p 0 ≡ code "{") z e))

-- where a header's scan is: at its brace, or behind it with no other brace passed
abbrev PastBrace : List ℕ → ℕ → ℕ → ℕ → ℕ → Type 0
PastBrace s at i state value = (state ≡ 0 → i ≡ at) × NoBrace s at i

header_passes : (s : List ℕ) (at i state value : ℕ) → i < length s → PastBrace s at i state value
    → Moves (PastBrace s at) (λ e v. NoBrace s at e) i (header_move state value (get_or s i 0))
header_passes s at i zero value l h =
    branch_ind (Moves _ _ i) (eqb (get_or s i 0) (code "{")) _ _
    (λ t. goes_on ((λ (e : 1 ≡ 0). absurd (omega arith)), λ j m n e. let z = h.0 refl in omega arith))
    (λ t. fails)
header_passes s at i (suc zero) value l h =
    let b = get_or s i 0 in
    branch_ind (Moves _ _ i) (digit b) _ _
    (λ t. goes_on ((λ (e : 2 ≡ 0). absurd (omega arith)), one_more s at i h.1 (apart b (code "{") (digit_no_brace b t)))) (λ t. fails)
header_passes s at i (suc (suc zero)) value l h =
    let b = get_or s i 0 in
    branch_ind (Moves _ _ i) (digit b) _ _
    (λ t. goes_on ((λ (e : 2 ≡ 0). absurd (omega arith)), one_more s at i h.1 (apart b (code "{") (digit_no_brace b t))))
    (λ t. branch_ind (Moves _ _ i) (eqb b (code "}") && leb value largest_32) _ _
    (λ u. let z = eqb→eq b (code "}") (T_left (eqb b (code "}")) (leb value largest_32) u) in
    goes_on ((λ (e : 3 ≡ 0). absurd (omega arith)), one_more s at i h.1 (λ e. absurd (omega arith)))) (λ u. fails))
header_passes s at i (suc (suc (suc zero))) value l h =
    let b = get_or s i 0 in
    branch_ind (Moves _ _ i) (eqb b (code "\r")) _ _
    (λ t. let z = eqb→eq b (code "\r") t in goes_on ((λ (e : 4 ≡ 0). absurd (omega arith)), one_more s at i h.1 (λ e. absurd (omega arith)))) (λ t. fails)
header_passes s at i (suc (suc (suc (suc state)))) value l h =
    let b = get_or s i 0 in
    branch_ind (Moves _ _ i) (eqb b (code "\n")) _ _
    (λ t. let z = eqb→eq b (code "\n") t in ends_after (one_more s at i h.1 (λ e. absurd (omega arith)))) (λ t. fails)

-- a header has one brace
one_brace : (s : List ℕ) (at e v : ℕ) → at ≤ length s → scan header_move 0 0 (drop at s) at ≡ ended e v → NoBrace s at e
one_brace s at e v b q =
    scans_at (scan_ind header_move s (PastBrace s at) (λ e v. NoBrace s at e) (header_passes s at) at 0 0 b
    ((λ e. refl), λ j l m e. omega arith)) q

-- the walk to a place outside every content does not come to a content there
not_both : (s : List ℕ) (j left : ℕ) → j ≤ length s → Outside (walk start (take j s)) → Reach s start 0 (inside (suc left)) j → ⊥
not_both s j left l o r = either o (sym (walked s j r))
  where
    either : {x : State} → Outside x → inside (suc left) ≡ x → ⊥
    either outside e = let z : ◌≡◌ {A = ℕ} 0 1 = cc in omega arith

-- a place outside every content is reached so
outside_reached : (s : List ℕ) (j : ℕ) → j ≤ length s → Outside (walk start (take j s))
    → (state : ℕ) × (value : ℕ) × Reach s start 0 (free state value) j
outside_reached s j l o =
    let z : 0 + j ≡ j = omega arith in
    state_of o (subst (λ k. Reach s start 0 (walk start (take j s)) k) z (reach_walk s start 0 j (omega arith)))
  where
    state_of : {x : State} → Outside x → Reach s start 0 x j → (state : ℕ) × (value : ℕ) × Reach s start 0 (free state value) j
    state_of (outside {state} {value}) r = (state, value, r)

-- a place in the content of an open literal lies in it by the bytes alone
in_content : (s : List ℕ) (w : ℕ) (x : OpenLiteral s w) (j : ℕ) → x.wants.start ≤ j → j < length s
    → (left : ℕ) × Reach s start 0 (inside (suc left)) j
in_content s w x j l m =
    let i = x.begins in
    let k = j - x.wants.start in
    let left = x.wants.count - k - 1 in
    let into = outside_reached s i (omega (arith, x.inside)) x.outside in
    let head = header_announces s i x.wants.start x.wants.count (omega (arith, x.inside)) x.wants.header in
    let p : k + suc left ≡ x.wants.count = omega (arith, x.wants.cut) in
    let q : x.wants.start + k ≡ j = omega arith in
    let on = reach_content {s = s} k (suc left) x.wants.start (omega arith) in
    let on' = subst (λ n. Reach s (to_come n) x.wants.start (inside (suc left)) (x.wants.start + k)) p on in
    let on'' = subst (λ n. Reach s (to_come x.wants.count) x.wants.start (inside (suc left)) n) q on' in
    (left, reach_trans into.2 (reach_trans (head into.0 into.1) on''))

-- no open literal begins behind another: not in its header, which has one brace, and not in its content
not_behind : (s : List ℕ) (w v : ℕ) (x : OpenLiteral s w) (y : OpenLiteral s v) → x.begins < y.begins → ⊥
not_behind s w v x y l =
    either_way (leb x.wants.start y.begins)
    (λ t. let c = in_content s w x y.begins (leb→le x.wants.start y.begins t) y.inside in
    not_both s y.begins c.0 (omega (arith, y.inside)) y.outside c.1)
    (λ t. one_brace s x.begins x.wants.start x.wants.count (omega (arith, x.inside)) x.wants.header
    y.begins l (nleb→lt x.wants.start y.begins t)
    (first_brace s y.begins y.wants.start y.wants.count y.inside y.wants.header))

-- ONLY ONE: any two open literals of a buffer begin at one place
pub only_one : (s : List ℕ) (w v : ℕ) (x : OpenLiteral s w) (y : OpenLiteral s v) → x.begins ≡ y.begins
only_one s w v x y =
    either_way (leb x.begins y.begins)
    (λ t. either_way (leb y.begins x.begins)
    (λ u. let l = leb→le x.begins y.begins t in let m = leb→le y.begins x.begins u in omega arith)
    (λ u. absurd (not_behind s w v x y (nleb→lt y.begins x.begins u))))
    (λ t. absurd (not_behind s v w y x (nleb→lt x.begins y.begins t)))

-- so its content starts at one place
pub one_start : (s : List ℕ) (w v : ℕ) (x : OpenLiteral s w) (y : OpenLiteral s v) → x.wants.start ≡ y.wants.start
one_start s w v x y =
    let same : ended x.wants.start x.wants.count ≡ ended y.wants.start y.wants.count =
    sym x.wants.header ∙ ap (λ i. scan header_move 0 0 (drop i s) i) (only_one s w v x y) ∙ y.wants.header in
    cc
