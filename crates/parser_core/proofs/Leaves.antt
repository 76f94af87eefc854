-- From what a scan found to what its reader promises, for every leaf.
use Rattle.std.proofs.Common.{Result, Ok, Err, ℕ, suc, ◌≤◌, ◌<◌}
use mathlib.Core.Path.{◌≡◌, refl, sym, ap, subst, ◌∙◌}
use mathlib.Core.Bool.{Bool, true, false}
use mathlib.Core.List.{List, [], ◌∷◌}
use native.Mathlib.Omega.{arith}
use lib.ListN.{length, drop}
use lib.Dec.{eqb}
use borrow.Author.Tests.{eq-eqb, ne_eqb}
use Rattle.grammar.specs.Forest.{Forest, none}
use Rattle.grammar.specs.Out.{Out, took, more, refused, deep, branch}
use Rattle.grammar.specs.Scan.{Leaf, take_while1, take_while, Class, in_class, run_move, on, end_before, fail, moved, Scanned, ended, short, failed, scan, leaf_fits, leaf_nodes, leaf_found, leaf_move, first_state, leaf_at}
use Rattle.grammar.specs.Grammar.{leaf, does, node, run}
use Rattle.grammar.specs.Rules.{levels}
use Rattle.grammar.proofs.On.{at_took}
use Rattle.grammar.proofs.Stays.{run_stays, levels_stay}
use Rattle.table.specs.declared.Cursor.{Cursor}
use Rattle.table.specs.declared.Failure.{Failure}
use Rattle.table.specs.declared.Failure.TheVariants as failure
use Rattle.table.specs.Cursor.{IResult}
use Rattle.table.specs.Promise.{Room, Stands, Goes, Skims, Moved, Leafed}
use Rattle.table.proofs.Going.{Still, skim, short_of, refuses, skims_moves, leaves, leaves_spare, leaf_still}
use Rattle.table.proofs.Bounds.{room, spares_none}
use Rattle.table.proofs.Structure.{node_still, node_lays}
use Rattle.parser_core.specs.Scanned.{end_of, Ends}

-- what a leaf can find ----------------------------------------------------------------------------------------------------------

-- its nodes, unfinished with nothing wanted, or refused
pub leaf_cases : {A : Type 0} (l : Leaf) (s : List ℕ) (at : ℕ) → ((e v : ℕ) → leaf_at l s at ≡ took e (leaf_nodes l at e v) → A)
    → (leaf_at l s at ≡ more 0 → A) → (leaf_at l s at ≡ refused → A) → A
unfolding leaf_at
leaf_cases {A} l s at a b c = go (scan (leaf_move l) (first_state l) 0 (drop at s) at) refl
  where
    fits : (e v : ℕ) (x : Bool) → leaf_fits l v ≡ x → leaf_at l s at ≡ branch x (λ u. took e (leaf_nodes l at e v)) (λ u. refused) → A
    fits e v true q p = a e v p
    fits e v false q p = c p

    go : (x : Scanned) → scan (leaf_move l) (first_state l) 0 (drop at s) at ≡ x → A
    go (ended e v) p = fits e v (leaf_fits l v) refl (ap (leaf_found l at) p)
    go short p = b (ap (leaf_found l at) p)
    go failed p = c (ap (leaf_found l at) p)

-- and where it ends
pub leaf_inside : (l : Leaf) (s : List ℕ) (at e : ℕ) {f : Forest} → at ≤ length s → leaf_at l s at ≡ took e f → (at ≤ e) × (e ≤ length s)
unfolding run
leaf_inside l s at e h p = at_took (run_stays (levels 0) (levels_stay 0) (leaf l) s at h) p

module _ {l : Leaf} {s : List ℕ} {at : ℕ} {r : Result ℕ Failure} (ends : Ends l s at r) (h : Room s at) where
  -- a scan that failed
  pub scan_failed : {A : Type 0} {f : Failure} → r ≡ Err f → (leaf_at l s at ≡ more 0 → f ≡ failure.Unfinished 0 → A) → (leaf_at l s at ≡ refused → f ≡ failure.Refused → A) → A
  scan_failed {f = f} fails a b =
      leaf_cases l s at
      (λ e v p. absurd (let z : ◌≡◌ {A = Result ℕ Failure} (Ok e) (Err f) = sym (ends.is ∙ ap end_of p) ∙ fails in cc))
      (λ p. a p (let z : ◌≡◌ {A = Result ℕ Failure} (Err (failure.Unfinished 0)) (Err f) = sym (ends.is ∙ ap end_of p) ∙ fails in cc))
      (λ p. b p (let z : ◌≡◌ {A = Result ℕ Failure} (Err failure.Refused) (Err f) = sym (ends.is ∙ ap end_of p) ∙ fails in cc))

  -- and one that did not
  pub scan_took : {A : Type 0} {e : ℕ} → r ≡ Ok e → ((v : ℕ) → leaf_at l s at ≡ took e (leaf_nodes l at e v) → at ≤ e → e ≤ length s → A) → A
  scan_took {e = e} going a =
      leaf_cases l s at
      (λ i v p.
      let x = leaf_inside l s at i h.inside p in
      let z : ◌≡◌ {A = Result ℕ Failure} (Ok i) (Ok e) = sym (ends.is ∙ ap end_of p) ∙ going in
      let y : i ≡ e = cc in
      a v (subst (λ (k : ℕ). leaf_at l s at ≡ took k (leaf_nodes l at k v)) y p) (omega (arith, x.0)) (omega (arith, x.1)))
      (λ p. absurd (let z : ◌≡◌ {A = Result ℕ Failure} (Err (failure.Unfinished 0)) (Ok e) = sym (ends.is ∙ ap end_of p) ∙ going in cc))
      (λ p. absurd (let z : ◌≡◌ {A = Result ℕ Failure} (Err failure.Refused) (Ok e) = sym (ends.is ∙ ap end_of p) ∙ going in cc))

-- failures --------------------------------------------------------------------------------------------------------------------

module _ {l : Leaf} {s : List ℕ} {c q : IResult} {at : Cursor} {r : Result ℕ Failure} {f : Failure} (going : c ≡ Ok at) (stands : Stands 0 s c) (ends : Ends l s at.place r) (fails : r ≡ Err f) (back : q ≡ Err f) where
  -- of a reader of the leaf
  pub leaf_fails : {d : ℕ} {t : List ℕ} → Goes d (leaf l) s c q t t
  leaf_fails {d} {t} =
      scan_failed ends (room going stands) fails
      (λ p e. subst (λ (k : IResult). Goes d (leaf l) s c k t t) (sym (back ∙ ap Err e)) (short_of going stands (leaf_still (more 0) (λ t. refl) p)))
      (λ p e. subst (λ (k : IResult). Goes d (leaf l) s c k t t) (sym (back ∙ ap Err e)) (refuses going stands (leaf_still refused (λ t. refl) p)))

  pub leaf_skims_fails : Skims (leaf l) s c q
  leaf_skims_fails = skim (λ t. leaf_fails)

  -- of one that makes its bytes a node
  pub node_fails : {d kind : ℕ} {t : List ℕ} → Goes d (does (node kind) (leaf l)) s c q t t
  node_fails {d} {kind} {t} =
      scan_failed ends (room going stands) fails
      (λ p e. subst (λ (k : IResult). Goes d (does (node kind) (leaf l)) s c k t t) (sym (back ∙ ap Err e)) (short_of going stands (node_still kind (more 0) tt (leaf_still (more 0) (λ t. refl) p))))
      (λ p e. subst (λ (k : IResult). Goes d (does (node kind) (leaf l)) s c k t t) (sym (back ∙ ap Err e)) (refuses going stands (node_still kind refused tt (leaf_still refused (λ t. refl) p))))

-- runs ------------------------------------------------------------------------------------------------------------------------

-- one of one or more is one that may be empty, but for the empty one
abbrev past_first : ℕ → Out → Out
past_first at (took e f) = branch (eqb e at) (λ u. refused) (λ u. took e f)
past_first at (more w) = more w
past_first at refused = refused
past_first at deep = deep

abbrev scan_run : Class → ℕ → List ℕ → ℕ → Scanned
scan_run class state bs at = scan (λ state value b. run_move class state b) state 0 bs at

module _ (class : Class) (P : Scanned → Type 0) (stops : P short) where
  -- one byte and what comes after it
  run_turn : (t : Bool) (i : ℕ) (next : ℕ → ℕ → Scanned) → P (next 1 0) → P (ended i 0)
      → P (moved (branch t (λ u. on 1 0) (λ u. branch (eqb 1 0) (λ u. fail) (λ u. end_before 0))) i next)
  run_turn true i next go ends = go
  run_turn false i next go ends = ends

  -- P holds of each way that a run can end
  run_ind : (bs : List ℕ) (i : ℕ) → ((e : ℕ) → i ≤ e → P (ended e 0)) → P (scan_run class 1 bs i)
  unfolding scan
  run_ind [] i ends = stops
  run_ind (b ∷ bs) i ends =
      run_turn (in_class class b) i (λ state value. scan (λ state value b. run_move class state b) state value bs (suc i))
      (run_ind bs (suc i) (λ e l. ends e (omega arith))) (ends i (omega arith))

run1_later : (class : Class) (at : ℕ) (bs : List ℕ)
    → leaf_found (take_while1 class) at (scan_run class 1 bs (suc at)) ≡ past_first at (leaf_found (take_while class) at (scan_run class 1 bs (suc at)))
unfolding leaf_fits leaf_nodes
run1_later class at bs =
    run_ind class (λ x. leaf_found (take_while1 class) at x ≡ past_first at (leaf_found (take_while class) at x)) refl bs (suc at)
    (λ e l. rw (ne_eqb e at (λ p. omega arith)))

run1_turn : (class : Class) (at : ℕ) (t : Bool) (next : ℕ → ℕ → Scanned)
    → leaf_found (take_while1 class) at (next 1 0) ≡ past_first at (leaf_found (take_while class) at (next 1 0))
    → leaf_found (take_while1 class) at (moved (branch t (λ u. on 1 0) (λ u. branch (eqb 0 0) (λ u. fail) (λ u. end_before 0))) at next)
    ≡ past_first at (leaf_found (take_while class) at (moved (branch t (λ u. on 1 0) (λ u. branch (eqb 1 0) (λ u. fail) (λ u. end_before 0))) at next))
unfolding leaf_fits leaf_nodes
run1_turn class at true next go = go
run1_turn class at false next go = rw (eq-eqb at at refl)

run1_scanned : (class : Class) (at : ℕ) (bs : List ℕ)
    → leaf_found (take_while1 class) at (scan_run class 0 bs at) ≡ past_first at (leaf_found (take_while class) at (scan_run class 1 bs at))
unfolding scan
run1_scanned class at [] = refl
run1_scanned class at (b ∷ bs) =
    run1_turn class at (in_class class b) (λ state value. scan (λ state value b. run_move class state b) state value bs (suc at)) (run1_later class at bs)

run1_is : (class : Class) (s : List ℕ) (at : ℕ) → leaf_at (take_while1 class) s at ≡ past_first at (leaf_at (take_while class) s at)
unfolding leaf_at leaf_move first_state
run1_is class s at = run1_scanned class at (drop at s)

-- so the end of a run that may be empty serves both
pub run1_ends : {class : Class} {s : List ℕ} {at : ℕ} {r : Result ℕ Failure} {f : Failure} → Ends (take_while class) s at r → r ≡ Err f → Room s at → Ends (take_while1 class) s at r
run1_ends {class} {s} {at} ends fails h =
    scan_failed ends h fails
    (λ p e. record { is = fails ∙ ap Err e ∙ sym (ap end_of (run1_is class s at ∙ ap (past_first at) p)) })
    (λ p e. record { is = fails ∙ ap Err e ∙ sym (ap end_of (run1_is class s at ∙ ap (past_first at) p)) })

module _ {class : Class} {s : List ℕ} {at e : ℕ} {r : Result ℕ Failure} (ends : Ends (take_while class) s at r) (h : Room s at) (less : r ≡ Ok e) where
  pub run0_still : (d : ℕ) → Still d (leaf (take_while class)) s at (took e none)
  unfolding leaf_nodes
  run0_still d = scan_took ends h less (λ v p l m. leaf_still (took e none) (λ t. refl) p)

  pub run1_still : (d : ℕ) → (e ≡ at → ⊥) → Still d (leaf (take_while1 class)) s at (took e none)
  unfolding leaf_nodes
  run1_still d n = scan_took ends h less (λ v p l m. leaf_still (took e none) (λ t. refl) (run1_is class s at ∙ ap (past_first at) p ∙ rw (ne_eqb e at n)))

  pub run1_none : (d : ℕ) → e ≡ at → Still d (leaf (take_while1 class)) s at refused
  unfolding leaf_nodes
  run1_none d n = scan_took ends h less (λ v p l m. leaf_still refused (λ t. refl) (run1_is class s at ∙ ap (past_first at) p ∙ rw (eq-eqb e at n)))

  pub run_forward : at ≤ e
  run_forward = scan_took ends h less (λ v p l m. l)

  pub run_inside : e ≤ length s
  run_inside = scan_took ends h less (λ v p l m. m)

-- their readers
module _ {class : Class} {s : List ℕ} {c : IResult} {at : Cursor} {r : Result ℕ Failure} (going : c ≡ Ok at) (stands : Stands 0 s c) (ends : Ends (take_while class) s at.place r) where
  pub run1_skims_fails : {q : IResult} {f : Failure} → r ≡ Err f → q ≡ Err f → Skims (leaf (take_while1 class)) s c q
  run1_skims_fails fails back = leaf_skims_fails going stands (run1_ends ends fails (room going stands)) fails back

  pub run1_node_fails : {q : IResult} {f : Failure} {d kind : ℕ} {t : List ℕ} → r ≡ Err f → q ≡ Err f → Goes d (does (node kind) (leaf (take_while1 class))) s c q t t
  run1_node_fails fails back = node_fails going stands (run1_ends ends fails (room going stands)) fails back

  module _ {e : ℕ} (less : r ≡ Ok e) where
    pub run0_skims : {q : Cursor} → Moved at e q → Skims (leaf (take_while class)) s c (Ok q)
    run0_skims m = let h = room going stands in
        skims_moves going stands (run0_still ends h less 0) (run_forward ends h less) (run_inside ends h less) m

    pub run1_skims : {q : Cursor} → (e ≡ at.place → ⊥) → Moved at e q → Skims (leaf (take_while1 class)) s c (Ok q)
    run1_skims n m = let h = room going stands in
        skims_moves going stands (run1_still ends h less 0 n) (run_forward ends h less) (run_inside ends h less) m

    pub run1_skims_none : e ≡ at.place → Skims (leaf (take_while1 class)) s c (Err failure.Refused)
    run1_skims_none n = skim (λ t. refuses going stands (run1_none ends (room going stands) less 0 n))

    pub run1_node : {d kind : ℕ} {q : Cursor} {t t' : List ℕ} → (e ≡ at.place → ⊥) → Leafed kind at.place e e at q t t' → Goes d (does (node kind) (leaf (take_while1 class))) s c (Ok q) t t'
    run1_node {d} {kind} n w = let h = room going stands in
        leaves going stands (node_lays kind (run1_still ends h less d n)) (omega (arith, n, run_forward ends h less)) (run_inside ends h less) w

    pub run1_node_none : {d kind : ℕ} {t : List ℕ} → e ≡ at.place → Goes d (does (node kind) (leaf (take_while1 class))) s c (Err failure.Refused) t t
    run1_node_none {d} {kind} n = refuses going stands (node_still kind refused tt (run1_none ends (room going stands) less d n))

    pub run_few : e ≤ 16777216
    run_few = omega (arith, run_inside ends (room going stands) less, stands.small)

    pub run_word : e < 4294967296
    run_word = omega (arith, run_few)

-- text may be empty: a spare pays for its node
module _ {class : Class} {s : List ℕ} {c : IResult} {at : Cursor} {r : Result ℕ Failure} (going : c ≡ Ok at) (stands : Stands 1 s c) (ends : Ends (take_while class) s at.place r) where
  pub run0_node_fails : {q : IResult} {f : Failure} {d kind : ℕ} {t : List ℕ} → r ≡ Err f → q ≡ Err f → Goes d (does (node kind) (leaf (take_while class))) s c q t t
  run0_node_fails fails back = node_fails going (spares_none stands) ends fails back

  pub run0_node : {e d kind : ℕ} {q : Cursor} {t t' : List ℕ} → r ≡ Ok e → Leafed kind at.place e e at q t t' → Goes d (does (node kind) (leaf (take_while class))) s c (Ok q) t t'
  run0_node {d = d} {kind = kind} less w = let h = room going (spares_none stands) in
      leaves_spare going stands (node_lays kind (run0_still ends h less d)) (run_forward ends h less) (run_inside ends h less) w

  pub run0_few : {e : ℕ} → r ≡ Ok e → e ≤ 16777216
  run0_few less = omega (arith, run_inside ends (room going (spares_none stands)) less, stands.small)

  pub run0_word : {e : ℕ} → r ≡ Ok e → e < 4294967296
  run0_word less = omega (arith, run0_few less)
