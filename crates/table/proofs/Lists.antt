-- A list lends its items the rest of the table: the invariant of its loop, and the laws of its turns and its ends.
use Rattle.std.proofs.Common.{Ok, Err, ℕ, zero, suc, ◌+◌, ◌*◌, ◌-◌, ◌≤◌, ◌<◌}
use mathlib.Core.Path.{◌≡◌, refl, sym, ap, subst, ◌∙◌}
use mathlib.Core.List.{List}
use native.Mathlib.Omega.{arith}
use lib.Dec.{ltb, lt→ltb}
use lib.ListN.{length, take, drop}
use borrow.Rule.Slice.PartMut.{put_mid}
use Rattle.grammar.specs.Kinds.{kind_list}
use Rattle.grammar.specs.Forest.{Forest, none, tree, size, count, beside}
use Rattle.grammar.specs.Out.{Out, took, more, refused, deep, followed_by, with_before, again}
use Rattle.grammar.specs.Grammar.{G, seq, star, act, run}
use Rattle.grammar.proofs.Tests.{T_true}
use Rattle.grammar.proofs.Forests.{size_beside, beside_assoc, beside_none}
use Rattle.grammar.proofs.Steps.{levels_star_step}
use Rattle.table.specs.declared.Cursor.{Cursor}
use Rattle.table.specs.declared.Failure.{Failure}
use Rattle.table.specs.declared.Failure.TheVariants as failure
use Rattle.table.specs.Cursor.{IResult, Step, Took, More, Refused, Deep, step, behind, place_of, nodes_of, Stops, find}
use Rattle.table.specs.Table.{as_step, onward, over, then_table, list_table}
use Rattle.table.specs.Fill.{fill, fill_with, act_table, repeat_table}
use Rattle.table.specs.Lists.{Item, list_of}
use Rattle.table.specs.Promise.{Begun, Stands, Went, Goes, Put, Lends, Listed}
use Rattle.table.proofs.Cursors.{failed_stops, step_failed, refused_is}
use Rattle.table.proofs.Length.{fill_length, onward_length}
use Rattle.table.proofs.Onward.{onward_zero, onward_compose, onward_onward, onward_as, lent_out, lent_length, shift}
use Rattle.table.proofs.Going.{from, gone, stands_took}
use Rattle.table.proofs.Bounds.{room}
use Rattle.table.proofs.Structure.{Apart, apart_first, apart_next, apart_drop, apart_length, apart_parent, apart_no_parent, goes_length}
use Rattle.table.proofs.Trees.{count_beside}

-- a repetition writes an item, and then the repetition again behind it -----------------------------------------------------------

-- any two numbers of turns do that are more than the bytes left
module _ (limit : ℕ) (item_at : ℕ → Step) (write : ℕ → List ℕ → List ℕ) (ends : (i e n : ℕ) → i ≤ limit → item_at i ≡ Took e n → (i < e) × (e ≤ limit)) where
  turns_enough : (k k' at n : ℕ) (t : List ℕ) → at ≤ limit → limit < k + at → limit < k' + at
      → repeat_table k item_at write at n t ≡ repeat_table k' item_at write at n t
  unfolding repeat_table
  turns_enough zero k' at n t b l m = absurd (omega arith)
  turns_enough (suc k) zero at n t b l m = absurd (omega arith)
  turns_enough (suc k) (suc k') at n t b l m =
      go (item_at at) (λ e j p. let x = ends at e j b p in turns_enough k k' e (j + n) (onward n (write at) t) x.1 (omega (arith, x.0)) (omega (arith, x.0)))
    where
      go : (r : Step)
          → ((e j : ℕ) → r ≡ Took e j → repeat_table k item_at write e (j + n) (onward n (write at) t) ≡ repeat_table k' item_at write e (j + n) (onward n (write at) t))
          → then_table r (onward n (write at) t) (λ e j. repeat_table k item_at write e (j + n) (onward n (write at) t))
          ≡ then_table r (onward n (write at) t) (λ e j. repeat_table k' item_at write e (j + n) (onward n (write at) t))
      go (Took e j) h = h e j refl
      go (More w) h = refl
      go Refused h = refl
      go Deep h = refl

module _ (d : ℕ) (h : G) (s : List ℕ) (m : Item d h) where
  item_ends : (i e n : ℕ) → i ≤ length s → as_step (find d h s i) ≡ Took e n → (i < e) × (e ≤ length s)
  item_ends i e n b p = go (find d h s i) refl p
    where
      go : (o : Out) → find d h s i ≡ o → as_step o ≡ Took e n → (i < e) × (e ≤ length s)
      go (took e' f) q p =
          let x = m.taken s i e' f b q in
          let z : e' ≡ e = cc in
          (omega (arith, x.forward), omega (arith, x.inside))
      go (more w) q p = let z : ◌≡◌ {A = ℕ} 0 1 = cc in absurd (omega arith)
      go refused q p = let z : ◌≡◌ {A = ℕ} 0 1 = cc in absurd (omega arith)
      go deep q p = let z : ◌≡◌ {A = ℕ} 0 1 = cc in absurd (omega arith)

  star_fill : (at : ℕ) (t : List ℕ) → at ≤ length s
      → fill d (star h) s at t
      ≡ then_table (as_step (find d h s at)) (fill d h s at t) (λ e n. onward n (λ u. fill d (star h) s e u) (fill d h s at t))
  unfolding fill_with repeat_table
  star_fill at t b = ap first (onward_zero (λ u. fill d h s at u) t) ∙ go (as_step (find d h s at)) refl
    where
      turns : ℕ → ℕ → ℕ → List ℕ → List ℕ
      turns k e n u = repeat_table k (λ i. as_step (find d h s i)) (λ i v. fill d h s i v) e n u

      first : List ℕ → List ℕ
      first u = then_table (as_step (find d h s at)) u (λ e n. turns (length s) e (n + 0) u)

      go : (r : Step) → as_step (find d h s at) ≡ r
          → then_table r (fill d h s at t) (λ e n. turns (length s) e (n + 0) (fill d h s at t))
          ≡ then_table r (fill d h s at t) (λ e n. onward n (λ u. turns (suc (length s)) e 0 u) (fill d h s at t))
      go (Took e n) p =
          let x = item_ends at e n b p in
          let U = fill d h s at t in
          ap (λ (j : ℕ). turns (length s) e j U) (omega arith)
          ∙ turns_enough (length s) (λ i. as_step (find d h s i)) (λ i v. fill d h s i v) item_ends (length s) (suc (length s)) e (0 + n) U x.1 (omega (arith, x.0)) (omega arith)
          ∙ sym (shift (λ i. as_step (find d h s i)) (λ i v. fill d h s i v) (λ i u. fill_length d h s i u) (suc (length s)) e 0 n U)
      go (More w) p = refl
      go Refused p = refl
      go Deep p = refl

with_both : (f g : Forest) (o : Out) → with_before f (with_before g o) ≡ with_before (beside f g) o
with_both f g (took e h) = ap (took e) (sym (beside_assoc f g h))
with_both f g (more w) = refl
with_both f g refused = refl
with_both f g deep = refl

again_took : (at e : ℕ) (f : Forest) (next : ℕ → Out) → at < e → again (took e f) at next ≡ with_before f (next e)
again_took at e f next l = rw (T_true (ltb at e) (lt→ltb at e l))

-- what an answer found that is no failure
record Found (next : Cursor) (o : Out) : Type 0 where
  forest : Forest
  is : o ≡ took next.place forest

found : {n : ℕ} {q : IResult} {next : Cursor} {w : List ℕ → List ℕ} {t t' : List ℕ} (o : Out) → Went n o w q t t' → q ≡ Ok next → Found next o
found (took e f) w h = record { forest = f; is = ap (λ (j : ℕ). took j f) (ap place_of (sym w.read ∙ ap step h)) }
found (more u) w h = absurd (subst Stops (sym w.read ∙ ap step h) tt)
found refused w h = absurd (subst Stops (sym w.read ∙ ap step h) tt)
found deep w h = absurd (subst Stops (sym w.read ∙ ap step h) tt)

-- what one found that is a failure, if it is no refusal
ended : {n : ℕ} {q : IResult} {f : Failure} {w : List ℕ → List ℕ} {t t' : List ℕ} {A : Type 0} (o : Out) → Went n o w q t t' → q ≡ Err f → (q ≡ Err failure.Refused → ⊥)
    → ((w : ℕ) → o ≡ more w → A) → (o ≡ deep → A) → A
ended (took e f) w h r x y = absurd (subst Stops w.read (step_failed h))
ended (more u) w h r x y = x u refl
ended {q = q} refused w h r x y = absurd (r (refused_is q w.read))
ended deep w h r x y = y refl

-- THE INVARIANT of a list's loop: `number` items were read from the place `at` to the cursor `cur`, into the part of T₀ from k on
pub record Turning (d : ℕ) (g h : G) (s : List ℕ) (at : Cursor) (k : ℕ) (T₀ : List ℕ) (cur : Cursor) (number : ℕ) (t : List ℕ) : Type 0 where
  pub items : Forest
  pub end : ℕ
  pub part : List ℕ
  pub apart : Apart at.nodes k T₀ part t
  pub here : step (Ok cur) ≡ Took end (size items)
  pub left : find d (seq g (star h)) s at.place ≡ with_before items (find d (star h) s end)
  pub writes : fill d (seq g (star h)) s at.place (drop k T₀) ≡ onward (size items) (λ u. fill d (star h) s end u) part
  pub counted : number ≡ count items
  pub stands : Stands 0 s (Ok cur)
  pub up : number ≤ end
  pub pays : size items + 4 * at.place < 4 * end

module _ {d : ℕ} {g : G} (h : G) {s : List ℕ} {c : IResult} {at : Cursor} (going : c ≡ Ok at) (stands : Stands 0 s c) where
  -- the first item
  pub turning_first : {k : ℕ} {b cur : Cursor} {r : IResult} {t v : List ℕ} → Item d g → Lends (length t) at k → Begun at b
      → Goes d g s (Ok b) r (take (length t - k) (drop k t)) v → r ≡ Ok cur
      → Turning d g h s at k t cur 1 (put_mid k (length t - k) t v)
  unfolding run fill_with
  turning_first {k} {b} {cur} {r} {t} {v} m lends e first on =
      let w = first.went at.place 0 (ap (λ (b : Cursor). step (Ok b)) e.is) in
      let p : v ≡ fill d g s at.place (drop k t) = w.wrote ∙ onward_zero (λ u. fill d g s at.place u) _ ∙ ap (fill d g s at.place) (lent_out t k) in
      let f = found (find d g s at.place) w on in
      let inside : at.place ≤ length s = (room going stands).inside in
      let x = m.taken s at.place cur.place f.forest inside f.is in
      record {
        items = f.forest;
        end = cur.place;
        part = v;
        apart = apart_next (apart_first lends) (ap length p ∙ fill_length d g s at.place (drop k t));
        here = ap step (sym on) ∙ w.read ∙ ap (behind 0) f.is ∙ ap (Took cur.place) (omega arith);
        left = ap (λ (o : Out). followed_by o (λ e f. with_before f (find d (star h) s e))) f.is;
        writes =
            ap (λ (o : Out). then_table (as_step o) (fill d g s at.place (drop k t)) (λ e n. onward n (λ u. fill d (star h) s e u) (fill d g s at.place (drop k t)))) f.is
            ∙ ap (onward (size f.forest) (λ u. fill d (star h) s cur.place u)) (sym p);
        counted = sym x.alone;
        stands = subst (λ (k : IResult). Stands 0 s k) on first.stands;
        up = omega (arith, x.forward);
        pays = x.pays;
      }

module _ {d : ℕ} {g h : G} {s : List ℕ} {at : Cursor} where
  module _ {k number : ℕ} {cur : Cursor} {r : IResult} {T₀ t v : List ℕ} (inv : Turning d g h s at k T₀ cur number t)
      (next : Goes d h s (Ok cur) r (take (length t - k) (drop k t)) v) where
    inside : inv.end ≤ length s
    inside = omega (arith, ap place_of inv.here, inv.stands.inside)

    turn : Went (size inv.items) (find d h s inv.end) (λ u. fill d h s inv.end u) r inv.part v
    turn =
        subst (λ (u : List ℕ). Went (size inv.items) (find d h s inv.end) (λ u. fill d h s inv.end u) r u v) (lent_out t k ∙ apart_drop inv.apart)
        (next.went inv.end (size inv.items) inv.here)

    turned : Apart at.nodes k T₀ v (put_mid k (length t - k) t v)
    turned =
        apart_next inv.apart
        (ap length turn.wrote ∙ onward_length (size inv.items) (λ u. fill d h s inv.end u) inv.part (λ u. fill_length d h s inv.end u))

    -- what the turn leaves to write
    one_more : Item d h → (o : Out) → find d h s inv.end ≡ o
        → fill d (seq g (star h)) s at.place (drop k T₀)
        ≡ onward (size inv.items) (λ u. then_table (as_step o) (fill d h s inv.end u) (λ e n. onward n (λ w. fill d (star h) s e w) (fill d h s inv.end u))) inv.part
    one_more m o p =
        inv.writes
        ∙ onward_as (size inv.items) (λ u. fill d (star h) s inv.end u) _ inv.part
        (λ u. star_fill d h s m inv.end u inside
        ∙ ap (λ (o : Out). then_table (as_step o) (fill d h s inv.end u) (λ e n. onward n (λ w. fill d (star h) s e w) (fill d h s inv.end u))) p)

    -- one more item
    pub turning_more : {e : Cursor} → Item d h → r ≡ Ok e → Turning d g h s at k T₀ e (number + 1) (put_mid k (length t - k) t v)
    turning_more {e = e} m on =
        let f = found (find d h s inv.end) turn on in
        let x = m.taken s inv.end e.place f.forest inside f.is in
        let n = size inv.items in
        let b = size_beside inv.items f.forest in
        record {
          items = beside inv.items f.forest;
          end = e.place;
          part = v;
          apart = turned;
          here = ap step (sym on) ∙ turn.read ∙ ap (behind n) f.is ∙ ap (Took e.place) (omega arith);
          left =
              inv.left
              ∙ ap (with_before inv.items)
              (levels_star_step d h s inv.end inside
              ∙ ap (λ (o : Out). again o inv.end (λ e. find d (star h) s e)) f.is
              ∙ again_took inv.end e.place f.forest (λ e. find d (star h) s e) x.forward)
              ∙ with_both inv.items f.forest (find d (star h) s e.place);
          writes =
              one_more m (took e.place f.forest) f.is
              ∙ onward_compose n (λ u. onward (size f.forest) (λ w. fill d (star h) s e.place w) u) (λ u. fill d h s inv.end u) inv.part (λ u. fill_length d h s inv.end u)
              ∙ ap (onward n (λ u. onward (size f.forest) (λ w. fill d (star h) s e.place w) u)) (sym turn.wrote)
              ∙ onward_onward n (size f.forest) (λ w. fill d (star h) s e.place w) v
              ∙ ap (λ (j : ℕ). onward j (λ w. fill d (star h) s e.place w) v) (omega arith);
          counted = omega (arith, inv.counted, count_beside inv.items f.forest, x.alone);
          stands = subst (λ (k : IResult). Stands 0 s k) on next.stands;
          up = omega (arith, inv.up, x.forward);
          pays = omega (arith, inv.pays, x.pays, b);
        }

    whole : (o : Out) → find d (star h) s inv.end ≡ o → find d (list_of g h) s at.place ≡ followed_by (with_before inv.items o) (λ e f. took e (tree kind_list (count f) 0 f none))
    unfolding run act
    whole o p = ap (λ (o : Out). followed_by o (λ e f. took e (tree kind_list (count f) 0 f none))) (inv.left ∙ ap (with_before inv.items) p)

    -- the last turn took nothing: the items are as it left them
    last_part : Item d h → (o : Out) → find d h s inv.end ≡ o → Stops (as_step o) → v ≡ fill d (seq g (star h)) s at.place (drop k T₀)
    last_part m o p h₁ = sym (one_more m o p ∙ go o h₁ ∙ sym turn.wrote)
      where
        go : (o : Out) → Stops (as_step o)
            → onward (size inv.items) (λ u. then_table (as_step o) (fill d h s inv.end u) (λ e n. onward n (λ w. fill d (star h) s e w) (fill d h s inv.end u))) inv.part
            ≡ onward (size inv.items) (λ u. fill d h s inv.end u) inv.part
        go (took e f) z = absurd z
        go (more w) z = refl
        go refused z = refl
        go deep z = refl

    -- no more items: the list's own words were put
    pub list_ends : {c q : IResult} {t' : List ℕ} → c ≡ Ok at → Stands 0 s c → Item d h → r ≡ Err failure.Refused → Listed number at cur r q (put_mid k (length t - k) t v) t'
        → Goes d (list_of g h) s c q T₀ t'
    unfolding run act fill_with act_table size
    list_ends {c} {q} {t'} going stands m last done =
        let n = at.nodes in
        let few = (subst (λ (j : IResult). Stands 0 s j) going stands).few in
        let over_items = gone (find d h s inv.end) turn (ap step last) in
        let o : find d (seq g (star h)) s at.place ≡ took inv.end inv.items =
        inv.left
        ∙ ap (with_before inv.items) (levels_star_step d h s inv.end inside ∙ ap (λ (o : Out). again o inv.end (λ e. find d (star h) s e)) over_items)
        ∙ ap (took inv.end) (beside_none inv.items) in
        let p : find d (list_of g h) s at.place ≡ took inv.end (tree kind_list (count inv.items) 0 inv.items none) =
        ap (λ (o : Out). followed_by o (λ e f. took e (tree kind_list (count f) 0 f none))) o in
        let w : t' ≡ onward n (λ u. over kind_list (count inv.items) 0 (size inv.items + 1) (onward 1 (λ z. fill d (seq g (star h)) s at.place z) u)) T₀ =
        apart_parent (λ z. fill d (seq g (star h)) s at.place z) (λ z. fill_length d (seq g (star h)) s at.place z) turned (last_part m refused over_items tt)
        (subst (λ (j : ℕ). Put n kind_list j 0 (size inv.items + 1) (put_mid k (length t - k) t v) t') inv.counted (subst (λ (j : ℕ). Put n kind_list number 0 (j + 1) (put_mid k (length t - k) t v) t') (ap nodes_of inv.here) (done.put last))) in
        let y : Went n (find d (list_of g h) s at.place) (λ u. fill d (list_of g h) s at.place u) q T₀ t' = record {
          read = done.read last ∙ ap (λ (j : ℕ). Took j (1 + cur.nodes + at.nodes)) (ap place_of inv.here) ∙ ap (Took inv.end) (omega (arith, ap nodes_of inv.here)) ∙ ap (behind n) (sym p);
          wrote = w ∙ onward_as n _ (λ u. fill d (list_of g h) s at.place u) T₀ (λ u. ap (λ (o : Out). list_table o (onward 1 (λ z. fill d (seq g (star h)) s at.place z) u)) (sym o));
        } in
        from going stands y
        (stands_took q (y.read ∙ ap (behind n) p) inside stands.small (omega (arith, inv.pays, few)))

    -- an item ended the reading
    pub list_halts : {c : IResult} {f : Failure} → c ≡ Ok at → Stands 0 s c → Item d h → r ≡ Err f → (r ≡ Err failure.Refused → ⊥) → Goes d (list_of g h) s c r T₀ (put_mid k (length t - k) t v)
    unfolding run act fill_with act_table
    list_halts going stands m fails other =
        let n = at.nodes in
        let y : Went n (find d (list_of g h) s at.place) (λ u. fill d (list_of g h) s at.place u) r T₀ (put_mid k (length t - k) t v) =
        ended (find d h s inv.end) turn fails other
        (λ w p. stop (more w) p (turn.read ∙ ap (behind (size inv.items)) p) (ap (with_before inv.items) (starred (more w) p)) tt (λ u. refl, refl))
        (λ p. stop deep p (turn.read ∙ ap (behind (size inv.items)) p) (ap (with_before inv.items) (starred deep p)) tt (λ u. refl, refl)) in
        from going stands y next.stands
      where
        starred : (o : Out) → find d h s inv.end ≡ o → find d (star h) s inv.end ≡ again o inv.end (λ e. find d (star h) s e)
        starred o p = levels_star_step d h s inv.end inside ∙ ap (λ (o : Out). again o inv.end (λ e. find d (star h) s e)) p

        stop : (o : Out) → find d h s inv.end ≡ o → step r ≡ behind at.nodes o → with_before inv.items (find d (star h) s inv.end) ≡ o → Stops (as_step o)
            → ((u : List ℕ) → list_table o u ≡ u) × (followed_by o (λ e f. took e (tree kind_list (count f) 0 f none)) ≡ o)
            → Went at.nodes (find d (list_of g h) s at.place) (λ u. fill d (list_of g h) s at.place u) r T₀ (put_mid k (length t - k) t v)
        stop o p read all stops through =
            let w = inv.left ∙ all in
            record {
              read = read ∙ ap (behind at.nodes) (sym (ap (λ (o : Out). followed_by o (λ e f. took e (tree kind_list (count f) 0 f none))) w ∙ through.1));
              wrote =
                  apart_no_parent (λ z. fill d (seq g (star h)) s at.place z) (λ z. fill_length d (seq g (star h)) s at.place z) turned (last_part m o p stops)
                  ∙ onward_as at.nodes _ (λ u. fill d (list_of g h) s at.place u) T₀
                  (λ u. sym (ap (λ (o : Out). list_table o (onward 1 (λ z. fill d (seq g (star h)) s at.place z) u)) w ∙ through.0 (onward 1 (λ z. fill d (seq g (star h)) s at.place z) u)));
            }

module _ {d : ℕ} {g : G} (h : G) {s : List ℕ} {c : IResult} {at : Cursor} (going : c ≡ Ok at) (stands : Stands 0 s c) where
  -- the first item took nothing
  pub list_stops : {k : ℕ} {b : Cursor} {first q : IResult} {f : Failure} {t v : List ℕ} → Lends (length t) at k → Begun at b → Goes d g s (Ok b) first (take (length t - k) (drop k t)) v
      → first ≡ Err f → q ≡ Err f → Goes d (list_of g h) s c q t (put_mid k (length t - k) t v)
  unfolding run act fill_with act_table
  list_stops {k} {b} {first} {q} {f} {t} {v} lends e x fails back =
      let n = at.nodes in
      let w = x.went at.place 0 (ap (λ (b : Cursor). step (Ok b)) e.is) in
      let p : v ≡ fill d g s at.place (drop k t) = w.wrote ∙ onward_zero (λ u. fill d g s at.place u) _ ∙ ap (fill d g s at.place) (lent_out t k) in
      let a = apart_next (apart_first lends) (ap length p ∙ fill_length d g s at.place (drop k t)) in
      let y : Went n (find d (list_of g h) s at.place) (λ u. fill d (list_of g h) s at.place u) (Err f) t (put_mid k (length t - k) t v) = go (find d g s at.place) (ap step (sym fails) ∙ w.read) (apart_no_parent (λ u. fill d g s at.place u) (λ u. fill_length d g s at.place u) a p) in
      subst (λ (j : IResult). Goes d (list_of g h) s c j t (put_mid k (length t - k) t v)) (sym back) (from going stands y (subst (λ (k : IResult). Stands 0 s k) fails x.stands))
    where
      go : (o : Out) → step (Err f) ≡ behind 0 o → put_mid k (length t - k) t v ≡ onward at.nodes (λ u. onward 1 (λ w. fill d g s at.place w) u) t
          → Went at.nodes (followed_by (followed_by o (λ e f. with_before f (find d (star h) s e))) (λ e f. took e (tree kind_list (count f) 0 f none)))
          (λ u. list_table (followed_by o (λ e f. with_before f (find d (star h) s e)))
          (onward 1 (λ w. then_table (as_step o) (fill d g s at.place w) (λ e n. onward n (λ z. fill d (star h) s e z) (fill d g s at.place w))) u)) (Err f) t (put_mid k (length t - k) t v)
      go (took e i) r p = absurd (subst Stops r (failed_stops f))
      go (more u) r p = record { read = r; wrote = p }
      go refused r p = record { read = r; wrote = p }
      go deep r p = record { read = r; wrote = p }

-- THE INVARIANT of the code's loop, from where it began (e₀, n₀, t₀) to where it is (e, n, t)
pub record Turns (d : ℕ) (g h : G) (s : List ℕ) (at : Cursor) (k : ℕ) (e₀ : Cursor) (n₀ : ℕ) (t₀ : List ℕ) (e : Cursor) (n : ℕ) (t : List ℕ) : Type 0 where
  pub on : (T₀ : List ℕ) → Turning d g h s at k T₀ e₀ n₀ t₀ → Turning d g h s at k T₀ e n t
  pub stands : Stands 0 s (Ok e)
  pub up : n ≤ e.place
  pub within : k ≤ length t
  pub same : length t ≡ length t₀

pub turns_none : {d : ℕ} {g h : G} {s : List ℕ} {at e : Cursor} {k n : ℕ} {T₀ t : List ℕ} → Turning d g h s at k T₀ e n t → Turns d g h s at k e n t e n t
turns_none x = record {
  on = λ T₀ y. y;
  stands = x.stands;
  up = omega (arith, x.up, ap place_of x.here);
  within = omega (arith, x.apart.within, apart_length x.apart);
  same = refl;
}

-- the loop goes forward
pub forward : {d : ℕ} {h : G} {s : List ℕ} {e next : Cursor} {r : IResult} {t v : List ℕ} → Item d h → Stands 0 s (Ok e) → Goes d h s (Ok e) r t v → r ≡ Ok next
    → e.place < next.place
forward {d} {h} {s} {e} {next} m stands x on =
    let w = x.went e.place e.nodes refl in
    let f = found (find d h s e.place) w on in
    omega (arith, (m.taken s e.place next.place f.forest stands.inside f.is).forward)

pub turns_more : {d : ℕ} {g h : G} {s : List ℕ} {at e₀ e next : Cursor} {k n₀ n : ℕ} {r : IResult} {t₀ t v : List ℕ} → Item d h
    → Turns d g h s at k e₀ n₀ t₀ e n t → Goes d h s (Ok e) r (take (length t - k) (drop k t)) v → r ≡ Ok next
    → Turns d g h s at k e₀ n₀ t₀ next (n + 1) (put_mid k (length t - k) t v)
turns_more {s = s} {k = k} {t = t} {v = v} m inv next on =
    let l = forward m inv.stands next on in
    let z = lent_length t v k inv.within (goes_length refl next ∙ ap length (lent_out t k)) in
    record {
      on = λ T₀ x. turning_more (inv.on T₀ x) next m on;
      stands = subst (λ (k : IResult). Stands 0 s k) on next.stands;
      up = omega (arith, inv.up);
      within = omega (arith, inv.within);
      same = z ∙ inv.same;
    }

-- for the function itself: its guard, its first item and its loop ---------------------------------------------------------------

module _ {d : ℕ} {g h : G} {s : List ℕ} {c : IResult} {at b e₀ : Cursor} {first : IResult} {k : ℕ} (T₀ : List ℕ) {v₀ : List ℕ} where
  -- the loop begins
  pub list_begins : Item d g → c ≡ Ok at → Stands 0 s c → Lends (length T₀) at k → Begun at b
      → Goes d g s (Ok b) first (take (length T₀ - k) (drop k T₀)) v₀ → first ≡ Ok e₀
      → Turns d g h s at k e₀ 1 (put_mid k (length T₀ - k) T₀ v₀) e₀ 1 (put_mid k (length T₀ - k) T₀ v₀)
  list_begins m going stands lends e first on = turns_none (turning_first h going stands m lends e first on)

module _ {d : ℕ} {g h : G} {s : List ℕ} {c : IResult} {at b e₀ : Cursor} {first : IResult} {k : ℕ} {T₀ v₀ : List ℕ} where
  module _ {n : ℕ} {e : Cursor} {r : IResult} {t v : List ℕ} where
    -- an item failed: the list is over, or the reading is
    pub list_over : {q : IResult} {f : Failure} {t' : List ℕ} → Item d g → Item d h → c ≡ Ok at → Stands 0 s c → Lends (length T₀) at k → Begun at b
        → Goes d g s (Ok b) first (take (length T₀ - k) (drop k T₀)) v₀ → first ≡ Ok e₀
        → Turns d g h s at k e₀ 1 (put_mid k (length T₀ - k) T₀ v₀) e n t → Goes d h s (Ok e) r (take (length t - k) (drop k t)) v → r ≡ Err f
        → Listed n at e r q (put_mid k (length t - k) t v) t' → Goes d (list_of g h) s c q T₀ t'
    list_over {q} {f} {t'} m m₂ going stands lends begin first on inv next fails done = go f fails
      where
        here : Turning d g h s at k T₀ e n t
        here = inv.on T₀ (turning_first h going stands m lends begin first on)

        halts : {f : Failure} → r ≡ Err f → (r ≡ Err failure.Refused → ⊥) → Goes d (list_of g h) s c q T₀ t'
        halts fails other =
            let same = done.ended other in
            subst (λ (u : List ℕ). Goes d (list_of g h) s c q T₀ u) (sym same.1)
            (subst (λ (j : IResult). Goes d (list_of g h) s c j T₀ (put_mid k (length t - k) t v)) (sym same.0) (list_halts here next going stands m₂ fails other))

        go : (f : Failure) → r ≡ Err f → Goes d (list_of g h) s c q T₀ t'
        go failure.Refused p = list_ends here next going stands m₂ p done
        go (failure.Unfinished w) p = halts p (λ z. let y : More w ≡ Refused = ap step (sym p ∙ z) in cc)
        go failure.TooDeep p = halts p (λ z. let y : Deep ≡ Refused = ap step (sym p ∙ z) in cc)

-- what ended the list, under the name of the answer that it was
pub listed_of : {n : ℕ} {c e : Cursor} {last r q : IResult} {t t' : List ℕ} → r ≡ last → Listed n c e last q t t' → Listed n c e r q t t'
listed_of {n} {c} {e} {q = q} {t = t} {t' = t'} is x = subst (λ (k : IResult). Listed n c e k q t t') (sym is) x

-- the measure falls
pub list_less : {d : ℕ} {h : G} {s : List ℕ} {e next : Cursor} {r : IResult} {t v : List ℕ} → Item d h → Stands 0 s (Ok e) → Goes d h s (Ok e) r t v → r ≡ Ok next
    → length s - next.place < length s - e.place
list_less {s = s} m stands x on =
    let l = forward m stands x on in
    let y = subst (λ (k : IResult). Stands 0 s k) on x.stands in
    omega (arith, y.inside)
