-- A structure lends its children the rest of the table: the laws of what comes back.
use Rattle.std.proofs.Common.{Ok, Err, ℕ, ◌+◌, ◌-◌, ◌≤◌}
use mathlib.Core.Path.{◌≡◌, refl, sym, ap, subst, ◌∙◌}
use mathlib.Core.List.{List, ◌++◌}
use native.Mathlib.Omega.{arith}
use lib.Dec.{T}
use lib.ListN.{length, take, drop, length-append, length-drop, take-append-drop}
use lib.Seq.{take_at, drop_at, length-take-le}
use borrow.Rule.Slice.PartMut.{put_mid}
use Rattle.grammar.specs.Forest.{Forest, none, tree, size}
use Rattle.grammar.specs.Out.{Out, took, more, refused, deep, followed_by}
use Rattle.grammar.specs.Grammar.{G, does, node, heads, dropped, act, headed, run}
use Rattle.grammar.proofs.Forests.{size_beside}
use Rattle.table.specs.declared.Cursor.{Cursor}
use Rattle.table.specs.declared.Failure.{Failure}
use Rattle.table.specs.Cursor.{IResult, Took, step, behind, place_of, Stops, find}
use Rattle.table.specs.Table.{as_step, skip_to, over, onward, rehead, then_table, parent_table}
use Rattle.table.specs.Fill.{fill, fill_with, act_table}
use Rattle.table.specs.Promise.{Begun, Moved, Stands, Went, Goes, Skims, Put, Lends, Finished, Headed}
use Rattle.table.proofs.Cursors.{failed_stops, took_is, step_took}
use Rattle.table.proofs.Length.{fill_length, onward_length}
use Rattle.table.proofs.Onward.{onward_zero, onward_same, onward_as, onward_still, onward_compose, onward_parent, lent_out, lent_back}
use Rattle.table.proofs.Going.{Keeping, Still, Lays, skim, from, went_as}
use Rattle.table.specs.Lists.{Paid}
use Rattle.table.proofs.Bounds.{paid, paid_stands, pays_stands}

-- the lengths
pub goes_length : {d : ℕ} {g : G} {s : List ℕ} {c q : IResult} {at : Cursor} {t t' : List ℕ} → c ≡ Ok at → Goes d g s c q t t' → length t' ≡ length t
goes_length {d} {g} {s} {at = at} {t = t} e x =
    ap length (x.went at.place at.nodes (step_took e)).wrote
    ∙ onward_length at.nodes (λ u. fill d g s at.place u) t (λ u. fill_length d g s at.place u)

-- T₀ with another part from k on: where n nodes and one more stand before it
pub record Apart (n k : ℕ) (T₀ U t : List ℕ) : Type 0 where
  pub is : t ≡ take k T₀ ++ U
  pub long : length U ≡ length (drop k T₀)
  pub cut : k ≡ skip_to (length T₀) (1 + n)
  pub within : k ≤ length T₀

pub apart_length : {n k : ℕ} {T₀ U t : List ℕ} → Apart n k T₀ U t → length t ≡ length T₀
apart_length {n} {k} {T₀} {U} {t} x =
    ap length x.is ∙ length-append (take k T₀) U ∙ omega (arith, length-take-le k T₀ x.within, x.long, x.within, length-drop k T₀)

pub apart_drop : {n k : ℕ} {T₀ U t : List ℕ} → Apart n k T₀ U t → drop k t ≡ U
apart_drop {n} {k} {T₀} {U} {t} x = ap (drop k) x.is ∙ drop_at (take k T₀) U k (length-take-le k T₀ x.within)

pub apart_take : {n k : ℕ} {T₀ U t : List ℕ} → Apart n k T₀ U t → take k t ≡ take k T₀
apart_take {n} {k} {T₀} {U} {t} x = ap (take k) x.is ∙ take_at (take k T₀) U k (length-take-le k T₀ x.within)

-- before anything is read
pub apart_first : {at : Cursor} {k : ℕ} {t : List ℕ} → Lends (length t) at k → Apart at.nodes k t (drop k t) t
apart_first {at} {k} {t} x = record { is = sym (take-append-drop k t); long = refl; cut = x.is; within = x.within }

-- and after something was
pub apart_next : {n k : ℕ} {T₀ U t v : List ℕ} → Apart n k T₀ U t → length v ≡ length U → Apart n k T₀ v (put_mid k (length t - k) t v)
apart_next {n} {k} {T₀} {U} {t} {v} x l = record {
  is = lent_back t v k ∙ ap (λ (y : List ℕ). y ++ v) (apart_take x);
  long = l ∙ x.long;
  cut = x.cut;
  within = x.within;
}

-- what it comes to, if the part is as w leaves it
pub apart_onward : {n k : ℕ} {T₀ U t : List ℕ} (w : List ℕ → List ℕ) → Apart n k T₀ U t → U ≡ w (drop k T₀) → t ≡ onward (1 + n) w T₀
unfolding onward
apart_onward {n} {k} {T₀} {U} w x p = x.is ∙ ap (λ (y : List ℕ). take k T₀ ++ y) p ∙ ap (λ (j : ℕ). take j T₀ ++ w (drop j T₀)) x.cut

-- a parent's words over what was read there
pub apart_parent : {n k : ℕ} {T₀ U t t' : List ℕ} (w : List ℕ → List ℕ) {kind a b size : ℕ} → Keeping w → Apart n k T₀ U t → U ≡ w (drop k T₀) → Put n kind a b size t t'
    → t' ≡ onward n (λ u. over kind a b size (onward 1 w u)) T₀
apart_parent {n} {T₀ = T₀} w {kind} {a} {b} {size} keeps x p put =
    put.is ∙ ap (onward n (λ u. over kind a b size u)) (apart_onward w x p) ∙ onward_parent n (λ u. over kind a b size u) w T₀ keeps

-- or none
pub apart_no_parent : {n k : ℕ} {T₀ U t : List ℕ} (w : List ℕ → List ℕ) → Keeping w → Apart n k T₀ U t → U ≡ w (drop k T₀)
    → t ≡ onward n (λ u. onward 1 w u) T₀
apart_no_parent {n} {T₀ = T₀} w keeps x p = apart_onward w x p ∙ onward_same n (onward (1 + n) w T₀) ∙ onward_parent n (λ u. u) w T₀ keeps

-- THE LAW of a structure
module _ {d : ℕ} {g : G} {kind : ℕ} {s : List ℕ} {c : IResult} {at : Cursor} (going : c ≡ Ok at) (stands : Stands 0 s c) where
  pub node_done : {k : ℕ} {b : Cursor} {inner q : IResult} {t v t' : List ℕ} → Paid d (does (node kind) g) → Lends (length t) at k → Begun at b
      → Goes d g s (Ok b) inner (take (length t - k) (drop k t)) v → Finished kind at inner q (put_mid k (length t - k) t v) t'
      → Goes d (does (node kind) g) s c q t t'
  unfolding run act fill_with act_table size
  node_done {k} {b} {inner} {q} {t} {v} {t'} m lends e children done =
      let w = children.went at.place 0 (ap (λ (b : Cursor). step (Ok b)) e.is) in
      let p : v ≡ fill d g s at.place (drop k t) = w.wrote ∙ onward_zero (λ u. fill d g s at.place u) _ ∙ ap (fill d g s at.place) (lent_out t k) in
      let x = apart_next (apart_first lends) (ap length p ∙ fill_length d g s at.place (drop k t)) in
      let y : Went at.nodes (find d (does (node kind) g) s at.place) (λ u. fill d (does (node kind) g) s at.place u) q t t' = go (find d g s at.place) w.read p x in
      from going stands y
      (pays_stands d (does (node kind) g) c q m stands (step_took going) y.read)
    where
      stop : (o : Out) → step inner ≡ behind 0 o → ((n : ℕ) → behind 0 o ≡ behind n o) → Stops (step inner) → v ≡ fill d g s at.place (drop k t) → Apart at.nodes k t v (put_mid k (length t - k) t v)
          → Went at.nodes o (λ u. onward 1 (λ w. fill d g s at.place w) u) q t t'
      stop o r same h p x =
          let e = done.stopped h in
          record {
            read = ap step e.0 ∙ r ∙ same at.nodes;
            wrote = e.1 ∙ apart_no_parent (λ u. fill d g s at.place u) (λ u. fill_length d g s at.place u) x p;
          }

      go : (o : Out) → step inner ≡ behind 0 o → v ≡ fill d g s at.place (drop k t) → Apart at.nodes k t v (put_mid k (length t - k) t v)
          → Went at.nodes (followed_by o (λ e f. took e (tree kind at.place e f none)))
          (λ u. parent_table kind at.place (as_step o) (onward 1 (λ w. fill d g s at.place w) u)) q t t'
      go (took e f) r p x =
          let b : step inner ≡ Took e (size f) = r ∙ ap (Took e) (omega arith) in
          record {
            read = done.read e (size f) b ∙ ap (Took e) (omega arith);
            wrote = apart_parent (λ u. fill d g s at.place u) (λ u. fill_length d g s at.place u) x p
                (done.put e (size f) b);
          }
      go (more u) r p x = stop (more u) r (λ n. refl) (subst Stops (sym r) tt) p x
      go refused r p x = stop refused r (λ n. refl) (subst Stops (sym r) tt) p x
      go deep r p x = stop deep r (λ n. refl) (subst Stops (sym r) tt) p x

-- .. over bytes that make no node: no table is lent
module _ {g : G} {kind : ℕ} {s : List ℕ} {c : IResult} {at : Cursor} (going : c ≡ Ok at) (stands : Stands 0 s c) where
  pub bare_done : {b : Cursor} {inner q : IResult} {t t' : List ℕ} → T (paid (does (node kind) g)) → Begun at b → Skims g s (Ok b) inner → Finished kind at inner q t t'
      → Goes 0 (does (node kind) g) s c q t t'
  unfolding run act fill_with act_table size
  bare_done {b} {inner} {q} {t} {t'} m e children done =
      let y : Went at.nodes (find 0 (does (node kind) g) s at.place) (λ u. fill 0 (does (node kind) g) s at.place u) q t t' =
      go (find 0 g s at.place) ((children.on t).went at.place 0 (ap (λ (b : Cursor). step (Ok b)) e.is)).read in
      from going stands y
      (paid_stands 0 (does (node kind) g) c q m stands (step_took going) y.read)
    where
      still : (u : List ℕ) → fill 0 g s at.place u ≡ u
      still u = sym (((children.on u).went at.place 0 (ap (λ (b : Cursor). step (Ok b)) e.is)).wrote ∙ onward_zero (λ w. fill 0 g s at.place w) u)

      bare : (u : List ℕ) → onward 1 (λ w. fill 0 g s at.place w) u ≡ u
      bare u = onward_still 1 (λ w. fill 0 g s at.place w) still u

      stop : (o : Out) → step inner ≡ behind 0 o → ((n : ℕ) → behind 0 o ≡ behind n o) → Stops (step inner)
          → Went at.nodes o (λ u. onward 1 (λ w. fill 0 g s at.place w) u) q t t'
      stop o r same h =
          let e = done.stopped h in
          let n = at.nodes in
          record {
            read = ap step e.0 ∙ r ∙ same n;
            wrote = e.1 ∙ onward_same n t ∙ onward_as n (λ u. u) (λ u. onward 1 (λ w. fill 0 g s at.place w) u) t (λ u. sym (bare u));
          }

      go : (o : Out) → step inner ≡ behind 0 o
          → Went at.nodes (followed_by o (λ e f. took e (tree kind at.place e f none)))
          (λ u. parent_table kind at.place (as_step o) (onward 1 (λ w. fill 0 g s at.place w) u)) q t t'
      go (took e f) r =
          let n = at.nodes in
          let b : step inner ≡ Took e (size f) = r ∙ ap (Took e) (omega arith) in
          record {
            read = done.read e (size f) b ∙ ap (Took e) (omega arith);
            wrote =
                (done.put e (size f) b).is
                ∙ onward_as n (λ u. over kind at.place e (size f + 1) u) (λ u. over kind at.place e (size f + 1) (onward 1 (λ w. fill 0 g s at.place w) u)) t
                (λ u. ap (over kind at.place e (size f + 1)) (sym (bare u)));
          }
      go (more u) r = stop (more u) r (λ n. refl) (subst Stops (sym r) tt)
      go refused r = stop refused r (λ n. refl) (subst Stops (sym r) tt)
      go deep r = stop deep r (λ n. refl) (subst Stops (sym r) tt)

-- heads ----------------------------------------------------------------------------------------------------------------------

pub size_headed : (at e : ℕ) (f : Forest) → size (headed at e f) ≡ size f
unfolding headed size
size_headed at e none = refl
size_headed at e (tree k a b f g) = omega (arith, size_beside f g)

-- the first node of what was read takes in the others
pub heads_done : {d : ℕ} {g : G} {s : List ℕ} {c r q : IResult} {at : Cursor} {t t₁ t₂ : List ℕ} → c ≡ Ok at → Goes d g s c r t t₁ → Headed at r q t₁ t₂ → Goes d (does heads g) s c q t t₂
unfolding run act fill_with act_table
heads_done {d} {g} {s} {c} {r} {q} {at} {t} {t₁} {t₂} going x w = record {
  stopped = λ h. absurd (subst Stops (step_took going) h);
  went = λ i n p. go i n p (find d g s i) (x.went i n p);
  stands = subst (λ (k : IResult). Stands 0 s k) (sym w.read) x.stands;
}
  where
    stop : (i n : ℕ) (o : Out) → Went n o (λ u. fill d g s i u) r t t₁ → Stops (step r) → Went n o (λ u. fill d g s i u) q t t₂
    stop i n o y h = went_as (w.read, w.stopped h) y

    go : (i n : ℕ) → step c ≡ Took i n → (o : Out) → Went n o (λ u. fill d g s i u) r t t₁
        → Went n (followed_by o (λ e f. took e (headed i e f))) (λ u. then_table (as_step o) (fill d g s i u) (λ e m. rehead i e m (fill d g s i u))) q t t₂
    go i n p (took e f) y =
        let z = took_is going p in
        let l : t₂ ≡ onward at.nodes (λ u. rehead at.place e (size f) u) t₁ = w.wrote e (size f) (y.read ∙ ap (λ (j : ℕ). Took e (size f + j)) z.1) in
        record {
          read = ap step w.read ∙ y.read ∙ ap (λ (j : ℕ). Took e (j + n)) (sym (size_headed i e f));
          wrote =
              l
              ∙ ap (λ (j : ℕ). onward at.nodes (λ u. rehead j e (size f) u) t₁) (sym z.0)
              ∙ ap (λ (j : ℕ). onward j (λ u. rehead i e (size f) u) t₁) (sym z.1)
              ∙ ap (onward n (λ u. rehead i e (size f) u)) y.wrote
              ∙ sym (onward_compose n (λ u. rehead i e (size f) u) (λ u. fill d g s i u) t (λ u. fill_length d g s i u));
        }
    go i n p (more u) y = stop i n (more u) y (subst Stops (sym y.read) tt)
    go i n p refused y = stop i n refused y (subst Stops (sym y.read) tt)
    go i n p deep y = stop i n deep y (subst Stops (sym y.read) tt)

-- dropped --------------------------------------------------------------------------------------------------------------------

-- only where it ended counts: it was read from the same place with any table, and no node is kept
module _ {g : G} {s : List ℕ} {c : IResult} {at : Cursor} (going : c ≡ Ok at) (stands : Stands 0 s c) where
  pub dropped_stop : {b : Cursor} {r : IResult} {f : Failure} {u u' : List ℕ} → Begun at b → Goes 0 g s (Ok b) r u u' → r ≡ Err f → Skims (does dropped g) s c (Err f)
  unfolding run act fill_with act_table
  dropped_stop {r = r} {f = f} e x fails =
      skim (λ t. from going stands (go at.nodes t (find 0 g s at.place) (ap step (sym fails) ∙ (x.went at.place 0 (ap (λ (b : Cursor). step (Ok b)) e.is)).read))
      (subst (λ (k : IResult). Stands 0 s k) fails x.stands))
    where
      go : (n : ℕ) (t : List ℕ) (o : Out) → step (Err f) ≡ behind 0 o → Went n (followed_by o (λ e f. took e none)) (λ u. u) (Err f) t t
      go n t (took e h) p = absurd (subst Stops p (failed_stops f))
      go n t (more w) p = record { read = p; wrote = onward_same n t }
      go n t refused p = record { read = p; wrote = onward_same n t }
      go n t deep p = record { read = p; wrote = onward_same n t }

  pub dropped_done : {b end q : Cursor} {r : IResult} {u u' : List ℕ} → T (paid (does dropped g)) → Begun at b → Goes 0 g s (Ok b) r u u' → r ≡ Ok end
      → Moved at end.place q → Skims (does dropped g) s c (Ok q)
  unfolding run act fill_with act_table size
  dropped_done {b} {end} {q} {r} m e x on moved =
      let w = x.went at.place 0 (ap (λ (b : Cursor). step (Ok b)) e.is) in
      let y : step (Ok q) ≡ behind at.nodes (find 0 (does dropped g) s at.place) = ap (λ (b : Cursor). step (Ok b)) moved.is ∙ go (find 0 g s at.place) (ap step (sym on) ∙ w.read) in
      skim (λ t. from going stands (record { read = y; wrote = onward_same at.nodes t }) (paid_stands 0 (does dropped g) c (Ok q) m stands (step_took going) y))
    where
      go : (o : Out) → step (Ok end) ≡ behind 0 o → Took end.place at.nodes ≡ behind at.nodes (followed_by o (λ e f. took e none))
      go (took i f) p = ap (λ (j : ℕ). Took j at.nodes) (ap place_of p) ∙ ap (Took i) (omega arith)
      go (more w) p = absurd (subst Stops (sym p) tt)
      go refused p = absurd (subst Stops (sym p) tt)
      go deep p = absurd (subst Stops (sym p) tt)

-- a node over bytes that make none, from what they are -----------------------------------------------------------------------

module _ {d : ℕ} {g : G} (kind : ℕ) {s : List ℕ} {at : ℕ} where
  pub node_lays : {e : ℕ} → Still d g s at (took e none) → Lays d (does (node kind) g) s at e kind at e
  unfolding run act fill_with act_table size
  node_lays {e} x = record {
    read = rw x.read;
    wrote = λ t. rw x.read (ap (over kind at e 1) (onward_still 1 (λ w. fill d g s at w) x.wrote t));
  }

  pub node_still : (o : Out) → Stops (as_step o) → Still d g s at o → Still d (does (node kind) g) s at o
  unfolding run act fill_with act_table
  node_still (took e f) h x = absurd h
  node_still (more w) h x = record { read = rw x.read; wrote = λ t. rw x.read (onward_still 1 (λ w. fill d g s at w) x.wrote t) }
  node_still refused h x = record { read = rw x.read; wrote = λ t. rw x.read (onward_still 1 (λ w. fill d g s at w) x.wrote t) }
  node_still deep h x = record { read = rw x.read; wrote = λ t. rw x.read (onward_still 1 (λ w. fill d g s at w) x.wrote t) }
