-- The laws of `Goes`: stopping, sequences, alternatives, leaves.
use Rattle.std.proofs.Common.{ℕ, ◌+◌, ◌*◌, ◌≤◌, ◌<◌, Ok, Err}
use mathlib.Core.Path.{◌≡◌, refl, sym, ap, subst, ◌∙◌}
use mathlib.Core.List.{List, []}
use native.Mathlib.Omega.{arith}
use lib.ListN.{length}
use Rattle.grammar.specs.Forest.{Forest, none, node_of, size, beside}
use Rattle.grammar.specs.Out.{Out, took, more, refused, deep, followed_by, or_else, with_before}
use Rattle.grammar.specs.Scan.{Leaf, leaf_at, literal_at}
use Rattle.grammar.specs.Grammar.{G, leaf, literal, nothing, seq, alt, run}
use Rattle.grammar.specs.Reading.{length_limit}
use Rattle.grammar.proofs.Forests.{size_beside, beside_assoc}
use Rattle.table.specs.declared.Cursor.{Cursor}
use Rattle.table.specs.declared.Failure.{Failure}
use Rattle.table.specs.declared.Failure.TheVariants as failure
use Rattle.table.specs.Cursor.{IResult, Step, Took, More, Refused, Deep, step, behind, Stops, find}
use Rattle.table.specs.Table.{as_step, over, onward, then_table, else_table, lay}
use Rattle.table.specs.Fill.{fill, fill_with}
use Rattle.table.specs.Promise.{Moved, Stands, Went, Goes, Skims, Leafed}
use Rattle.table.proofs.Cursors.{failed_stops, took_is, refused_is, step_took}
use Rattle.table.proofs.Length.{fill_length}
use Rattle.table.proofs.Onward.{onward_onward, onward_compose, onward_same, onward_as}

-- nothing to do ----------------------------------------------------------------------------------------------------------------

no_took : {A : Type 0} (f : Failure) {at n : ℕ} → step (Err f) ≡ Took at n → A
no_took f p = absurd (subst Stops p (failed_stops f))

-- from a failure
pub failed : {d : ℕ} {g : G} {s : List ℕ} {c : IResult} {f : Failure} {t : List ℕ} → c ≡ Err f → Stands 0 s c → Goes d g s c (Err f) t t
failed {s = s} {f = f} e stands = record {
  stopped = λ x. (sym e, refl);
  went = λ at n p. no_took f (ap step (sym e) ∙ p);
  stands = subst (λ (k : IResult). Stands 0 s k) e stands;
}

-- with any table
pub skim : {g : G} {s : List ℕ} {c q : IResult} → ((t : List ℕ) → Goes 0 g s c q t t) → Skims g s c q
skim x = record { on = x; stands = (x []).stands }

pub failed_skims : {g : G} {s : List ℕ} {c : IResult} {f : Failure} → c ≡ Err f → Stands 0 s c → Skims g s c (Err f)
failed_skims e stands = skim (λ t. failed e stands)

-- a failure stands anywhere
pub stands_stopped : (s : List ℕ) (q : IResult) → length s ≤ length_limit → Stops (step q) → Stands 0 s q
stands_stopped s q small h = go (step q) h refl
  where
    go : (x : Step) → Stops x → step q ≡ x → Stands 0 s q
    go (Took at n) h p = absurd h
    go (More w) h p = record { inside = rw p (omega arith); small = small; few = rw p (omega arith) }
    go Refused h p = record { inside = rw p (omega arith); small = small; few = rw p (omega arith) }
    go Deep h p = record { inside = rw p (omega arith); small = small; few = rw p (omega arith) }

pub stands_took : {s : List ℕ} (q : IResult) {e n : ℕ} → step q ≡ Took e n → e ≤ length s → length s ≤ length_limit → n ≤ 4 * e + 500000000 → Stands 0 s q
stands_took q p inside small few = record { inside = rw p inside; small = small; few = rw p (omega arith) }

-- one after the other ---------------------------------------------------------------------------------------------------------

behind_before : (n : ℕ) (f : Forest) (o : Out) → behind (size f + n) o ≡ behind n (with_before f o)
behind_before n f (took e f') = ap (Took e) (omega (arith, size_beside f f'))
behind_before n f (more w) = refl
behind_before n f refused = refl
behind_before n f deep = refl

-- what keeps a table's length
abbrev pub Keeping : (List ℕ → List ℕ) → Type 0
Keeping write = (u : List ℕ) → length (write u) ≡ length u

-- o was found behind the nodes f
pub join : {n e : ℕ} {f : Forest} {o : Out} {v w : List ℕ → List ℕ} {q r : IResult} {t t₁ t₂ : List ℕ} → Keeping v
    → Went n (took e f) v q t t₁ → Went (size f + n) o w r t₁ t₂ → Went n (with_before f o) (λ u. onward (size f) w (v u)) r t t₂
join {n} {e} {f} {o} {v} {w} {t = t} keeps x y = record {
  read = y.read ∙ behind_before n f o;
  wrote =
      y.wrote
      ∙ ap (onward (size f + n) w) x.wrote
      ∙ sym (onward_compose n (λ u. onward (size f) w u) v t keeps ∙ onward_onward n (size f) w (onward n v t));
}

-- the same with another name of the cursor or the table
pub went_as : {n : ℕ} {o : Out} {w : List ℕ → List ℕ} {q r : IResult} {t t₁ t₂ : List ℕ} → (r ≡ q) × (t₂ ≡ t₁) → Went n o w q t t₁ → Went n o w r t t₂
went_as e x = record { read = ap step e.0 ∙ x.read; wrote = e.1 ∙ x.wrote }

and_went : {d : ℕ} {h : G} {s : List ℕ} {n : ℕ} {q r : IResult} {t t₁ t₂ : List ℕ} (o : Out) (v : List ℕ → List ℕ) → Keeping v → Went n o v q t t₁ → Goes d h s q r t₁ t₂
    → Went n (followed_by o (λ e f. with_before f (find d h s e))) (λ u. then_table (as_step o) (v u) (λ e m. onward m (λ w. fill d h s e w) (v u))) r t t₂
and_went {n = n} (took e f) v keeps x y = join keeps x (y.went e (size f + n) x.read)
and_went (more w) v keeps x y = went_as (y.stopped (subst Stops (sym x.read) tt)) x
and_went refused v keeps x y = went_as (y.stopped (subst Stops (sym x.read) tt)) x
and_went deep v keeps x y = went_as (y.stopped (subst Stops (sym x.read) tt)) x

-- THE LAW of a sequence: g, and h from where it ended
pub and : {d : ℕ} {g h : G} {s : List ℕ} {c q r : IResult} {t t₁ t₂ : List ℕ} → Goes d g s c q t t₁ → Goes d h s q r t₁ t₂ → Goes d (seq g h) s c r t t₂
unfolding run fill_with
and {d} {g} {h} {s} {c} {q} {r} {t} {t₁} {t₂} x y = record {
  stopped = λ w.
      let a = x.stopped w in
      let b = y.stopped (subst (λ (k : IResult). Stops (step k)) (sym a.0) w) in
      (b.0 ∙ a.0, b.1 ∙ a.1);
  went = λ at n p. and_went (find d g s at) (λ u. fill d g s at u) (λ u. fill_length d g s at u) (x.went at n p) y;
  stands = y.stands;
}

-- h makes no node
pub and_skims : {g h : G} {s : List ℕ} {c q r : IResult} {t t₁ : List ℕ} → Goes 0 g s c q t t₁ → Skims h s q r → Goes 0 (seq g h) s c r t t₁
and_skims {t₁ = t₁} x y = and x (y.on t₁)

pub skims_skims : {g h : G} {s : List ℕ} {c q r : IResult} → Skims g s c q → Skims h s q r → Skims (seq g h) s c r
skims_skims x y = skim (λ t. and (x.on t) (y.on t))

-- the two as a straight line of code has them: x ▸ y ▹ z ▸ ..
infixl 20 ◌▸◌
pub ◌▸◌ : {d : ℕ} {g h : G} {s : List ℕ} {c q r : IResult} {t t₁ t₂ : List ℕ} → Goes d g s c q t t₁ → Goes d h s q r t₁ t₂ → Goes d (seq g h) s c r t t₂
x ▸ y = and x y

infixl 20 ◌▹◌
pub ◌▹◌ : {g h : G} {s : List ℕ} {c q r : IResult} {t t₁ : List ℕ} → Goes 0 g s c q t t₁ → Skims h s q r → Goes 0 (seq g h) s c r t t₁
x ▹ y = and_skims x y

-- h and k were read as one: a sequence may be grouped either way
abbrev then_find : Out → (ℕ → Out) → Out
then_find o k = followed_by o (λ e f. with_before f (k e))

grouped_find : (o : Out) (h k : ℕ → Out) → then_find o (λ e. then_find (h e) k) ≡ then_find (then_find o h) k
grouped_find (took e f) h k = go (h e)
  where
    last : (f' : Forest) (x : Out) → with_before f (with_before f' x) ≡ with_before (beside f f') x
    last f' (took e'' f'') = ap (took e'') (sym (beside_assoc f f' f''))
    last f' (more w) = refl
    last f' refused = refl
    last f' deep = refl

    go : (x : Out) → with_before f (then_find x k) ≡ then_find (with_before f x) k
    go (took e' f') = last f' (k e')
    go (more w) = refl
    go refused = refl
    go deep = refl
grouped_find (more w) h k = refl
grouped_find refused h k = refl
grouped_find deep h k = refl

abbrev then_fill : Out → List ℕ → (ℕ → List ℕ → List ℕ) → List ℕ
then_fill o t k = then_table (as_step o) t (λ e n. onward n (λ u. k e u) t)

grouped_fill : (o : Out) (h : ℕ → Out) (t : List ℕ) (H K : ℕ → List ℕ → List ℕ) → ((e : ℕ) → Keeping (H e))
    → then_fill o t (λ e u. then_fill (h e) (H e u) K) ≡ then_fill (then_find o h) (then_fill o t H) K
grouped_fill (took e f) h t H K keeps = go (h e)
  where
    go : (x : Out)
        → onward (size f) (λ u. then_fill x (H e u) K) t
        ≡ then_fill (with_before f x) (onward (size f) (λ u. H e u) t) K
    go (took e' f') =
        onward_compose (size f) (λ u. onward (size f') (λ w. K e' w) u) (λ u. H e u) t (keeps e)
        ∙ onward_onward (size f) (size f') (λ w. K e' w) (onward (size f) (λ u. H e u) t)
        ∙ ap (λ (j : ℕ). onward j (λ w. K e' w) (onward (size f) (λ u. H e u) t)) (omega (arith, size_beside f f'))
    go (more w) = refl
    go refused = refl
    go deep = refl
grouped_fill (more w) h t H K keeps = refl
grouped_fill refused h t H K keeps = refl
grouped_fill deep h t H K keeps = refl

pub grouped : {d : ℕ} {g h k : G} {s : List ℕ} {c q : IResult} {t t' : List ℕ} → Goes d (seq g (seq h k)) s c q t t' → Goes d (seq (seq g h) k) s c q t t'
unfolding run fill_with
grouped {d} {g} {h} {k} {s} {c} {q} {t} {t'} x = record {
  stopped = x.stopped;
  went = λ at n p.
      let w = x.went at n p in
      record {
        read = w.read ∙ ap (behind n) (grouped_find (find d g s at) (λ e. find d h s e) (λ e. find d k s e));
        wrote = w.wrote ∙ onward_as n _ _ t (λ u. grouped_fill (find d g s at) (λ e. find d h s e) (fill d g s at u) (λ e v. fill d h s e v) (λ e v. fill d k s e v) (λ e v. fill_length d h s e v));
      };
  stands = x.stands;
}

infixl 20 ◌▸▸◌
pub ◌▸▸◌ : {d : ℕ} {g h k : G} {s : List ℕ} {c q r : IResult} {t t₁ t₂ : List ℕ} → Goes d g s c q t t₁ → Goes d (seq h k) s q r t₁ t₂ → Goes d (seq (seq g h) k) s c r t t₂
x ▸▸ y = grouped (and x y)

-- the first ended the reading
pub early : {d : ℕ} {g h : G} {s : List ℕ} {c q : IResult} {f : Failure} {t t₁ : List ℕ} → Goes d g s c q t t₁ → q ≡ Err f → Goes d (seq g h) s c (Err f) t t₁
early x fails = and x (failed fails x.stands)

pub early_skims : {g h : G} {s : List ℕ} {c q : IResult} {f : Failure} {t : List ℕ} → Skims g s c q → q ≡ Err f → Goes 0 (seq g h) s c (Err f) t t
early_skims {t = t} x fails = early (x.on t) fails

-- either ----------------------------------------------------------------------------------------------------------------------

-- what a refusal found
pub gone : {n : ℕ} {q : IResult} {w : List ℕ → List ℕ} {t t' : List ℕ} (o : Out) → Went n o w q t t' → step q ≡ Refused → o ≡ refused
gone {n = n} (took e f) w h = let z : Took e (size f + n) ≡ Refused = sym w.read ∙ h in cc
gone (more u) w h = let z : More u ≡ Refused = sym w.read ∙ h in cc
gone refused w h = refl
gone deep w h = let z : Deep ≡ Refused = sym w.read ∙ h in cc

-- the first, where it did not fail
else_went : {n : ℕ} {q : IResult} {v : List ℕ → List ℕ} (w : List ℕ → List ℕ) {t t₁ : List ℕ} (o other : Out) → Went n o v q t t₁ → (step q ≡ Refused → ⊥)
    → Went n (or_else o (λ u. other)) (λ u. else_table (as_step o) (v u) (λ x. w (v u))) q t t₁
else_went w (took e f) other x h = x
else_went w (more k) other x h = x
else_went w refused other x h = absurd (h x.read)
else_went w deep other x h = x

pub or_first : {d : ℕ} {g h : G} {s : List ℕ} {c q : IResult} {t t₁ : List ℕ} → Goes d g s c q t t₁ → (q ≡ Err failure.Refused → ⊥) → Goes d (alt g h) s c q t t₁
unfolding run fill_with
or_first {d} {g} {h} {s} {c} {q} x other = record {
  stopped = x.stopped;
  went = λ at n p. else_went (λ u. fill d h s at u) (find d g s at) (find d h s at) (x.went at n p) (λ e. other (refused_is q e));
  stands = x.stands;
}

-- the second, once the first refused: it writes over what that wrote
else_went_on : {n : ℕ} {q r : IResult} (v w : List ℕ → List ℕ) {t t₁ t₂ : List ℕ} (o other : Out) → Keeping v → o ≡ refused → Went n o v q t t₁ → Went n other w r t₁ t₂
    → Went n (or_else o (λ u. other)) (λ u. else_table (as_step o) (v u) (λ x. w (v u))) r t t₂
else_went_on {n} v w {t = t} o other keeps p x y = record {
  read = rw p y.read;
  wrote = rw p (y.wrote ∙ ap (onward n w) x.wrote ∙ sym (onward_compose n w v t keeps));
}

pub or_next : {d : ℕ} {g h : G} {s : List ℕ} {c q r : IResult} {t t₁ t₂ : List ℕ} → Goes d g s c q t t₁ → q ≡ Err failure.Refused → Goes d h s c r t₁ t₂ → Goes d (alt g h) s c r t t₂
unfolding run fill_with
or_next {d} {g} {h} {s} x p y = record {
  stopped = λ w. ((y.stopped w).0, (y.stopped w).1 ∙ (x.stopped w).1);
  went = λ at n e. let w = x.went at n e in
      else_went_on (λ u. fill d g s at u) (λ u. fill d h s at u) (find d g s at) (find d h s at) (λ u. fill_length d g s at u)
      (gone (find d g s at) w (ap step p)) w (y.went at n e);
  stands = y.stands;
}

-- what a place alone decides --------------------------------------------------------------------------------------------------

-- g finds o there and writes nothing: a failure before any node, or bytes that make none
pub record Still (depth : ℕ) (g : G) (s : List ℕ) (at : ℕ) (o : Out) : Type 0 where
  pub read : find depth g s at ≡ o
  pub wrote : (t : List ℕ) → fill depth g s at t ≡ t

-- g finds one node there, up to `next`
pub record Lays (depth : ℕ) (g : G) (s : List ℕ) (at next kind a b : ℕ) : Type 0 where
  pub read : find depth g s at ≡ took next (node_of kind a b)
  pub wrote : (t : List ℕ) → fill depth g s at t ≡ over kind a b 1 t

-- the second, where the first refuses by a byte that the code has seen
else_refused : {n : ℕ} {q : IResult} (v w : List ℕ → List ℕ) {t t₁ : List ℕ} (o other : Out) → o ≡ refused → ((u : List ℕ) → v u ≡ u) → Went n other w q t t₁
    → Went n (or_else o (λ u. other)) (λ u. else_table (as_step o) (v u) (λ x. w (v u))) q t t₁
else_refused {n} v w {t} o other p still x = record {
  read = rw p x.read;
  wrote = rw p (x.wrote ∙ onward_as n w (λ u. w (v u)) t (λ u. ap w (sym (still u))));
}

pub or_second : {d : ℕ} {g h : G} {s : List ℕ} {c q : IResult} {k : Cursor} {t t₁ : List ℕ} → c ≡ Ok k → Still d g s k.place refused
    → Goes d h s c q t t₁ → Goes d (alt g h) s c q t t₁
unfolding run fill_with
or_second {d} {g} {h} {s} {c} {q} {k} {t} {t₁} going gone x = record {
  stopped = x.stopped;
  went = λ at' n p.
      let e : k.place ≡ at' = sym (took_is going p).0 in
      else_refused (λ u. fill d g s at' u) (λ u. fill d h s at' u) (find d g s at') (find d h s at')
      (subst (λ (k : ℕ). find d g s k ≡ refused) e gone.read)
      (λ u. subst (λ (k : ℕ). fill d g s k u ≡ u) e (gone.wrote u)) (x.went at' n p);
  stands = x.stands;
}

-- the first, where the second would refuse too
else_alone : {n : ℕ} {q : IResult} (v w : List ℕ → List ℕ) {t t₁ : List ℕ} (o other : Out) → other ≡ refused → ((u : List ℕ) → w u ≡ u) → Went n o v q t t₁
    → Went n (or_else o (λ u. other)) (λ u. else_table (as_step o) (v u) (λ x. w (v u))) q t t₁
else_alone v w (took e f) other p still x = x
else_alone v w (more k) other p still x = x
else_alone {n} v w {t} refused other p still x = record {
  read = rw p x.read;
  wrote = x.wrote ∙ onward_as n v (λ u. w (v u)) t (λ u. sym (still (v u)));
}
else_alone v w deep other p still x = x

pub or_alone : {d : ℕ} {g h : G} {s : List ℕ} {c q : IResult} {k : Cursor} {t t₁ : List ℕ} → c ≡ Ok k → Still d h s k.place refused
    → Goes d g s c q t t₁ → Goes d (alt g h) s c q t t₁
unfolding run fill_with
or_alone {d} {g} {h} {s} {c} {q} {k} {t} {t₁} going gone x = record {
  stopped = x.stopped;
  went = λ at' n p.
      let e : k.place ≡ at' = sym (took_is going p).0 in
      else_alone (λ u. fill d g s at' u) (λ u. fill d h s at' u) (find d g s at') (find d h s at')
      (subst (λ (k : ℕ). find d h s k ≡ refused) e gone.read)
      (λ u. subst (λ (k : ℕ). fill d h s k u ≡ u) e (gone.wrote u)) (x.went at' n p);
  stands = x.stands;
}

-- leaves: from what the definition finds at the cursor's place ----------------------------------------------------------------

few_nodes : {s : List ℕ} {c : IResult} {k : Cursor} → c ≡ Ok k → Stands 0 s c → k.nodes ≤ 4 * k.place + 500000000
few_nodes {s} going stands = let x = subst (λ (j : IResult). Stands 0 s j) going stands in omega (arith, x.few)

module _ {d : ℕ} {g : G} {s : List ℕ} {c : IResult} {k : Cursor} (going : c ≡ Ok k) (stands : Stands 0 s c) where
  -- of a reader that got past its guard
  pub from : {q : IResult} {t t' : List ℕ} → Went k.nodes (find d g s k.place) (λ u. fill d g s k.place u) q t t' → Stands 0 s q → Goes d g s c q t t'
  from {q} {t} {t'} w stands' = record {
    stopped = λ h. absurd (subst Stops (step_took going) h);
    went = λ at n p.
        let e = took_is going p in
        subst (λ (j : ℕ). Went j (find d g s at) (λ u. fill d g s at u) q t t') (sym e.1)
        (subst (λ (j : ℕ). Went k.nodes (find d g s j) (λ u. fill d g s j u) q t t') (sym e.0) w);
    stands = stands';
  }

  -- the table is as it was
  stays : {q : IResult} {t : List ℕ} (o : Out) → Still d g s k.place o → step q ≡ behind k.nodes o → Stands 0 s q → Goes d g s c q t t
  stays {q} {t} o p r stands' = from (record {
    read = r ∙ ap (behind k.nodes) (sym p.read);
    wrote = onward_same k.nodes t ∙ onward_as k.nodes (λ u. u) (λ u. fill d g s k.place u) t (λ u. sym (p.wrote u));
  }) stands'

  -- unfinished, or not the grammar
  pub fails_with : {f : Failure} {t : List ℕ} (o : Out) → Still d g s k.place o → step (Err f) ≡ behind k.nodes o → Goes d g s c (Err f) t t
  fails_with {f} o p r = stays o p r (stands_stopped s (Err f) stands.small (failed_stops f))

  pub short_of : {t : List ℕ} → Still d g s k.place (more 0) → Goes d g s c (Err (failure.Unfinished 0)) t t
  short_of p = fails_with (more 0) p refl

  pub refuses : {t : List ℕ} → Still d g s k.place refused → Goes d g s c (Err failure.Refused) t t
  refuses p = fails_with refused p refl

  pub deepens : {t : List ℕ} → Still d g s k.place deep → Goes d g s c (Err failure.TooDeep) t t
  deepens p = fails_with deep p refl

  pub wants : (w : ℕ) {t : List ℕ} → Still d g s k.place (more w) → Goes d g s c (Err (failure.Unfinished w)) t t
  wants w p = fails_with (more w) p refl

  -- bytes without a node
  pub moves : {e : ℕ} {q : Cursor} {t : List ℕ} → Still d g s k.place (took e none) → k.place ≤ e → e ≤ length s → Moved k e q → Goes d g s c (Ok q) t t
  unfolding size
  moves {e} {q} p up l m =
      let r = ap (λ (j : Cursor). step (Ok j)) m.is in
      stays {q = Ok q} (took e none) p (r ∙ ap (Took e) (omega arith)) (stands_took (Ok q) r l stands.small (omega (arith, few_nodes going stands)))

  -- a node
  pub leaves_by : {kind a b next : ℕ} {q : Cursor} {t t' : List ℕ} → Lays d g s k.place next kind a b → Leafed kind a b next k q t t' → Stands 0 s (Ok q) → Goes d g s c (Ok q) t t'
  unfolding size
  leaves_by {kind} {a} {b} {next} {q} {t} {t'} p w stands' =
      from (record {
        read = ap (λ (j : Cursor). step (Ok j)) w.read ∙ ap (Took next) (omega arith) ∙ ap (behind k.nodes) (sym p.read);
        wrote = w.put.is ∙ onward_as k.nodes (λ u. over kind a b 1 u) (λ u. fill d g s k.place u) t (λ u. sym (p.wrote u));
      }) stands'

  pub leaves : {kind a b next : ℕ} {q : Cursor} {t t' : List ℕ} → Lays d g s k.place next kind a b → k.place < next → next ≤ length s
      → Leafed kind a b next k q t t' → Goes d g s c (Ok q) t t'
  leaves {q = q} p up l w =
      leaves_by p w (stands_took (Ok q) (ap (λ (j : Cursor). step (Ok j)) w.read) l stands.small (omega (arith, few_nodes going stands)))

-- one that a spare pays for, as it may stand for no byte
pub leaves_spare : {d : ℕ} {g : G} {s : List ℕ} {c : IResult} {k q : Cursor} {kind a b next : ℕ} {t t' : List ℕ} → c ≡ Ok k → Stands 1 s c
    → Lays d g s k.place next kind a b → k.place ≤ next → next ≤ length s → Leafed kind a b next k q t t' → Goes d g s c (Ok q) t t'
leaves_spare {s = s} {k = k} {q = q} going stands p up l w =
    let x = subst (λ (j : IResult). Stands 1 s j) going stands in
    leaves_by going (record { inside = stands.inside; small = stands.small; few = omega (arith, stands.few) }) p w
    (stands_took (Ok q) (ap (λ (j : Cursor). step (Ok j)) w.read) l stands.small (omega (arith, x.few)))

-- the same for a reader that is lent no table
module _ {g : G} {s : List ℕ} {c : IResult} {k : Cursor} (going : c ≡ Ok k) (stands : Stands 0 s c) where
  pub skims_short : Still 0 g s k.place (more 0) → Skims g s c (Err (failure.Unfinished 0))
  skims_short p = skim (λ t. short_of going stands p)

  pub skims_refuses : Still 0 g s k.place refused → Skims g s c (Err failure.Refused)
  skims_refuses p = skim (λ t. refuses going stands p)

  pub skims_moves : {e : ℕ} {q : Cursor} → Still 0 g s k.place (took e none) → k.place ≤ e → e ≤ length s → Moved k e q → Skims g s c (Ok q)
  skims_moves p up l m = skim (λ t. moves going stands p up l m)

pub skims_first : {g : G} (h : G) {s : List ℕ} {c q : IResult} → Skims g s c q → (q ≡ Err failure.Refused → ⊥) → Skims (alt g h) s c q
skims_first h x other = skim (λ t. or_first (x.on t) other)

-- nothing at all
pub goes_nothing : {d : ℕ} {s : List ℕ} {c : IResult} {t : List ℕ} → Stands 0 s c → Goes d nothing s c c t t
unfolding run fill_with size
goes_nothing {t = t} stands = record {
  stopped = λ h. (refl, refl);
  went = λ at n e. record { read = e ∙ ap (Took at) (omega arith); wrote = onward_same n t };
  stands = stands;
}

-- nothing, where g refused
pub skims_none : {g : G} {s : List ℕ} {c q : IResult} → Skims g s c q → q ≡ Err failure.Refused → Stands 0 s c → Skims (alt g nothing) s c c
skims_none x p stands = skim (λ t. or_next (x.on t) p (goes_nothing stands))

-- what a leaf finds decides what it writes ------------------------------------------------------------------------------------

-- one node, or none
abbrev pub Unwritten : Out → Type 0
Unwritten o = (t : List ℕ) → lay o t ≡ t

pub leaf_still : {d : ℕ} {l : Leaf} {s : List ℕ} {at : ℕ} (o : Out) → Unwritten o → leaf_at l s at ≡ o → Still d (leaf l) s at o
unfolding run fill_with
leaf_still o still p = record { read = p; wrote = λ t. ap (λ (x : Out). lay x t) p ∙ still t }

pub leaf_lays : {d : ℕ} {l : Leaf} {s : List ℕ} {at next kind a b : ℕ} → leaf_at l s at ≡ took next (node_of kind a b) → Lays d (leaf l) s at next kind a b
unfolding run fill_with
leaf_lays p = record { read = p; wrote = λ t. ap (λ (x : Out). lay x t) p }

pub literal_still : {d : ℕ} {s : List ℕ} {at : ℕ} (o : Out) → Unwritten o → literal_at s at ≡ o → Still d literal s at o
unfolding run fill_with
literal_still o still p = record { read = p; wrote = λ t. ap (λ (x : Out). lay x t) p ∙ still t }

pub literal_lays : {d : ℕ} {s : List ℕ} {at next kind a b : ℕ} → literal_at s at ≡ took next (node_of kind a b) → Lays d literal s at next kind a b
unfolding run fill_with
literal_lays p = record { read = p; wrote = λ t. ap (λ (x : Out). lay x t) p }
