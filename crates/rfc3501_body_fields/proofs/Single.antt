-- A list of one.
use Rattle.std.proofs.Common.{Ok, Err, ℕ, ◌+◌, ◌-◌}
use mathlib.Core.Path.{◌≡◌, refl, sym, ap, subst, ◌∙◌}
use mathlib.Core.List.{List}
use native.Mathlib.Omega.{arith}
use lib.ListN.{length, take, drop}
use lib.Dec.{T}
use borrow.Rule.Slice.PartMut.{put_mid}
use Rattle.grammar.specs.Kinds.{kind_list}
use Rattle.grammar.specs.Forest.{none, tree, size, count}
use Rattle.grammar.specs.Out.{Out, took, more, refused, deep, followed_by}
use Rattle.grammar.specs.Grammar.{G, does, listed, act, run}
use Rattle.table.specs.declared.Cursor.{Cursor}
use Rattle.table.specs.declared.Failure.{Failure}
use Rattle.table.specs.declared.Failure.TheVariants as failure
use Rattle.table.specs.Cursor.{IResult, Took, step, behind, place_of, nodes_of, Stops, find}
use Rattle.table.specs.Table.{onward, list_table}
use Rattle.table.specs.Fill.{fill, fill_with, act_table}
use Rattle.table.specs.Promise.{Begun, Stands, Went, Goes, Put, Lends, Listed}
use Rattle.table.proofs.Cursors.{step_took, step_failed}
use Rattle.table.proofs.Length.{fill_length}
use Rattle.table.proofs.Onward.{onward_zero, lent_out}
use Rattle.table.proofs.Going.{from}
use Rattle.table.proofs.Bounds.{paid, paid_stands, room}
use Rattle.table.proofs.Structure.{Apart, apart_first, apart_next, apart_parent, apart_no_parent}
use Rattle.table.proofs.Trees.{lone, one_tree}
use Rattle.table.proofs.Search.{list}

-- a list of what was found, behind n nodes
abbrev One : G → List ℕ → ℕ → ℕ → Out → IResult → List ℕ → List ℕ → Type 0
One g s at n o q t t' =
    Went n (followed_by o (λ e f. took e (tree kind_list (count f) 0 f none))) (λ u. list_table o (onward 1 (λ w. fill 0 g s at w) u)) q t t'

module _ {g : G} {s : List ℕ} {c : IResult} {at : Cursor} (going : c ≡ Ok at) (stands : Stands 0 s c) where
  -- by what the item finds
  single_goes : (k : ℕ) (b : Cursor) (r q : IResult) (t v t' : List ℕ) → T (paid (does listed g)) → Lends (length t) at k → Begun at b
      → Goes 0 g s (Ok b) r (take (length t - k) (drop k t)) v
      → ((o : Out) → find 0 g s at.place ≡ o → step r ≡ behind 0 o → Apart at.nodes k t v (put_mid k (length t - k) t v) → v ≡ fill 0 g s at.place (drop k t)
      → One g s at.place at.nodes o q t t')
      → Goes 0 (does listed g) s c q t t'
  unfolding run act fill_with act_table
  single_goes k b r q t v t' pays lends e x went =
      let w = x.went at.place 0 (ap (λ (b : Cursor). step (Ok b)) e.is) in
      let p : v ≡ fill 0 g s at.place (drop k t) = w.wrote ∙ onward_zero (λ u. fill 0 g s at.place u) _ ∙ ap (fill 0 g s at.place) (lent_out t k) in
      let y : Went at.nodes (find 0 (does listed g) s at.place) (λ u. fill 0 (does listed g) s at.place u) q t t' =
      went (find 0 g s at.place) refl w.read (apart_next (apart_first lends) (ap length p ∙ fill_length 0 g s at.place (drop k t))) p in
      from going stands y (paid_stands 0 (does listed g) c q pays stands (step_took going) y.read)

  module _ {k : ℕ} {b : Cursor} {r : IResult} {t v : List ℕ} (pays : T (paid (does listed g))) (lends : Lends (length t) at k) (begun : Begun at b)
      (x : Goes 0 g s (Ok b) r (take (length t - k) (drop k t)) v) where
    -- nothing was taken
    pub single_stops : {q : IResult} {f : Failure} → r ≡ Err f → q ≡ Err f → Goes 0 (does listed g) s c q t (put_mid k (length t - k) t v)
    single_stops {q} {f} fails back = single_goes k b r q t v (put_mid k (length t - k) t v) pays lends begun x go
      where
        same : Apart at.nodes k t v (put_mid k (length t - k) t v) → v ≡ fill 0 g s at.place (drop k t)
            → put_mid k (length t - k) t v ≡ onward at.nodes (λ u. onward 1 (λ w. fill 0 g s at.place w) u) t
        same a p = apart_no_parent (λ u. fill 0 g s at.place u) (λ u. fill_length 0 g s at.place u) a p

        same_end : step q ≡ step r
        same_end = ap step (back ∙ sym fails)

        go : (o : Out) → find 0 g s at.place ≡ o → step r ≡ behind 0 o → Apart at.nodes k t v (put_mid k (length t - k) t v) → v ≡ fill 0 g s at.place (drop k t)
            → One g s at.place at.nodes o q t (put_mid k (length t - k) t v)
        go (took e f) o p a w = absurd (subst Stops p (step_failed fails))
        go (more u) o p a w = record { read = same_end ∙ p; wrote = same a w }
        go refused o p a w = record { read = same_end ∙ p; wrote = same a w }
        go deep o p a w = record { read = same_end ∙ p; wrote = same a w }

    -- one tree, and the list's words before it
    pub single_done : {inner : Cursor} {q : IResult} {t' : List ℕ} → T (lone g) → r ≡ Ok inner
        → Listed 1 at inner (Err failure.Refused) q (put_mid k (length t - k) t v) t' → Goes 0 (does listed g) s c q t t'
    unfolding size
    single_done {inner} {q} {t'} alone on done = single_goes k b r q t v t' pays lends begun x go
      where
        go : (o : Out) → find 0 g s at.place ≡ o → step r ≡ behind 0 o → Apart at.nodes k t v (put_mid k (length t - k) t v) → v ≡ fill 0 g s at.place (drop k t)
            → One g s at.place at.nodes o q t t'
        go (took e f) o p a w =
            let i : step (Ok inner) ≡ Took e (size f) = ap step (sym on) ∙ p ∙ ap (Took e) (omega arith) in
            let end : inner.place ≡ e = ap place_of i in
            let few : inner.nodes ≡ size f = ap nodes_of i in
            let one = one_tree 0 g s at.place e f alone (room going stands).inside o in
            record {
              read = done.read refl ∙ ap (λ (j : ℕ). Took j (1 + inner.nodes + at.nodes)) end ∙ ap (Took e) (omega arith);
              wrote =
                  apart_parent (λ u. fill 0 g s at.place u) (λ u. fill_length 0 g s at.place u) a w
                  (subst (λ (j : ℕ). Put at.nodes kind_list j 0 (size f + 1) (put_mid k (length t - k) t v) t') (sym one)
                  (subst (λ (j : ℕ). Put at.nodes kind_list 1 0 (j + 1) (put_mid k (length t - k) t v) t') few (done.put refl)));
            }
        go (more u) o p a w = absurd (subst Stops (sym p ∙ step_took on) tt)
        go refused o p a w = absurd (subst Stops (sym p ∙ step_took on) tt)
        go deep o p a w = absurd (subst Stops (sym p ∙ step_took on) tt)

pub ruleset single = (single_stops, single_done, list)
