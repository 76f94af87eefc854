-- How far a reading goes and how many nodes it makes, computed of its grammar.
use Rattle.std.proofs.Common.{Ok, ℕ, ◌+◌, ◌*◌, ◌≤◌, ◌<◌}
use mathlib.Core.Path.{◌≡◌, refl, sym, ap, subst, ◌∙◌}
use mathlib.Core.Bool.{Bool, ◌&&◌}
use mathlib.Core.List.{List}
use native.Mathlib.Omega.{arith}
use lib.ListN.{length}
use lib.Dec.{T, leb, leb→le}
use Rattle.grammar.specs.Forest.{Forest, size}
use Rattle.grammar.specs.Out.{Out, took, more, refused, deep}
use Rattle.grammar.specs.Grammar.{G, mark, run}
use Rattle.grammar.specs.Reading.{length_limit}
use Rattle.grammar.proofs.Tests.{T_left, T_right}
use Rattle.grammar.proofs.On.{at_took}
use Rattle.grammar.proofs.Closed.{every}
use Rattle.grammar.proofs.Size.{pays, cost_of, grammar_paid}
use Rattle.table.specs.declared.Cursor.{Cursor}
use Rattle.table.specs.Cursor.{IResult, Step, Took, More, Refused, Deep, step, behind, place_of, nodes_of, Stops, find}
use Rattle.table.specs.Promise.{Begun, Stands, Goes, Room, Put, Ready, Fits, Within}
use Rattle.table.specs.Lists.{Paid}
use Rattle.table.proofs.Cursors.{step_took}
use Rattle.table.specs.Fill.{fill_with}
use Rattle.table.proofs.Going.{stands_took, stands_stopped, from}

-- a grammar whose readings pay for their nodes: four a byte. Computed.
unfoldable pub paid : G → Bool
unfolding every cost_of
paid g = every pays g && leb (cost_of g).extra (cost_of g).less

-- and that take a byte
unfoldable pub item : G → Bool
unfolding every cost_of
item g = every pays g && (leb (cost_of g).extra (cost_of g).less && leb 1 (cost_of g).fewest)

pub record Cost (s : List ℕ) (at e n : ℕ) : Type 0 where
  pub forward : at ≤ e
  pub inside : e ≤ length s
  pub few : n + 4 * at ≤ 4 * e

pub costs : (d : ℕ) (g : G) (s : List ℕ) (at : ℕ) {e : ℕ} {f : Forest} → T (paid g) → at ≤ length s → find d g s at ≡ took e f → Cost s at e (size f)
unfolding paid
costs d g s at {e} {f} m inside p =
    let x = at_took (grammar_paid d g (T_left (every pays g) (leb (cost_of g).extra (cost_of g).less) m) s at inside) p in
    let l = leb→le (cost_of g).extra (cost_of g).less (T_right (every pays g) (leb (cost_of g).extra (cost_of g).less) m) in
    record { forward = x.forward; inside = x.inside; few = omega (arith, x.holds.nodes) }

pub item_costs : (d : ℕ) (g : G) (s : List ℕ) (at : ℕ) {e : ℕ} {f : Forest} → T (item g) → at ≤ length s → find d g s at ≡ took e f
    → Cost s at e (size f) × (at < e)
unfolding item
item_costs d g s at {e} {f} m inside p =
    let c = cost_of g in
    let x = at_took (grammar_paid d g (T_left (every pays g) (leb c.extra c.less && leb 1 c.fewest) m) s at inside) p in
    let y = T_right (every pays g) (leb c.extra c.less && leb 1 c.fewest) m in
    let l = leb→le c.extra c.less (T_left (leb c.extra c.less) (leb 1 c.fewest) y) in
    let k = leb→le 1 c.fewest (T_right (leb c.extra c.less) (leb 1 c.fewest) y) in
    (record { forward = x.forward; inside = x.inside; few = omega (arith, x.holds.nodes) }, omega (arith, x.holds.bytes))

pub computed_paid : {d : ℕ} {g : G} → T (paid g) → Paid d g
computed_paid {d} {g} m = record { within = λ s at end f inside p. let x = costs d g s at m inside p in (x.forward, x.inside, x.few) }

-- so a cursor that stands goes on to one that does
pub pays_stands : (d : ℕ) (g : G) {s : List ℕ} (c q : IResult) {at n : ℕ} → Paid d g → Stands 0 s c → step c ≡ Took at n → step q ≡ behind n (find d g s at) → Stands 0 s q
pays_stands d g {s} c q {at} {n} m stands e r = go (find d g s at) refl r
  where
    go : (o : Out) → find d g s at ≡ o → step q ≡ behind n o → Stands 0 s q
    go (took e' f) p r =
        let a : place_of (step c) ≡ at = ap place_of e in
        let b : nodes_of (step c) ≡ n = ap nodes_of e in
        let x = m.within s at e' f (omega (arith, stands.inside)) p in
        stands_took q r x.1 stands.small (omega (arith, stands.few, x.2))
    go (more w) p r = stands_stopped s q stands.small (subst Stops (sym r) tt)
    go refused p r = stands_stopped s q stands.small (subst Stops (sym r) tt)
    go deep p r = stands_stopped s q stands.small (subst Stops (sym r) tt)

pub paid_stands : (d : ℕ) (g : G) {s : List ℕ} (c q : IResult) {at n : ℕ} → T (paid g) → Stands 0 s c → step c ≡ Took at n → step q ≡ behind n (find d g s at) → Stands 0 s q
paid_stands d g c q m stands e r = pays_stands d g c q (computed_paid m) stands e r

-- what the table's functions ask of a cursor that stands, and of an answer that was read from its place
pub ready : {s : List ℕ} {c : IResult} {k : Cursor} → c ≡ Ok k → Stands 0 s c → Ready k
ready {s} going stands =
    let x = subst (λ (j : IResult). Stands 0 s j) going stands in
    record { few = omega (arith, x.few, x.inside, x.small); start = omega (arith, x.inside, x.small) }

pub fits : {s : List ℕ} {c inner : IResult} {k : Cursor} → c ≡ Ok k → Stands 0 s c → Stands 0 s inner → Fits k inner
fits {s} going x y =
    let z = subst (λ (j : IResult). Stands 0 s j) going x in
    record { end = omega (arith, y.inside, y.small); few = omega (arith, z.few, z.inside, y.few, y.inside, y.small) }

-- the children's cursor
pub start_stands : {s : List ℕ} {c : IResult} {k b : Cursor} → c ≡ Ok k → Stands 0 s c → Begun k b → Stands 0 s (Ok b)
start_stands {s} going stands begun =
    let x = subst (λ (j : IResult). Stands 0 s j) going stands in
    subst (λ (j : Cursor). Stands 0 s (Ok j)) (sym begun.is) (record { inside = x.inside; small = x.small; few = omega arith })

-- a place that scans may begin from
pub room : {s : List ℕ} {c : IResult} {k : Cursor} → c ≡ Ok k → Stands 0 s c → Room s k.place
room {s} going stands = let x = subst (λ (j : IResult). Stands 0 s j) going stands in record { inside = x.inside; small = x.small }

-- marks: nodes that no byte pays for ---------------------------------------------------------------------------------------------

-- from `had` spares a reading of g leaves `spare`. Computed.
unfoldable pub leaves_of : ℕ → ℕ → G → Bool
unfolding every cost_of
leaves_of had spare g = every pays g && (leb (spare + (cost_of g).extra) (had + (cost_of g).less) && leb spare 1000)

failing : (s : List ℕ) (q : IResult) (spare : ℕ) → length s ≤ length_limit → spare ≤ 1000 → (z : Step) → step q ≡ z → Stops z → Stands spare s q
failing s q spare small l (Took at n) p h = absurd h
failing s q spare small l (More w) p h = record { inside = rw p (omega arith); small = small; few = rw p (omega arith) }
failing s q spare small l Refused p h = record { inside = rw p (omega arith); small = small; few = rw p (omega arith) }
failing s q spare small l Deep p h = record { inside = rw p (omega arith); small = small; few = rw p (omega arith) }

pub hands_on : (had spare : ℕ) {d : ℕ} {g : G} {s : List ℕ} {c q : IResult} {t t' : List ℕ} → T (leaves_of had spare g) → Stands had s c → Goes d g s c q t t' → Stands spare s q
unfolding leaves_of
hands_on had spare {d} {g} {s} {c} {q} {t} {t'} m stands x = go (step c) refl
  where
    rest : T (leb (spare + (cost_of g).extra) (had + (cost_of g).less) && leb spare 1000)
    rest = T_right (every pays g) (leb (spare + (cost_of g).extra) (had + (cost_of g).less) && leb spare 1000) m

    pays_all : T (every pays g)
    pays_all = T_left (every pays g) (leb (spare + (cost_of g).extra) (had + (cost_of g).less) && leb spare 1000) m

    little : spare ≤ 1000
    little = leb→le spare 1000 (T_right (leb (spare + (cost_of g).extra) (had + (cost_of g).less)) (leb spare 1000) rest)

    enough : spare + (cost_of g).extra ≤ had + (cost_of g).less
    enough = leb→le (spare + (cost_of g).extra) (had + (cost_of g).less) (T_left (leb (spare + (cost_of g).extra) (had + (cost_of g).less)) (leb spare 1000) rest)

    found : (at n : ℕ) (o : Out) → step c ≡ Took at n → find d g s at ≡ o → step q ≡ behind n o → Stands spare s q
    found at n (took e f) p w r =
        let a : place_of (step c) ≡ at = ap place_of p in
        let b : nodes_of (step c) ≡ n = ap nodes_of p in
        let y = at_took (grammar_paid d g pays_all s at (omega (arith, stands.inside))) w in
        record { inside = rw r y.inside; small = stands.small; few = rw r (omega (arith, y.holds.nodes, stands.few, enough)) }
    found at n (more u) p w r = failing s q spare stands.small little (step q) refl (subst Stops (sym r) tt)
    found at n refused p w r = failing s q spare stands.small little (step q) refl (subst Stops (sym r) tt)
    found at n deep p w r = failing s q spare stands.small little (step q) refl (subst Stops (sym r) tt)

    stop : Stops (step c) → Stands spare s q
    stop h = failing s q spare stands.small little (step q) refl (subst (λ (k : IResult). Stops (step k)) (sym (x.stopped h).0) h)

    go : (z : Step) → step c ≡ z → Stands spare s q
    go (Took at n) p = found at n (find d g s at) p refl (x.went at n p).read
    go (More w) p = stop (subst Stops (sym p) tt)
    go Refused p = stop (subst Stops (sym p) tt)
    go Deep p = stop (subst Stops (sym p) tt)

-- with room for some there is room for fewer, and for none
pub fewer_spares : (had spare : ℕ) {s : List ℕ} {c : IResult} → spare ≤ had → Stands had s c → Stands spare s c
fewer_spares had spare l x = record { inside = x.inside; small = x.small; few = omega (arith, x.few) }

pub spares_none : {spare : ℕ} {s : List ℕ} {c : IResult} → Stands spare s c → Stands 0 s c
spares_none {spare} x = fewer_spares spare 0 (omega arith) x

-- the nodes so far are among those of an answer that was read from there on
pub within_read : {d : ℕ} {g : G} {s : List ℕ} {c q : IResult} {k : Cursor} {t t' : List ℕ} → c ≡ Ok k → Goes d g s c q t t' → Within k q
within_read {d} {g} {s} {k = k} going x =
    record { few = λ end m p. go (find d g s k.place) (sym p ∙ (x.went k.place k.nodes (step_took going)).read) }
  where
    go : {end m : ℕ} (o : Out) → Took end m ≡ behind k.nodes o → k.nodes ≤ m
    go {end} {m} (took e f) r = let z : m ≡ size f + k.nodes = ap nodes_of r in omega arith
    go (more w) r = absurd (subst Stops (sym r) tt)
    go refused r = absurd (subst Stops (sym r) tt)
    go deep r = absurd (subst Stops (sym r) tt)

-- the mark itself
pub mark_done : {kind a : ℕ} {s : List ℕ} {c : IResult} {k : Cursor} {t t' : List ℕ} → c ≡ Ok k → Stands 1 s c → Put k.nodes kind a 0 1 t t'
    → Goes 0 (mark kind a) s c (Ok (record { place = k.place; nodes = 1 + k.nodes })) t t'
unfolding run fill_with size
mark_done {kind} {a} {s} {c} {k} {t} {t'} going stands put =
    let x = subst (λ (j : IResult). Stands 1 s j) going stands in
    from going (spares_none stands) (record { read = ap (Took k.place) (omega arith); wrote = put.is })
    (record { inside = x.inside; small = x.small; few = omega (arith, x.few) })
