-- Promises determine everything: two results that one promise allows are equal.
use Rattle.std.proofs.Common.{Ok, Err, ℕ, ◌+◌, ◌-◌}
use mathlib.Core.Path.{◌≡◌, refl, sym, ap, subst, ◌∙◌}
use mathlib.Core.List.{List, []}
use native.Mathlib.Omega.{arith}
use Rattle.grammar.specs.Grammar.{G}
use Rattle.table.specs.declared.Cursor.{Cursor}
use Rattle.table.specs.declared.Failure.TheVariants as failure
use Rattle.table.specs.Cursor.{IResult, Step, Took, More, Refused, Deep, step, Stops}
use Rattle.table.specs.Promise.{Moved, Goes, Skims, Leafed, Finished, Listed, Headed, Within}
use Rattle.table.proofs.Cursors.{one_meaning}

-- a reader's cursor, and every word of the table
pub one_reading : {d : ℕ} {g : G} {s : List ℕ} {c q q' : IResult} {t t₁ t₂ : List ℕ} → Goes d g s c q t t₁ → Goes d g s c q' t t₂
    → (q ≡ q') × (t₁ ≡ t₂)
one_reading {c = c} {q = q} {q' = q'} {t₁ = t₁} {t₂ = t₂} x y = go (step c) refl
  where
    stop : Stops (step c) → (q ≡ q') × (t₁ ≡ t₂)
    stop h = ((x.stopped h).0 ∙ sym (y.stopped h).0, (x.stopped h).1 ∙ sym (y.stopped h).1)

    go : (z : Step) → step c ≡ z → (q ≡ q') × (t₁ ≡ t₂)
    go (Took at n) p =
        let a = x.went at n p in
        let b = y.went at n p in
        (one_meaning q q' (a.read ∙ sym b.read), a.wrote ∙ sym b.wrote)
    go (More w) p = stop (subst Stops (sym p) tt)
    go Refused p = stop (subst Stops (sym p) tt)
    go Deep p = stop (subst Stops (sym p) tt)

-- and the cursor of one that is lent no table
pub one_skim : {g : G} {s : List ℕ} {c q q' : IResult} → Skims g s c q → Skims g s c q' → q ≡ q'
one_skim x y = (one_reading (x.on []) (y.on [])).0

-- the table's own functions ------------------------------------------------------------------------------------------------------

-- (those whose promise is an equation leave no choice: start, inside)
pub one_move : {c q q' : Cursor} {next : ℕ} → Moved c next q → Moved c next q' → q ≡ q'
one_move x y = x.is ∙ sym y.is

pub one_leaf : {kind a b next : ℕ} {c q q' : Cursor} {t t₁ t₂ : List ℕ} → Leafed kind a b next c q t t₁ → Leafed kind a b next c q' t t₂ → (q ≡ q') × (t₁ ≡ t₂)
one_leaf x y = (x.read ∙ sym y.read, x.put.is ∙ sym y.put.is)

pub one_finish : {kind : ℕ} {c : Cursor} {inner q q' : IResult} {t t₁ t₂ : List ℕ} → Finished kind c inner q t t₁ → Finished kind c inner q' t t₂ → (q ≡ q') × (t₁ ≡ t₂)
one_finish {inner = inner} {q = q} {q' = q'} {t₁ = t₁} {t₂ = t₂} x y = go (step inner) refl
  where
    stop : Stops (step inner) → (q ≡ q') × (t₁ ≡ t₂)
    stop h = ((x.stopped h).0 ∙ sym (y.stopped h).0, (x.stopped h).1 ∙ sym (y.stopped h).1)

    go : (z : Step) → step inner ≡ z → (q ≡ q') × (t₁ ≡ t₂)
    go (Took end m) p = (one_meaning q q' (x.read end m p ∙ sym (y.read end m p)), (x.put end m p).is ∙ sym (y.put end m p).is)
    go (More w) p = stop (subst Stops (sym p) tt)
    go Refused p = stop (subst Stops (sym p) tt)
    go Deep p = stop (subst Stops (sym p) tt)

pub one_list : {count : ℕ} {c inner : Cursor} {last q q' : IResult} {t t₁ t₂ : List ℕ} → Listed count c inner last q t t₁ → Listed count c inner last q' t t₂
    → (q ≡ q') × (t₁ ≡ t₂)
one_list {last = last} {q = q} {q' = q'} {t₁ = t₁} {t₂ = t₂} x y = go last refl
  where
    other : {z : Step} → step last ≡ z → (z ≡ Refused → ⊥) → (q ≡ q') × (t₁ ≡ t₂)
    other p n =
        let over : last ≡ Err failure.Refused → ⊥ = (λ e. n (sym p ∙ ap step e)) in
        ((x.ended over).0 ∙ sym (y.ended over).0, (x.ended over).1 ∙ sym (y.ended over).1)

    go : (z : IResult) → last ≡ z → (q ≡ q') × (t₁ ≡ t₂)
    go (Ok k) p = other (ap step p) (λ z. let w : Took k.place k.nodes ≡ Refused = z in cc)
    go (Err (failure.Unfinished w)) p = other (ap step p) (λ z. let v : More w ≡ Refused = z in cc)
    go (Err failure.TooDeep) p = other (ap step p) (λ z. let v : Deep ≡ Refused = z in cc)
    go (Err failure.Refused) p = (one_meaning q q' (x.read p ∙ sym (y.read p)), (x.put p).is ∙ sym (y.put p).is)

pub one_head : {c : Cursor} {inner q q' : IResult} {t t₁ t₂ : List ℕ} → Within c inner → Headed c inner q t t₁ → Headed c inner q' t t₂ → (q ≡ q') × (t₁ ≡ t₂)
one_head {c} {inner} {q} {q'} {t} {t₁} {t₂} within x y = (x.read ∙ sym y.read, go (step inner) refl)
  where
    stop : Stops (step inner) → t₁ ≡ t₂
    stop h = x.stopped h ∙ sym (y.stopped h)

    go : (z : Step) → step inner ≡ z → t₁ ≡ t₂
    go (Took end k) p =
        let l = within.few end k p in
        let e : step inner ≡ Took end ((k - c.nodes) + c.nodes) = p ∙ ap (Took end) (omega arith) in
        x.wrote end (k - c.nodes) e ∙ sym (y.wrote end (k - c.nodes) e)
    go (More w) p = stop (subst Stops (sym p) tt)
    go Refused p = stop (subst Stops (sym p) tt)
    go Deep p = stop (subst Stops (sym p) tt)
