-- Fields that are not there.
use Rattle.std.proofs.Common.{ℕ, zero, suc, ◌+◌, ◌-◌, ◌<◌}
use mathlib.Core.Path.{◌≡◌, refl, sym, ap, subst, ◌∙◌}
use mathlib.Core.List.{List}
use native.Mathlib.Omega.{arith}
use native.Mathlib.Numerals.{add-one}
use Rattle.grammar.specs.Forest.{size}
use Rattle.grammar.specs.Grammar.{nothing, mark, run}
use Rattle.grammar.specs.Notation.{absent}
use Rattle.grammar.specs.BodyStructure.{absents}
use Rattle.table.specs.Cursor.{IResult, Step, Took, More, Refused, Deep, step, place_of, nodes_of, Stops}
use Rattle.table.specs.Fill.{fill_with}
use Rattle.table.specs.Promise.{Stands, Goes}
use Rattle.table.proofs.Cursors.{one_meaning}
use Rattle.table.proofs.Onward.{onward_same}
use Rattle.table.proofs.Going.{and, goes_nothing}

-- nothing was done
nothing_done : {s : List ℕ} {c q : IResult} {t t' : List ℕ} → Goes 0 nothing s c q t t' → (q ≡ c) × (t' ≡ t)
unfolding run fill_with size
nothing_done {s} {c} {q} {t} {t'} x = go (step c) refl
  where
    go : (z : Step) → step c ≡ z → (q ≡ c) × (t' ≡ t)
    go (Took at n) p = let w = x.went at n p in (one_meaning q c (w.read ∙ ap (Took at) (omega arith) ∙ sym p), w.wrote ∙ sym (onward_same n t))
    go (More w) p = x.stopped (subst Stops (sym p) tt)
    go Refused p = x.stopped (subst Stops (sym p) tt)
    go Deep p = x.stopped (subst Stops (sym p) tt)

-- one more
absents_more : (n : ℕ) {s : List ℕ} {c q r : IResult} {t t₁ t₂ : List ℕ} → Goes 0 (absents n) s c q t t₁ → Goes 0 absent s q r t₁ t₂ → Goes 0 (absents (suc n)) s c r t t₂
unfolding absents
absents_more zero {s} {c} {q} {r} {t} {t₁} {t₂} x y =
    let e = nothing_done x in
    subst (λ (k : IResult). Goes 0 absent s k r t t₂) e.0 (subst (λ (u : List ℕ). Goes 0 absent s q r u t₂) e.1 y)
absents_more (suc n) x y = and x y

-- a mark takes one of the spares
mark_takes : {spare kind a : ℕ} {s : List ℕ} {c q : IResult} {t t' : List ℕ} → Stands (suc spare) s c → Goes 0 (mark kind a) s c q t t' → Stands spare s q
unfolding run size
mark_takes {spare} {s = s} {c} {q} stands x = go (step c) refl
  where
    stop : Stops (step c) → Stands spare s q
    stop h = subst (λ (k : IResult). Stands spare s k) (sym (x.stopped h).0) (record { inside = stands.inside; small = stands.small; few = omega (arith, stands.few) })

    go : (z : Step) → step c ≡ z → Stands spare s q
    go (Took at n) p =
        let r = (x.went at n p).read in
        record { inside = rw r (omega (arith, ap place_of p, stands.inside)); small = stands.small; few = rw r (omega (arith, ap place_of p, ap nodes_of p, stands.few)) }
    go (More w) p = stop (subst Stops (sym p) tt)
    go Refused p = stop (subst Stops (sym p) tt)
    go Deep p = stop (subst Stops (sym p) tt)

-- THE INVARIANT: so many of them were marked
pub record Marked (count all : ℕ) (s : List ℕ) (c q : IResult) (t t' : List ℕ) : Type 0 where
  pub goes : Goes 0 (absents count) s c q t t'
  pub spare : Stands (all - count) s q

module _ {all : ℕ} {s : List ℕ} {c : IResult} {t : List ℕ} where
  pub none_marked : Stands all s c → Marked 0 all s c c t t
  unfolding absents
  none_marked stands = record {
    goes = goes_nothing (record { inside = stands.inside; small = stands.small; few = omega (arith, stands.few) });
    spare = record { inside = stands.inside; small = stands.small; few = omega (arith, stands.few) };
  }

  pub one_marked : {n : ℕ} {q r : IResult} {t₁ t₂ : List ℕ} → Marked n all s c q t t₁ → n < all → Goes 0 absent s q r t₁ t₂ → Marked (n + 1) all s c r t t₂
  unfolding absent
  one_marked {n} {q} {r} {t₁} {t₂} x l y = record {
    goes = subst (λ (k : ℕ). Goes 0 (absents k) s c r t t₂) (sym (add-one n)) (absents_more n x.goes y);
    spare = mark_takes (subst (λ (k : ℕ). Stands k s q) (omega (arith, l)) x.spare) y;
  }
