-- One level deeper, or no level left.
use Prim.Native.Char.{code}
use Rattle.std.proofs.Common.{Ok, Err, ℕ, zero, suc, ◌-◌, ◌<◌}
use mathlib.Core.Path.{◌≡◌, refl, sym, ap, subst, ◌∙◌}
use mathlib.Core.List.{List}
use native.Mathlib.Omega.{arith}
use lib.Dec.{T}
use lib.ListN.{length, get_or}
use Rattle.grammar.specs.Text.{ascii}
use Rattle.grammar.specs.Out.{Out, took, more, refused, deep, followed_by}
use Rattle.grammar.specs.Scan.{tag, leaf_at, leaf_move, first_state, leaf_fits}
use Rattle.grammar.specs.Grammar.{G, leaf, seq, ref, Inner, run}
use Rattle.grammar.specs.BodyStructure.{grammar}
use Rattle.grammar.specs.Rules.{levels}
use Rattle.grammar.proofs.Scans.{scan_step}
use Rattle.table.specs.declared.Cursor.{Cursor}
use Rattle.table.specs.declared.Failure.{Failure}
use Rattle.table.specs.declared.Failure.TheVariants as failure
use Rattle.table.specs.Cursor.{IResult, Deep, step, behind, Stops}
use Rattle.table.specs.Fill.{fill_with, fill_levels}
use Rattle.table.specs.Promise.{Stands, Goes, Skims}
use Rattle.table.proofs.Going.{Still, skim, and, stands_stopped}
use Rattle.table.proofs.Cursors.{failed_stops}
use Rattle.table.proofs.Onward.{onward_same}
use Rattle.table.proofs.Depth.{plain, at_depth}

-- a link of a line with levels that makes no node
infixl 20 ◌▹▹◌
pub ◌▹▹◌ : {d : ℕ} {g h : G} {s : List ℕ} {c q r : IResult} {t t₁ : List ℕ} → Goes d g s c q t t₁ → T (plain h) → Skims h s q r → Goes d (seq g h) s c r t t₁
◌▹▹◌ {d} {t₁ = t₁} x p y = and x (at_depth d p (y.on t₁))

-- no level is left for an opening parenthesis
pub no_level : {i : Inner} {s : List ℕ} {at : ℕ} → at < length s → get_or s at 0 ≡ code "(" → Still 0 (ref i) s at deep
unfolding run levels fill_with fill_levels leaf_at leaf_move first_state leaf_fits
no_level {i} {s} {at} l p =
    record { read = rw (scan_step (leaf_move (tag (ascii "("))) s 0 0 at l, p); wrote = λ t. refl }

-- one level deeper
pub ref_in : (left : ℕ) {i : Inner} {s : List ℕ} {c q : IResult} {t t' : List ℕ} → (left ≡ 0 → ⊥) → Goes (left - 1) (grammar i) s c q t t' → Goes left (ref i) s c q t t'
unfolding run levels fill_with fill_levels
ref_in zero n x = absurd (n refl)
ref_in (suc k) {i} {s} {c} {q} {t} {t'} n x =
    let here : Goes k (grammar i) s c q t t' = subst (λ (d : ℕ). Goes d (grammar i) s c q t t') (omega arith) x in
    record { stopped = here.stopped; went = λ at n p. here.went at n p; stands = here.stands }

-- a reader where no level is left, from one of the opening parenthesis
module _ {i : Inner} {s : List ℕ} {c r : IResult} (x : Skims (leaf (tag (ascii "("))) s c r) where
  pub level_fails : {f : Failure} → r ≡ Err f → Skims (ref i) s c (Err f)
  unfolding run levels fill_with fill_levels
  level_fails {f} fails = skim (λ t. record {
    stopped = λ h. let e = (x.on t).stopped h in (sym fails ∙ e.0, e.1);
    went = λ at n p. record { read = go n (leaf_at (tag (ascii "(")) s at) (ap step (sym fails) ∙ ((x.on t).went at n p).read); wrote = onward_same n t };
    stands = subst (λ (k : IResult). Stands 0 s k) fails x.stands;
  })
    where
      go : (n : ℕ) (o : Out) → step (Err f) ≡ behind n o → step (Err f) ≡ behind n (followed_by o (λ e f. deep))
      go n (took e g) p = absurd (subst Stops p (failed_stops f))
      go n (more w) p = p
      go n refused p = p
      go n deep p = p

  pub level_opens : {next at : Cursor} → r ≡ Ok next → c ≡ Ok at → Stands 0 s c → Skims (ref i) s c (Err failure.TooDeep)
  unfolding run levels fill_with fill_levels
  level_opens {next} less going stands = skim (λ t. record {
    stopped = λ h. absurd (subst Stops (ap step going) h);
    went = λ at n p. record { read = go n (leaf_at (tag (ascii "(")) s at) (ap step (sym less) ∙ ((x.on t).went at n p).read); wrote = onward_same n t };
    stands = stands_stopped s (Err failure.TooDeep) stands.small tt;
  })
    where
      go : (n : ℕ) (o : Out) → step (Ok next) ≡ behind n o → Deep ≡ behind n (followed_by o (λ e f. deep))
      go n (took e f) p = refl
      go n (more w) p = absurd (subst Stops (sym p) tt)
      go n refused p = absurd (subst Stops (sym p) tt)
      go n deep p = absurd (subst Stops (sym p) tt)

pub none_left : {left : ℕ} {i : Inner} {s : List ℕ} {c q : IResult} {t : List ℕ} → left ≡ 0 → Skims (ref i) s c q → Goes left (ref i) s c q t t
none_left {left} {i} {s} {c} {q} {t} z x = subst (λ (d : ℕ). Goes d (ref i) s c q t t) (sym z) (x.on t)
