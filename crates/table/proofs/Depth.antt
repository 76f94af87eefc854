-- A grammar that goes no level deeper reads and writes the same with any number of levels.
use Rattle.std.proofs.Common.{ℕ, suc}
use mathlib.Core.Path.{◌≡◌, refl, ap, ◌∙◌, fun_ext}
use mathlib.Core.Bool.{Bool, true, false, ◌&&◌}
use mathlib.Core.List.{List}
use lib.ListN.{length, take}
use lib.Dec.{T}
use Rattle.grammar.specs.Forest.{Forest}
use Rattle.grammar.specs.Out.{Out, took, refused, branch, followed_by, or_else, with_before, repeated}
use Rattle.grammar.specs.EntryName.{check_entry_name}
use Rattle.grammar.specs.Grammar.{act, Inner, G, leaf, literal, nothing, mark, seq, alt, star, does, entry, ref, Reader, named, run}
use Rattle.grammar.specs.Rules.{levels}
use Rattle.grammar.proofs.Tests.{T_left, T_right}
use Rattle.table.specs.Cursor.{IResult, behind}
use Rattle.table.specs.Table.{as_step, then_table, else_table, onward}
use Rattle.table.specs.Fill.{Filler, act_table, repeat_table, fill_with, fill_levels}
use Rattle.table.specs.Promise.{Goes, Skims}
use Rattle.table.proofs.Onward.{onward_as}

-- no level deeper ------------------------------------------------------------------------------------------------------

unfoldable pub plain : G → Bool
plain (leaf l) = true
plain literal = true
plain nothing = true
plain (mark kind a) = true
plain (seq g h) = plain g && plain h
plain (alt g h) = plain g && plain h
plain (star g) = plain g
plain (does a g) = plain g
plain (entry g) = plain g
plain (ref n) = false

-- the same after the same
then_cong : (o : Out) (k k' : ℕ → Forest → Out) → ((e : ℕ) (f : Forest) → k e f ≡ k' e f) → followed_by o k ≡ followed_by o k'
then_cong o k k' h = ap (followed_by o) (fun_ext (λ e. fun_ext (λ f. h e f)))

then_table_cong : (o o' : Out) (t t' : List ℕ) (k k' : ℕ → ℕ → List ℕ) → o ≡ o' → t ≡ t' → ((e n : ℕ) → k e n ≡ k' e n)
    → then_table (as_step o) t k ≡ then_table (as_step o') t' k'
then_table_cong o o' t t' k k' p q h = rw (p, q) (ap (then_table (as_step o') t') (fun_ext (λ e. fun_ext (λ n. h e n))))

else_table_cong : (o o' : Out) (t t' : List ℕ) (x x' : List ℕ) → o ≡ o' → t ≡ t' → x ≡ x'
    → else_table (as_step o) t (λ u. x) ≡ else_table (as_step o') t' (λ u. x')
else_table_cong o o' t t' x x' p q h = rw (p, q, h)

module _ (i j : Inner → Reader) where
  run_plain : (g : G) → T (plain g) → (s : List ℕ) (at : ℕ) → run i g s at ≡ run j g s at
  unfolding run plain
  run_plain (leaf l) t s at = refl
  run_plain literal t s at = refl
  run_plain nothing t s at = refl
  run_plain (mark kind a) t s at = refl
  run_plain (seq g h) t s at =
      ap (λ o. followed_by o (λ e f. with_before f (run i h s e))) (run_plain g (T_left (plain g) (plain h) t) s at)
      ∙ then_cong (run j g s at) _ _ (λ e f. ap (with_before f) (run_plain h (T_right (plain g) (plain h) t) s e))
  run_plain (alt g h) t s at =
      ap (λ o. or_else o (λ u. run i h s at)) (run_plain g (T_left (plain g) (plain h) t) s at)
      ∙ ap (λ (o : Out). or_else (run j g s at) (λ u. o)) (run_plain h (T_right (plain g) (plain h) t) s at)
  run_plain (star g) t s at = ap (λ r. repeated (suc (length s)) r at) (fun_ext (λ k. run_plain g t s k))
  run_plain (does a g) t s at = ap (λ o. followed_by o (λ e f. took e (act a at e f))) (run_plain g t s at)
  run_plain (entry g) t s at =
      ap (λ o. followed_by o (λ e f. branch (check_entry_name (named f (take e s))) (λ u. took e f) (λ u. refused))) (run_plain g t s at)
  run_plain (ref n) t s at = absurd t

  module _ (v w : Inner → Filler) where
    fill_plain : (g : G) → T (plain g) → (s : List ℕ) (at : ℕ) (t : List ℕ) → fill_with i v g s at t ≡ fill_with j w g s at t
    unfolding fill_with plain
    fill_plain (leaf l) p s at t = refl
    fill_plain literal p s at t = refl
    fill_plain nothing p s at t = refl
    fill_plain (mark kind a) p s at t = refl
    fill_plain (seq g h) p s at t =
        let q = fill_plain g (T_left (plain g) (plain h) p) s at t in
        then_table_cong (run i g s at) (run j g s at) (fill_with i v g s at t) (fill_with j w g s at t) _ _
        (run_plain g (T_left (plain g) (plain h) p) s at) q
        (λ e n. ap (onward n (λ u. fill_with i v h s e u)) q
        ∙ ap (λ x. onward n x (fill_with j w g s at t)) (fun_ext (λ u. fill_plain h (T_right (plain g) (plain h) p) s e u)))
    fill_plain (alt g h) p s at t =
        let q = fill_plain g (T_left (plain g) (plain h) p) s at t in
        else_table_cong (run i g s at) (run j g s at) (fill_with i v g s at t) (fill_with j w g s at t) _ _
        (run_plain g (T_left (plain g) (plain h) p) s at) q
        (ap (fill_with i v h s at) q ∙ fill_plain h (T_right (plain g) (plain h) p) s at (fill_with j w g s at t))
    fill_plain (star g) p s at t =
        ap (λ r. repeat_table (suc (length s)) r (λ k u. fill_with i v g s k u) at 0 t) (fun_ext (λ k. ap as_step (run_plain g p s k)))
        ∙ ap (λ x. repeat_table (suc (length s)) (λ k. as_step (run j g s k)) x at 0 t) (fun_ext (λ k. fun_ext (λ u. fill_plain g p s k u)))
    fill_plain (does a g) p s at t =
        ap (λ o. act_table a at o (λ u. fill_with i v g s at u) t) (run_plain g p s at)
        ∙ ap (λ x. act_table a at (run j g s at) x t) (fun_ext (λ u. fill_plain g p s at u))
    fill_plain (entry g) p s at t = fill_plain g p s at t
    fill_plain (ref n) p s at t = absurd p

-- so a reader that serves no levels serves any number
pub at_depth : (d : ℕ) {g : G} {s : List ℕ} {c q : IResult} {t t' : List ℕ} → T (plain g) → Goes 0 g s c q t t' → Goes d g s c q t t'
at_depth d {g} {s} {c} {q} {t} {t'} m x = record {
  stopped = x.stopped;
  went = λ at n p.
      let w = x.went at n p in
      record {
        read = w.read ∙ ap (behind n) (run_plain (levels 0) (levels d) g m s at);
        wrote = w.wrote ∙ onward_as n _ _ t (λ u. fill_plain (levels 0) (levels d) (fill_levels 0) (fill_levels d) g m s at u);
      };
  stands = x.stands;
}

-- and one that is lent no table
pub skims_at : (d : ℕ) {g : G} {s : List ℕ} {c q : IResult} (t : List ℕ) → T (plain g) → Skims g s c q → Goes d g s c q t t
skims_at d t m x = at_depth d m (x.on t)
