-- Levels that are closed, and the innermost with one more met, seen as lists.
use Rattle.std.proofs.Common.{◌≡◌, ℕ, zero, suc, ◌-◌, ◌<◌, ◌≤◌, List, length, Some, None, get_or, set, take, refl, arith}
use Rattle.std.specs.List.{suffix_len}
use Rattle.std.proofs.lemmas.Bool.{le-leb, lt-leb}
use Rattle.std.proofs.lemmas.List.{length-take, get_or-take, take-take}
use Rattle.std.proofs.Math.Seq.{take-set-lt}
use Rattle.std.proofs.lemmas.List.Sums.{suffix_len_is}
use Rattle.command_line.specs.declared.levels.Level.{Level}
use Rattle.command_line.specs.Levels.{ended, open_at, last, met_one, met}

-- of the first `from` levels, those from `left` on have ended
pub record Closing (now before : List Level) (from left at : ℕ) : Type 0 where
  pub same : now ≡ before
  pub within : left ≤ from
  pub rest_ended : (k : ℕ) (d : Level) → left ≤ k → k < from → (get_or now k d).end ≤ at

module _ {now : List Level} {from left at : ℕ} (room : from ≤ length now) (d : Level) (g : Closing now now from left at) where
  counted : length (take from now) ≡ from
  counted = let e = length-take from now in omega (arith, e)

  at_level : (k : ℕ) → k < from → get_or (take from now) k d ≡ get_or now k d
  at_level k l = get_or-take from now k d l

  stopped : (0 < left → at < (get_or now (left - 1) d).end) → take left now ≡ open_at (take from now) at
  stopped h =
      let closed = suffix_len_is (ended at) (take from now) left d (omega (arith, counted, g.within))
      (λ k a b. rw (at_level k (omega (arith, counted, b))) (le-leb _ _ (g.rest_ended k d a (omega (arith, counted, b)))))
      (λ z. rw (at_level (left - 1) (omega (arith, g.within, z))) (lt-leb _ _ (h z)))
      in let same : length (take from now) - suffix_len (ended at) (take from now) ≡ left = omega (arith, closed, counted, g.within)
      in rw (same, take-take left from now g.within) refl

-- the loop ends at a level that has not ended, or where none is left
pub closed_at : {now before : List Level} {from left at : ℕ} → from ≤ length before → (d : Level) → Closing now before from left at
    → (0 < left → at < (get_or now (left - 1) d).end) → take left now ≡ open_at (take from before) at
closed_at room d g h = rw (← g.same) (stopped (rw g.same room) d record { same = refl; within = g.within; rest_ended = g.rest_ended } h)

pub closed_all : {now before : List Level} {from left at : ℕ} → from ≤ length before → Closing now before from left at
    → left ≤ 0 → take left now ≡ open_at (take from before) at
closed_all room g z = closed_at room record { end = 0; kind = None; met = 0 } g (λ l. absurd (omega (arith, l, z)))

-- a write to the innermost
pub met_inside : (ls : List Level) (depth : ℕ) (l : Level) → depth ≤ length ls → last (take depth ls) ≡ Some l
    → take depth (set ls (depth - 1) (met_one l)) ≡ met (take depth ls)
met_inside ls zero l room is = refl
met_inside ls (suc d) l room is =
    rw (is, counted, take-set-lt (suc d) ls (suc d - 1) (met_one l) (omega arith)) refl
  where
    counted : length (take (suc d) ls) ≡ suc d
    counted = let e = length-take (suc d) ls in omega (arith, e)
