-- The match on a rule's number: what its last arm is told.
use Prim.Native.Nat.{ℕ, zero, suc, ◌≤◌, ◌<◌}
use mathlib.Core.Path.{◌≡◌, sym}
use native.Mathlib.Omega.{arith}
use lib.Arith.{lt_of_le-ne}

-- n is none of the numbers 1 to k
abbrev pub Apart : ℕ → ℕ → Type 0
Apart zero n = Unit {0}
Apart (suc k) n = Apart k n × (n ≡ suc k → ⊥)

pub apart : (k n : ℕ) → Apart k n → 1 ≤ n → k < n
apart zero n a h = omega arith
apart (suc k) n a h = lt_of_le-ne (apart k n a.0 h) (λ e. a.1 (sym e))
