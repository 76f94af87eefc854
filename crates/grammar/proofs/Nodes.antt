-- The words of a node, where code cuts a table into nodes of four words each (`as_chunks`).
use Prim.Native.Nat.{ℕ, zero, suc, ◌+◌, ◌*◌, ◌<◌}
use mathlib.Core.Path.{◌≡◌, refl}
use mathlib.Core.List.{List}
use native.Mathlib.Omega.{arith}
use lib.ListN.{get_or, take, drop}
use lib.Seq.{drop-drop, get_or-drop}
use Rattle.std.proofs.lemmas.List.{get_or-take}
use Rattle.std.specs.Simd.{first_chunks}

piece : (k : ℕ) (t : List ℕ) (i : ℕ) (d : List ℕ) → i < k → get_or (first_chunks 4 k t) i d ≡ take 4 (drop (4 * i) t)
piece zero t i d h = absurd (omega arith)
piece (suc k) t zero d h = refl
piece (suc k) t (suc i) d h =
    let z : 4 * suc i ≡ 4 + 4 * i = omega arith in rw (z, ← drop-drop (4 * i) 4 t) (piece k (drop 4 t) i d (omega arith))

-- word j of node i
pub word : (k : ℕ) (t : List ℕ) (i : ℕ) (d : List ℕ) (j : ℕ) → i < k → j < 4
    → get_or (get_or (first_chunks 4 k t) i d) j 0 ≡ get_or t (4 * i + j) 0
word k t i d j h l = rw (piece k t i d h, get_or-take 4 (drop (4 * i) t) j 0 l, get_or-drop (4 * i) t j 0) refl
