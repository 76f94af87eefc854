-- What a reading of a whole buffer comes to: from its beginning, in a table that is just large enough, the nodes' words.
use Rattle.std.proofs.Common.{ℕ, ◌≤◌}
use mathlib.Core.Path.{◌≡◌, refl, ap, ◌∙◌}
use mathlib.Core.List.{List}
use native.Mathlib.Omega.{arith}
use lib.ListN.{length}
use Rattle.grammar.specs.Grammar.{G}
use Rattle.grammar.specs.Reading.{length_limit}
use Rattle.table.specs.Cursor.{IResult, first, step, behind, find}
use Rattle.table.specs.Fill.{fill}
use Rattle.table.specs.Promise.{Stands, Goes}
use Rattle.table.proofs.Length.{fill_length}
use Rattle.table.proofs.Onward.{onward_zero}
use Rattle.table.proofs.Going.{stands_took}

pub stands_first : {s : List ℕ} → length s ≤ length_limit → Stands 0 s first
stands_first small = stands_took first refl (omega arith) small (omega arith)

-- with room for a node that stands for no byte
pub stands_one : {s : List ℕ} → length s ≤ length_limit → Stands 1 s first
stands_one small = record { inside = omega arith; small = small; few = omega arith }

-- the answer
pub whole_read : {d : ℕ} {g : G} {s : List ℕ} {q : IResult} {t t' : List ℕ} → Goes d g s first q t t' → step q ≡ behind 0 (find d g s 0)
whole_read x = (x.went 0 0 refl).read

-- and the table: just its nodes' words if it has room for no more, and those first if it has
pub whole_fill : {d : ℕ} {g : G} {s : List ℕ} {q : IResult} {t t' : List ℕ} → Goes d g s first q t t' → t' ≡ fill d g s 0 t
whole_fill {d} {g} {s} {t = t} x = (x.went 0 0 refl).wrote ∙ onward_zero (λ u. fill d g s 0 u) t

pub whole_length : {d : ℕ} {g : G} {s : List ℕ} {q : IResult} {t t' : List ℕ} → Goes d g s first q t t' → length t' ≡ length t
whole_length {d} {g} {s} {t = t} x = ap length (whole_fill x) ∙ fill_length d g s 0 t
