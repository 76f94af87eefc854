-- What opens with a parenthesis, or is NIL.
use Rattle.std.specs.Prelude.{ℕ, ◌<◌, ◌≡◌, List, length, get_or}
use Prim.Native.Char.{code}
use Rattle.grammar.specs.Out.{refused}
use Rattle.grammar.specs.Grammar.{G, alt}
use Rattle.grammar.specs.Core.{nil}
use Rattle.table.specs.Cursor.{IResult, find}
use Rattle.table.specs.Fill.{fill}
use Rattle.table.specs.Promise.{Calls, ReadsBy, Goes}

-- at another byte g is refused, and writes nothing
pub record Opening (depth : ℕ) (g : G) : Type 0 where
  pub refused : (s : List ℕ) (at : ℕ) → at < length s → (get_or s at 0 ≡ code "(" → ⊥) → find depth g s at ≡ refused
  pub wrote : (s : List ℕ) (at : ℕ) (t : List ℕ) → at < length s → (get_or s at 0 ≡ code "(" → ⊥) → fill depth g s at t ≡ t

-- NIL was read, or what f reads
pub record OrNil {F : Type 0} (calls : Calls F) (f : F) (s : List ℕ) (c q : IResult) (t t' : List ℕ) : Type 0 where
  pub goes : (depth : ℕ) (g : G) → ReadsBy calls depth g f → Opening depth g → Goes depth (alt nil g) s c q t t'
