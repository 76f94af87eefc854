-- A table and a place kept together.
use Rattle.std.specs.Prelude.{ℕ, List}
use Rattle.std.specs.Borrow.{Bor}
use Rattle.walker.specs.declared.Walker.{Walker}

abbrev pub walker_at : Bor (List ℕ) → ℕ → Walker
walker_at t place = record { table = t; at = place }
