use mathlib.Core.Path.{refl}
use mathlib.Core.List.{[], ◌∷◌}
use Rattle.reader.proofs.Words.{written, not_written}
use Rattle.reader.proofs.put_part.Goals as goal

pub returns-then-out-ge2 : goal.returns-then-out-ge2
returns-then-out-ge2 c = record { value = refl; out_after = written (c.args.offset ∷ c.args.len ∷ []) c.args.out.now c.if-out-ge2.true }

pub returns-else-out-ge2 : goal.returns-else-out-ge2
returns-else-out-ge2 c = record { value = refl; out_after = not_written (c.args.offset ∷ c.args.len ∷ []) c.args.out.now c.if-out-ge2.false }
