use Rattle.std.proofs.Common.{rules, Err, ◌≡◌}
use Rattle.table.specs.declared.Failure.TheVariants.{Refused}
use Rattle.parser_core.proofs.Tags.{option}
use Rattle.parser_core.proofs.opt_space.Goals as goal

pub returns-in_default : goal.returns-in_default
returns-in_default c = let other : c.char-r.result ≡ Err Refused → ⊥ = (λ e. grind rules) in search option

pub returns-in_default-2 : goal.returns-in_default-2
returns-in_default-2 c = let other : c.char-r.result ≡ Err Refused → ⊥ = (λ e. grind rules) in search option

pub returns : goal.returns
returns c = search option
