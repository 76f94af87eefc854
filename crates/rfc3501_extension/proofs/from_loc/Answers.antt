use Rattle.std.proofs.Common.{rules, Err, ◌≡◌}
use Rattle.table.specs.declared.Failure.TheVariants.{Refused}
use Rattle.rfc3501_extension.specs.Tails.{from_loc}
use Rattle.table.proofs.Depth.{plain}
use Rattle.table.proofs.Search.{levels_either}
use Rattle.rfc3501_extension.proofs.from_loc.Goals as goal

pub returns-in_default : goal.returns-in_default
unfolding plain from_loc
returns-in_default c = let other : c.loc_tail-r.result ≡ Err Refused → ⊥ = (λ e. grind rules) in search levels_either

pub returns-in_default-2 : goal.returns-in_default-2
unfolding plain from_loc
returns-in_default-2 c = let other : c.loc_tail-r.result ≡ Err Refused → ⊥ = (λ e. grind rules) in search levels_either

pub returns : goal.returns
unfolding plain from_loc
returns c = let refused : c.loc_tail-r.result ≡ Err Refused = grind rules in search levels_either
