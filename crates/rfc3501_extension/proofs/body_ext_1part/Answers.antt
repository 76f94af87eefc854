use Rattle.std.proofs.Common.{rules, Err, ◌≡◌}
use Rattle.table.specs.declared.Failure.TheVariants.{Refused}
use Rattle.rfc3501_extension.specs.Tails.{from_dsp}
use Rattle.grammar.specs.BodyStructure.{body_ext_1part}
use Rattle.table.proofs.Depth.{plain}
use Rattle.table.proofs.Search.{levels_either}
use Rattle.rfc3501_extension.proofs.body_ext_1part.Goals as goal

pub returns-in_default : goal.returns-in_default
unfolding plain body_ext_1part from_dsp
returns-in_default c = let other : c.md5_tail-r.result ≡ Err Refused → ⊥ = (λ e. grind rules) in search levels_either

pub returns-in_default-2 : goal.returns-in_default-2
unfolding plain body_ext_1part from_dsp
returns-in_default-2 c = let other : c.md5_tail-r.result ≡ Err Refused → ⊥ = (λ e. grind rules) in search levels_either

pub returns : goal.returns
unfolding plain body_ext_1part from_dsp
returns c = let refused : c.md5_tail-r.result ≡ Err Refused = grind rules in search levels_either
