use Rattle.std.proofs.Common.{rules, Err, ◌≡◌}
use Rattle.table.specs.declared.Failure.TheVariants.{Refused}
use Rattle.grammar.specs.Body.{section_spec}
use Rattle.table.proofs.Search.{either}
use Rattle.rfc3501_body.proofs.section_spec.Goals as goal

pub returns-in_default : goal.returns-in_default
unfolding section_spec
returns-in_default c = let other : c.section_msgtext-r.result ≡ Err Refused → ⊥ = (λ e. grind rules) in search either

pub returns-in_default-2 : goal.returns-in_default-2
unfolding section_spec
returns-in_default-2 c = let other : c.section_msgtext-r.result ≡ Err Refused → ⊥ = (λ e. grind rules) in search either

pub returns : goal.returns
unfolding section_spec
returns c = let refused : c.section_msgtext-r.result ≡ Err Refused = grind rules in search either
