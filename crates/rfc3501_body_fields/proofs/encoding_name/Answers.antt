use Rattle.std.proofs.Common.{rules, Err, ◌≡◌}
use Rattle.table.specs.declared.Failure.TheVariants.{Refused}
use Rattle.grammar.specs.BodyStructure.{encoding_is}
use Rattle.table.proofs.Search.{either}
use Rattle.rfc3501_body_fields.proofs.encoding_name.Goals as goal

pub returns-in_default : goal.returns-in_default
unfolding encoding_is
returns-in_default c = let other : c.value-r.result ≡ Err Refused → ⊥ = (λ e. grind rules) in search either

pub returns-in_default-2 : goal.returns-in_default-2
unfolding encoding_is
returns-in_default-2 c = let other : c.value-r.result ≡ Err Refused → ⊥ = (λ e. grind rules) in search either

pub returns-in_default-r : goal.returns-in_default-r
unfolding encoding_is
returns-in_default-r c =
    let refused : c.value-r.result ≡ Err Refused = grind rules in
    let other : c.value-r-2.result ≡ Err Refused → ⊥ = (λ e. grind rules) in search either

pub returns-in_default-r-2 : goal.returns-in_default-r-2
unfolding encoding_is
returns-in_default-r-2 c =
    let refused : c.value-r.result ≡ Err Refused = grind rules in
    let other : c.value-r-2.result ≡ Err Refused → ⊥ = (λ e. grind rules) in search either

pub returns : goal.returns
unfolding encoding_is
returns c =
    let refused : c.value-r.result ≡ Err Refused = grind rules in
    let too : c.value-r-2.result ≡ Err Refused = grind rules in search either
