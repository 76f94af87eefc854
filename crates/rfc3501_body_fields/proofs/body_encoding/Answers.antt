use Rattle.std.proofs.Common.{rules, Err, ◌≡◌}
use Rattle.table.specs.declared.Failure.TheVariants.{Refused}
use Rattle.grammar.specs.BodyStructure.{body_encoding}
use Rattle.table.proofs.Search.{either}
use Rattle.rfc3501_body_fields.proofs.body_encoding.Goals as goal

pub returns-in_default : goal.returns-in_default
unfolding body_encoding
returns-in_default c = let other : c.known_encoding-r.result ≡ Err Refused → ⊥ = (λ e. grind rules) in search either

pub returns-in_default-2 : goal.returns-in_default-2
unfolding body_encoding
returns-in_default-2 c = let other : c.known_encoding-r.result ≡ Err Refused → ⊥ = (λ e. grind rules) in search either

pub returns : goal.returns
unfolding body_encoding
returns c = let refused : c.known_encoding-r.result ≡ Err Refused = grind rules in search either
