use Rattle.std.proofs.Common.{rules, Err, ◌≡◌}
use Rattle.table.specs.declared.Failure.TheVariants.{Refused}
use Rattle.grammar.specs.Body.{section_msgtext, a_header, a_text}
use Rattle.table.proofs.Search.{either}
use Rattle.rfc3501_body.proofs.section_msgtext.Goals as goal

pub returns-in_default : goal.returns-in_default
unfolding section_msgtext a_header a_text
returns-in_default c = let other : c.header_fields-r.result ≡ Err Refused → ⊥ = (λ e. grind rules) in search either

pub returns-in_default-2 : goal.returns-in_default-2
unfolding section_msgtext a_header a_text
returns-in_default-2 c = let other : c.header_fields-r.result ≡ Err Refused → ⊥ = (λ e. grind rules) in search either

pub returns-in_default-r : goal.returns-in_default-r
unfolding section_msgtext a_header a_text
returns-in_default-r c = let first_refused : c.header_fields-r.result ≡ Err Refused = grind rules in let other : c.value-r.result ≡ Err Refused → ⊥ = (λ e. grind rules) in search either

pub returns-in_default-r-2 : goal.returns-in_default-r-2
unfolding section_msgtext a_header a_text
returns-in_default-r-2 c = let first_refused : c.header_fields-r.result ≡ Err Refused = grind rules in let other : c.value-r.result ≡ Err Refused → ⊥ = (λ e. grind rules) in search either

pub returns : goal.returns
unfolding section_msgtext a_header a_text
returns c = let first_refused : c.header_fields-r.result ≡ Err Refused = grind rules in let refused : c.value-r.result ≡ Err Refused = grind rules in search either
