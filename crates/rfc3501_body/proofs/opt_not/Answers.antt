use Rattle.std.proofs.Common.{rules, Err, ◌≡◌}
use Rattle.table.specs.declared.Failure.TheVariants.{Refused}
use Rattle.grammar.specs.Notation.{skip_opt}
use Rattle.table.proofs.Search.{either}
use Rattle.rfc3501_body.proofs.opt_not.Goals as goal

pub returns-in_default : goal.returns-in_default
unfolding skip_opt
returns-in_default c = let other : c.tag_no_case-r.result ≡ Err Refused → ⊥ = (λ e. grind rules) in search either

pub returns-in_default-2 : goal.returns-in_default-2
unfolding skip_opt
returns-in_default-2 c = let other : c.tag_no_case-r.result ≡ Err Refused → ⊥ = (λ e. grind rules) in search either

pub returns : goal.returns
unfolding skip_opt
returns c = let refused : c.tag_no_case-r.result ≡ Err Refused = grind rules in search either
