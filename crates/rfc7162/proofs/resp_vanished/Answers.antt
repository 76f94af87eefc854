use Rattle.std.proofs.Common.{rules, Err, ◌≡◌}
use Rattle.grammar.specs.Rfc7162.{resp_vanished}
use Rattle.table.specs.declared.Failure.TheVariants.{Refused}
use Rattle.table.proofs.Search.{either}
use Rattle.rfc7162.proofs.resp_vanished.Goals as goal

pub returns-in_default : goal.returns-in_default
unfolding resp_vanished
returns-in_default c = let other : c.vanished_earlier-r.result ≡ Err Refused → ⊥ = (λ e. grind rules) in search either

pub returns-in_default-2 : goal.returns-in_default-2
unfolding resp_vanished
returns-in_default-2 c = let other : c.vanished_earlier-r.result ≡ Err Refused → ⊥ = (λ e. grind rules) in search either

pub returns : goal.returns
unfolding resp_vanished
returns c = let gone : c.vanished_earlier-r.result ≡ Err Refused = grind rules in search either
