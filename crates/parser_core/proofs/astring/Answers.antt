use Rattle.std.proofs.Common.{rules, Err, ◌≡◌}
use Rattle.table.specs.declared.Failure.TheVariants.{Refused}
use Rattle.grammar.specs.Core.{astring}
use Rattle.table.proofs.Search.{either}
use Rattle.parser_core.proofs.astring.Goals as goal

pub returns-in_default : goal.returns-in_default
unfolding astring
returns-in_default c = let other : c.astring_chars-r.result ≡ Err Refused → ⊥ = (λ e. grind rules) in search either

pub returns-in_default-2 : goal.returns-in_default-2
unfolding astring
returns-in_default-2 c = let other : c.astring_chars-r.result ≡ Err Refused → ⊥ = (λ e. grind rules) in search either

pub returns : goal.returns
unfolding astring
returns c = let refused : c.astring_chars-r.result ≡ Err Refused = grind rules in search either
