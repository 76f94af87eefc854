use Rattle.std.proofs.Common.{rules, Err, ◌≡◌}
use Rattle.table.specs.declared.Failure.TheVariants.{Refused}
use Rattle.table.proofs.Search.{levels_either}
use Rattle.table.proofs.Depth.{plain}
use Rattle.table.proofs.opt.Goals as goal

pub returns-in_default : goal.returns-in_default
returns-in_default g c = record {
  goes = λ depth of by.
      let x = by.reads _ _ _ _ _ (search levels_either) c.read-r.ensures in
      let other : c.read-r.result ≡ Err Refused → ⊥ = (λ e. grind rules) in
      search levels_either;
}

pub returns : goal.returns
unfolding plain
returns g c = record { goes = λ depth of by. let x = by.reads _ _ _ _ _ (search levels_either) c.read-r.ensures in let refused : c.read-r.result ≡ Err Refused = grind rules in search levels_either }
