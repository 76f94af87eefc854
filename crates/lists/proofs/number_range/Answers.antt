use Rattle.std.proofs.Common.{rules, ◌≡◌}
use Rattle.table.specs.declared.Failure.TheVariants.{Refused}
use Rattle.table.proofs.Cursors.{went_on, handed_back}
use Rattle.lists.proofs.Members.{scanned}
use Rattle.lists.proofs.number_range.Goals as goal

pub returns-in_err-next : goal.returns-in_err-next
returns-in_err-next c = let back = handed_back c.from_residual.ensures in search scanned

pub bounds-s-next : goal.bounds-s-next
bounds-s-next c = search scanned

pub returns-then-s-next-ne-COLON : goal.returns-then-s-next-ne-COLON
returns-then-s-next-ne-COLON c = let first = went_on c.branch-next.ensures c.in_ok-next.is in search scanned

pub returns-in-Ok : goal.returns-in-Ok
returns-in-Ok c = let first = went_on c.branch-next.ensures c.in_ok-next.is in search scanned

pub returns-in-Err-Refused : goal.returns-in-Err-Refused
returns-in-Err-Refused c = let first = went_on c.branch-next.ensures c.in_ok-next.is in search scanned

pub returns-in-Err : goal.returns-in-Err
returns-in-Err c =
    let first = went_on c.branch-next.ensures c.in_ok-next.is in
    let other : c.in-Err.failure ≡ Refused → ⊥ = (λ e. grind rules) in
    search scanned
