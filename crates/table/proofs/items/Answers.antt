use Rattle.table.proofs.Search.{list}
use Rattle.table.proofs.Cursors.{handed_back}
use Rattle.table.proofs.Lists.{listed_of}
use Rattle.table.proofs.items.Goals as goal

pub returns-in_err-e : goal.returns-in_err-e
returns-in_err-e g c = record { goes = λ depth of by. let x = by.reads_first.reads _ _ _ _ _ (search list) c.first.ensures in let back = handed_back c.from_residual-in_err-e.ensures in search list }

pub loop-more-init : goal.loop-more-init
loop-more-init g c = λ depth of by. let x = by.reads_first.reads _ _ _ _ _ (search list) c.first.ensures in search list

pub returns-in-Err : goal.returns-in-Err
returns-in-Err g c = record {
  goes = λ depth of by.
      let inv = c.loop-more.invariant depth of by in
      let x = by.reads_first.reads _ _ _ _ _ (search list) c.first.ensures in
      let y = by.reads_next.reads _ _ _ _ _ (search list) c.next.ensures in
      let done = listed_of c.in-Err.is c.list.ensures in
      search list;
}

pub loop-more-smaller : goal.loop-more-smaller
loop-more-smaller g c =
    let by = c.requires.lists.2 in
    let inv = c.loop-more.invariant _ _ by in
    let y = by.reads_next.reads _ _ _ _ _ (search list) c.next.ensures in
    search list

pub loop-more-preserved : goal.loop-more-preserved
loop-more-preserved g c = λ depth of by.
    let inv = c.loop-more.invariant depth of by in
    let y = by.reads_next.reads _ _ _ _ _ (search list) c.next.ensures in
    search list
