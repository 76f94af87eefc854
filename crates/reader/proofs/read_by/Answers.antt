use Rattle.std.proofs.Common.{rules}
use Rattle.reader.proofs.Passes.{known_by, fails, no_room, copied, passed_again, lent_words}
use Rattle.reader.proofs.read_by.Goals as goal

pub returns-in-Err : goal.returns-in-Err
returns-in-Err c = search (fails, known_by, rules)

pub returns-then-t-nodes : goal.returns-then-t-nodes
returns-then-t-nodes c = search (no_room, known_by, rules)

pub slice_bounds-once-end-else-k-scratch : goal.slice_bounds-once-end-else-k-scratch
slice_bounds-once-end-else-k-scratch c = search (lent_words, rules)

pub returns-then-k-scratch : goal.returns-then-k-scratch
returns-then-k-scratch c = search (copied, known_by, rules)

pub returns-else-k-scratch : goal.returns-else-k-scratch
returns-else-k-scratch c = search (passed_again, known_by, rules)
