use Rattle.grammar.specs.Core.{astring}
use Rattle.grammar.specs.Notation.{sp, separated_list0, separated_list1, parenthesized_list}
use Rattle.table.proofs.Bounds.{leaves_of}
use Rattle.table.proofs.Search.{line, spare, passed}
use Rattle.lists.proofs.parenthesized_astrings.Goals as goal

pub opt-r-requires-clause-stands : goal.opt-r-requires-clause-stands
unfolding leaves_of
opt-r-requires-clause-stands c = search spare

pub opt_space-r-requires : goal.opt_space-r-requires
unfolding separated_list0
opt_space-r-requires c = let x = c.opt-r.ensures.goes 0 (separated_list1 sp astring) (search passed) in search spare

pub returns : goal.returns
unfolding parenthesized_list separated_list0
returns c = let x = c.opt-r.ensures.goes 0 (separated_list1 sp astring) (search passed) in search line
