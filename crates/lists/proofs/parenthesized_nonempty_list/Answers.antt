use Rattle.grammar.specs.Notation.{sp, separated_list1, parenthesized_nonempty_list}
use Rattle.table.proofs.Depth.{plain}
use Rattle.table.proofs.Search.{levels_line}
use Rattle.lists.proofs.parenthesized_nonempty_list.Goals as goal

pub separated-r-requires-clause-items : goal.separated-r-requires-clause-items
separated-r-requires-clause-items g c = c.requires.items

pub space0-r-requires : goal.space0-r-requires
space0-r-requires g c = let by = c.requires.items.2 in (c.separated-r.ensures.goes _ _ by).stands

pub returns : goal.returns
unfolding plain sp separated_list1 parenthesized_nonempty_list
returns g c = record { goes = λ depth h by. let x = c.separated-r.ensures.goes depth h by in search levels_line }
