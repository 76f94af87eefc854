use Rattle.std.proofs.Common.{Ok}
use Rattle.grammar.specs.BodyStructure.{body_extension, extension_list}
use Rattle.table.proofs.Cursors.{went_on}
use Rattle.table.proofs.Lines.{from_cursor, itself}
use Rattle.table.proofs.Listable.{listable}
use Rattle.table.proofs.Opens.{hungry}
use Rattle.lists.proofs.Lists.{in_parentheses}
use Rattle.rfc3501_extension.proofs.First.{firsts}
use Rattle.rfc3501_extension.proofs.+extension_circle.Goals as goal

pub extension-returns : goal.extension-returns
extension-returns t c = from_cursor (went_on c.branch-c.ensures c.in_ok-c.is) c.extension_from.ensures

pub extension_from-returns-then-s-c : goal.extension_from-returns-then-s-c
unfolding hungry body_extension
extension_from-returns-then-s-c t c = let on = itself (Ok c.args.c) in search firsts

pub extension_from-returns-then-left-eq0 : goal.extension_from-returns-then-left-eq0
extension_from-returns-then-left-eq0 t c = let on = itself (Ok c.args.c) in search firsts

pub extension_from-returns-then-b-eq40 : goal.extension_from-returns-then-b-eq40
extension_from-returns-then-b-eq40 t c = let on = itself (Ok c.args.c) in search firsts

pub extension_from-returns-then-is_digit : goal.extension_from-returns-then-is_digit
extension_from-returns-then-is_digit t c = let on = itself (Ok c.args.c) in search firsts

pub extension_from-returns : goal.extension_from-returns
extension_from-returns t c = let on = itself (Ok c.args.c) in search firsts

pub extension_list-parenthesized_nonempty_list-requires-clause-items : goal.extension_list-parenthesized_nonempty_list-requires-clause-items
unfolding listable body_extension
extension_list-parenthesized_nonempty_list-requires-clause-items t c = (c.args.left, body_extension, search in_parentheses)

pub extension_list-returns : goal.extension_list-returns
unfolding listable body_extension extension_list
extension_list-returns t c = c.parenthesized_nonempty_list.ensures.goes c.args.left body_extension (search in_parentheses)
