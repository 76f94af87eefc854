-- Each function's measure: the levels that are left, and within a level the order of the calls.
use Rattle.std.proofs.Common.{◌+◌, ◌*◌}
use Rattle.rfc3501_extension.proofs.+extension_circle.Given as goal

abbrev pub decreases-extension_from : goal.decreases-extension_from
decreases-extension_from l = 10 * l.left + 1

abbrev pub decreases-extension : goal.decreases-extension
decreases-extension l = 10 * l.left + 2

abbrev pub decreases-extension_list-parenthesized_nonempty_list : goal.decreases-extension_list-parenthesized_nonempty_list
decreases-extension_list-parenthesized_nonempty_list l = 10 * l.left + 4

abbrev pub decreases-extension_list : goal.decreases-extension_list
decreases-extension_list l = 10 * l.left + 8
