-- Each function's measure: the levels that are left, and within a level the order of the calls.
use Rattle.std.proofs.Common.{◌+◌, ◌*◌}
use Rattle.rfc3501_body_structure.proofs.+body_circle.Given as goal

abbrev pub decreases-body : goal.decreases-body
decreases-body l = 10 * l.left + 1

abbrev pub decreases-bodies-item : goal.decreases-bodies-item
decreases-bodies-item l = 10 * l.left + 2

abbrev pub decreases-sp_body : goal.decreases-sp_body
decreases-sp_body l = 10 * l.left + 3

abbrev pub decreases-bodies : goal.decreases-bodies
decreases-bodies l = 10 * l.left + 3

abbrev pub decreases-message_body : goal.decreases-message_body
decreases-message_body l = 10 * l.left + 4

abbrev pub decreases-multipart_fields : goal.decreases-multipart_fields
decreases-multipart_fields l = 10 * l.left + 4

abbrev pub decreases-body_type_message : goal.decreases-body_type_message
decreases-body_type_message l = 10 * l.left + 6

abbrev pub decreases-body_type_multipart : goal.decreases-body_type_multipart
decreases-body_type_multipart l = 10 * l.left + 6

abbrev pub decreases-body_types : goal.decreases-body_types
decreases-body_types l = 10 * l.left + 7

abbrev pub decreases-body_inside : goal.decreases-body_inside
decreases-body_inside l = 10 * l.left + 8
