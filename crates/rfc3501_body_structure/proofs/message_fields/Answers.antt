use Rattle.grammar.specs.Notation.{sp}
use Rattle.grammar.specs.BodyStructure.{message_fields}
use mathlib.Core.Path.{refl}
use Rattle.table.proofs.Cursors.{went_on, came_back, handed_back}
use Rattle.table.proofs.Depth.{plain}
use Rattle.table.proofs.Going.{◌▸▸◌, ◌▸◌, ◌▹◌, early}
use Rattle.table.proofs.Lines.{first_link, ended_skims, early_back, from_cursor, skims_from_cursor}
use Rattle.table.proofs.Search.{first_plain_skims}
use Rattle.rfc3501_body_structure.proofs.message_fields.Goals as goal

pub returns-in_err-c : goal.returns-in_err-c
unfolding plain first_link message_fields
returns-in_err-c c = ended_skims _ tt c.tag_no_case.ensures (came_back c.branch-c.ensures c.in_err-c.is) (handed_back c.from_residual.ensures)

pub returns-in_err-c-2 : goal.returns-in_err-c-2
unfolding plain sp message_fields
returns-in_err-c-2 c =
    early_back (early
    (first_plain_skims tt c.tag_no_case.ensures ▸▸ from_cursor (went_on c.branch-c.ensures c.in_ok-c.is) c.sp_body_fields.ensures)
    (came_back c.branch-c-2.ensures c.in_err-c-2.is)) refl (handed_back c.from_residual-in_err-c-2.ensures)

pub returns-in_err-c-3 : goal.returns-in_err-c-3
unfolding plain sp message_fields
returns-in_err-c-3 c =
    early_back
    (first_plain_skims tt c.tag_no_case.ensures ▸▸ from_cursor (went_on c.branch-c.ensures c.in_ok-c.is) c.sp_body_fields.ensures
    ▹ skims_from_cursor (went_on c.branch-c-2.ensures c.in_ok-c-2.is) c.char.ensures)
    (came_back c.branch-c-3.ensures c.in_err-c-3.is) (handed_back c.from_residual-in_err-c-3.ensures)

pub returns : goal.returns
unfolding plain sp message_fields
returns c =
    first_plain_skims tt c.tag_no_case.ensures ▸▸ from_cursor (went_on c.branch-c.ensures c.in_ok-c.is) c.sp_body_fields.ensures
    ▹ skims_from_cursor (went_on c.branch-c-2.ensures c.in_ok-c-2.is) c.char.ensures
    ▸ from_cursor (went_on c.branch-c-3.ensures c.in_ok-c-3.is) c.envelope.ensures
