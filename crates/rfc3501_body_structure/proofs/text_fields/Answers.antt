use Rattle.grammar.specs.Notation.{sp}
use Rattle.grammar.specs.Core.{string, number}
use Rattle.grammar.specs.BodyStructure.{body_fields}
use mathlib.Core.Path.{refl}
use Rattle.table.proofs.Cursors.{went_on, came_back, handed_back}
use Rattle.table.proofs.Bounds.{leaves_of}
use Rattle.table.proofs.Depth.{plain}
use Rattle.table.proofs.Going.{◌▸▸◌, ◌▸◌, early}
use Rattle.table.proofs.Lines.{first_link, ended_skims, early_back, from_cursor, named_stands}
use Rattle.table.proofs.Search.{first_plain, first_plain_skims, spare_after}
use Rattle.rfc3501_body_structure.proofs.text_fields.Goals as goal

pub returns-in_err-c : goal.returns-in_err-c
unfolding plain first_link sp
returns-in_err-c c = ended_skims _ tt c.tag_no_case.ensures (came_back c.branch-c.ensures c.in_err-c.is) (handed_back c.from_residual.ensures)

pub returns-in_err-c-2 : goal.returns-in_err-c-2
unfolding plain sp string number body_fields
returns-in_err-c-2 c =
    early_back (early (early (early (early
    (first_plain_skims tt c.tag_no_case.ensures ▸▸ from_cursor (went_on c.branch-c.ensures c.in_ok-c.is) (first_plain tt c.sp_string.ensures))
    (came_back c.branch-c-2.ensures c.in_err-c-2.is)) refl) refl) refl) refl (handed_back c.from_residual-in_err-c-2.ensures)

pub returns-in_err-c-3 : goal.returns-in_err-c-3
unfolding plain sp string number body_fields
returns-in_err-c-3 c =
    early_back (early (early
    (first_plain_skims tt c.tag_no_case.ensures ▸▸ from_cursor (went_on c.branch-c.ensures c.in_ok-c.is) (first_plain tt c.sp_string.ensures)
    ▸▸ from_cursor (went_on c.branch-c-2.ensures c.in_ok-c-2.is) (first_plain tt c.sp_body_fields.ensures))
    (came_back c.branch-c-3.ensures c.in_err-c-3.is)) refl) refl (handed_back c.from_residual-in_err-c-3.ensures)

pub returns-in_err-c-4 : goal.returns-in_err-c-4
unfolding plain sp string number body_fields
returns-in_err-c-4 c =
    early_back
    (first_plain_skims tt c.tag_no_case.ensures ▸▸ from_cursor (went_on c.branch-c.ensures c.in_ok-c.is) (first_plain tt c.sp_string.ensures)
    ▸▸ from_cursor (went_on c.branch-c-2.ensures c.in_ok-c-2.is) (first_plain tt c.sp_body_fields.ensures)
    ▸▸ from_cursor (went_on c.branch-c-3.ensures c.in_ok-c-3.is) (first_plain tt c.sp_number.ensures))
    (came_back c.branch-c-4.ensures c.in_err-c-4.is) (handed_back c.from_residual-in_err-c-4.ensures)

pub body_ext_1part-requires : goal.body_ext_1part-requires
unfolding leaves_of sp number
body_ext_1part-requires c =
    named_stands (went_on c.branch-c-4.ensures c.in_ok-c-4.is)
    (spare_after c.sp_number.ensures (named_stands (went_on c.branch-c-3.ensures c.in_ok-c-3.is) c.sp_body_fields.ensures.stands) tt)

pub returns : goal.returns
unfolding plain sp string number body_fields
returns c =
    first_plain_skims tt c.tag_no_case.ensures ▸▸ from_cursor (went_on c.branch-c.ensures c.in_ok-c.is) (first_plain tt c.sp_string.ensures)
    ▸▸ from_cursor (went_on c.branch-c-2.ensures c.in_ok-c-2.is) (first_plain tt c.sp_body_fields.ensures)
    ▸▸ from_cursor (went_on c.branch-c-3.ensures c.in_ok-c-3.is) (first_plain tt c.sp_number.ensures)
    ▸ from_cursor (went_on c.branch-c-4.ensures c.in_ok-c-4.is) c.body_ext_1part.ensures
