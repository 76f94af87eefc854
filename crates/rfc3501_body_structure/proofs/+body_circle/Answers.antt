use Rattle.std.proofs.Common.{rules, Err, ◌≡◌}
use mathlib.Core.Path.{refl}
use native.Mathlib.Omega.{arith}
use Rattle.table.specs.declared.Failure.TheVariants.{Refused}
use Rattle.grammar.specs.Grammar.{ref, a_body}
use Rattle.grammar.specs.Notation.{sp, many1, paren_delimited}
use Rattle.grammar.specs.Core.{number, string}
use Rattle.grammar.specs.BodyStructure.{message_fields, body_type_text, body_type_message, body_type_multipart}
use Rattle.table.proofs.Cursors.{went_on, came_back, handed_back}
use Rattle.table.proofs.Bounds.{paid, leaves_of, within_read}
use Rattle.table.proofs.Depth.{plain, at_depth}
use Rattle.table.proofs.Going.{and, early, ◌▸◌, ◌▸▸◌}
use Rattle.table.proofs.Levels.{none_left}
use Rattle.table.proofs.Lines.{first_link, named_stands, ended_skims, early_back, from_cursor, skims_from_cursor, levels_lines}
use Rattle.table.proofs.Listable.{listable}
use Rattle.table.proofs.Opens.{hungry}
use Rattle.table.proofs.Search.{reads, structure, passed, first_plain, spare_after}
use Rattle.rfc3501_body_structure.proofs.First.{body_done, types_text, types_message, types_basic, types_multipart}
use Rattle.rfc3501_body_structure.proofs.+body_circle.Goals as goal

pub body-returns-then-left-eq0 : goal.body-returns-then-left-eq0
body-returns-then-left-eq0 t c = none_left c.if-left-eq0.true (skims_from_cursor (went_on c.branch-c.ensures c.in_ok-c.is) c.too_deep.ensures)

pub body-head-requires-clause-within : goal.body-head-requires-clause-within
body-head-requires-clause-within t c = within_read refl c.body_inside-r.ensures

pub body-returns : goal.body-returns
body-returns t c = body_done c.if-left-eq0.false (went_on c.branch-c.ensures c.in_ok-c.is) (from_cursor (went_on c.branch-c.ensures c.in_ok-c.is) c.body_inside-r.ensures) c.head.ensures

pub body_inside-returns-in_err-c : goal.body_inside-returns-in_err-c
unfolding plain first_link paren_delimited
body_inside-returns-in_err-c t c = ended_skims _ tt c.char.ensures (came_back c.branch-c.ensures c.in_err-c.is) (handed_back c.from_residual.ensures)

pub body_inside-returns : goal.body_inside-returns
unfolding plain paren_delimited
body_inside-returns t c = search levels_lines

pub body_types-returns-then-s-c : goal.body_types-returns-then-s-c
unfolding hungry body_type_text
body_types-returns-then-s-c t c = search reads

pub body_types-returns-then-s-c-eq-BODY_OPENS : goal.body_types-returns-then-s-c-eq-BODY_OPENS
body_types-returns-then-s-c-eq-BODY_OPENS t c = types_multipart refl (omega arith) c.if-s-c-eq-BODY_OPENS.true c.body_type_multipart.ensures

pub body_types-returns-in_default : goal.body_types-returns-in_default
body_types-returns-in_default t c = let other : c.body_type_text-r.result ≡ Err Refused → ⊥ = (λ e. grind rules) in types_text c.body_type_text-r.ensures other

pub body_types-returns-in_default-2 : goal.body_types-returns-in_default-2
body_types-returns-in_default-2 t c = let other : c.body_type_text-r.result ≡ Err Refused → ⊥ = (λ e. grind rules) in types_text c.body_type_text-r.ensures other

pub body_types-returns-in_default-r : goal.body_types-returns-in_default-r
body_types-returns-in_default-r t c = let no_text : c.body_type_text-r.result ≡ Err Refused = grind rules in let other : c.body_type_message-r.result ≡ Err Refused → ⊥ = (λ e. grind rules) in types_message c.body_type_message-r.ensures other c.body_type_text-r.ensures no_text

pub body_types-returns-in_default-r-2 : goal.body_types-returns-in_default-r-2
body_types-returns-in_default-r-2 t c = let no_text : c.body_type_text-r.result ≡ Err Refused = grind rules in let other : c.body_type_message-r.result ≡ Err Refused → ⊥ = (λ e. grind rules) in types_message c.body_type_message-r.ensures other c.body_type_text-r.ensures no_text

pub body_types-returns : goal.body_types-returns
body_types-returns t c = let no_text : c.body_type_text-r.result ≡ Err Refused = grind rules in let no_message : c.body_type_message-r.result ≡ Err Refused = grind rules in types_basic refl (omega arith) c.if-s-c-eq-BODY_OPENS.false c.body_type_text-r.ensures no_text c.body_type_message-r.ensures no_message c.body_type_basic.ensures

pub body_type_message-returns : goal.body_type_message-returns
unfolding paid body_type_message
body_type_message-returns t c = search structure

pub message_body-returns-in_err-c : goal.message_body-returns-in_err-c
unfolding plain number sp message_fields
message_body-returns-in_err-c t c = early_back (early (early (early (early (first_plain tt c.message_fields.ensures) (came_back c.branch-c.ensures c.in_err-c.is)) refl) refl) refl) refl (handed_back c.from_residual.ensures)

pub message_body-returns-in_err-c-2 : goal.message_body-returns-in_err-c-2
unfolding plain number sp message_fields
message_body-returns-in_err-c-2 t c = early_back (early (early (first_plain tt c.message_fields.ensures ▸▸ from_cursor (went_on c.branch-c.ensures c.in_ok-c.is) c.sp_body.ensures) (came_back c.branch-c-2.ensures c.in_err-c-2.is)) refl) refl (handed_back c.from_residual-in_err-c-2.ensures)

pub message_body-returns-in_err-c-3 : goal.message_body-returns-in_err-c-3
unfolding plain number sp message_fields
message_body-returns-in_err-c-3 t c = early_back (first_plain tt c.message_fields.ensures ▸▸ from_cursor (went_on c.branch-c.ensures c.in_ok-c.is) c.sp_body.ensures ▸▸ from_cursor (went_on c.branch-c-2.ensures c.in_ok-c-2.is) (first_plain tt c.sp_number.ensures)) (came_back c.branch-c-3.ensures c.in_err-c-3.is) (handed_back c.from_residual-in_err-c-3.ensures)

pub message_body-body_ext_1part-requires : goal.message_body-body_ext_1part-requires
unfolding leaves_of sp number
message_body-body_ext_1part-requires t c = named_stands (went_on c.branch-c-3.ensures c.in_ok-c-3.is) (spare_after c.sp_number.ensures (named_stands (went_on c.branch-c-2.ensures c.in_ok-c-2.is) c.sp_body.ensures.stands) tt)

pub message_body-returns : goal.message_body-returns
unfolding plain sp number message_fields
message_body-returns t c = first_plain tt c.message_fields.ensures ▸▸ from_cursor (went_on c.branch-c.ensures c.in_ok-c.is) c.sp_body.ensures ▸▸ from_cursor (went_on c.branch-c-2.ensures c.in_ok-c-2.is) (first_plain tt c.sp_number.ensures) ▸ from_cursor (went_on c.branch-c-3.ensures c.in_ok-c-3.is) c.body_ext_1part.ensures

pub sp_body-returns-in_err-c : goal.sp_body-returns-in_err-c
unfolding plain first_link sp
sp_body-returns-in_err-c t c = ended_skims _ tt c.char.ensures (came_back c.branch-c.ensures c.in_err-c.is) (handed_back c.from_residual.ensures)

pub sp_body-returns : goal.sp_body-returns
unfolding plain sp
sp_body-returns t c = and (at_depth _ tt (c.char.ensures.on _)) (from_cursor (went_on c.branch-c.ensures c.in_ok-c.is) c.body.ensures)

pub body_type_multipart-returns : goal.body_type_multipart-returns
unfolding paid body_type_multipart
body_type_multipart-returns t c = search structure

pub multipart_fields-returns-in_err-c : goal.multipart_fields-returns-in_err-c
multipart_fields-returns-in_err-c t c = early_back (early (early c.bodies.ensures (came_back c.branch-c.ensures c.in_err-c.is)) refl) refl (handed_back c.from_residual.ensures)

pub multipart_fields-body_ext_mpart-requires : goal.multipart_fields-body_ext_mpart-requires
unfolding leaves_of sp string
multipart_fields-body_ext_mpart-requires t c = spare_after c.sp_string-r.ensures (named_stands (went_on c.branch-c.ensures c.in_ok-c.is) c.bodies.ensures.stands) tt

pub multipart_fields-returns : goal.multipart_fields-returns
unfolding plain sp string
multipart_fields-returns t c = c.bodies.ensures ▸▸ from_cursor (went_on c.branch-c.ensures c.in_ok-c.is) (first_plain tt c.sp_string-r.ensures) ▸ c.body_ext_mpart.ensures

pub bodies-items-requires-clause-lists : goal.bodies-items-requires-clause-lists
unfolding listable
bodies-items-requires-clause-lists t c = (c.args.left, (ref a_body, ref a_body), search passed)

pub bodies-returns : goal.bodies-returns
unfolding listable many1
bodies-returns t c = c.items.ensures.goes c.args.left (ref a_body, ref a_body) (search passed)
