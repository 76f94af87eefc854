use borrow.Author.Rules.{rules}
use native.Mathlib.Omega.{arith}
use Rattle.grammar.specs.Rules.{rule}
use Rattle.grammar.specs.Reading.{deepest_level}
use Rattle.table.proofs.Depth.{plain, at_depth}
use Rattle.table.proofs.Whole.{stands_first, stands_one}
use Rattle.reader.proofs.once.Goals as goal

pub number-requires : goal.number-requires
unfolding rule plain
number-requires c = search (stands_first, rules)

pub number_64-requires : goal.number_64-requires
unfolding rule plain
number_64-requires c = search (stands_first, rules)

pub quoted-requires : goal.quoted-requires
unfolding rule plain
quoted-requires c = search (stands_first, rules)

pub literal-requires : goal.literal-requires
unfolding rule plain
literal-requires c = search (stands_first, rules)

pub string-requires : goal.string-requires
unfolding rule plain
string-requires c = search (stands_first, rules)

pub astring-requires : goal.astring-requires
unfolding rule plain
astring-requires c = search (stands_first, rules)

pub nstring-requires : goal.nstring-requires
unfolding rule plain
nstring-requires c = search (stands_first, rules)

pub text-requires : goal.text-requires
unfolding rule plain
text-requires c = search (stands_one, rules)

pub sequence_set-requires : goal.sequence_set-requires
unfolding rule plain
sequence_set-requires c = search (stands_first, rules)

pub uid_set-requires : goal.uid_set-requires
unfolding rule plain
uid_set-requires c = search (stands_first, rules)

pub section-requires : goal.section-requires
unfolding rule plain
section-requires c = search (stands_first, rules)

pub entry_name-requires : goal.entry_name-requires
unfolding rule plain
entry_name-requires c = search (stands_first, rules)

pub envelope-requires : goal.envelope-requires
unfolding rule plain
envelope-requires c = search (stands_first, rules)

pub body-requires : goal.body-requires
unfolding rule plain
body-requires c = search (stands_first, rules)

pub resp_text_code_append_uid-requires : goal.resp_text_code_append_uid-requires
unfolding rule plain
resp_text_code_append_uid-requires c = search (stands_first, rules)

pub resp_text_code_copy_uid-requires : goal.resp_text_code_copy_uid-requires
unfolding rule plain
resp_text_code_copy_uid-requires c = search (stands_first, rules)

pub resp_text_code_uid_not_sticky-requires : goal.resp_text_code_uid_not_sticky-requires
unfolding rule plain
resp_text_code_uid_not_sticky-requires c = search (stands_first, rules)

pub resp_vanished-requires : goal.resp_vanished-requires
unfolding rule plain
resp_vanished-requires c = search (stands_first, rules)

pub resp_text_code_highest_mod_seq-requires : goal.resp_text_code_highest_mod_seq-requires
unfolding rule plain
resp_text_code_highest_mod_seq-requires c = search (stands_first, rules)

pub msg_att_mod_seq-requires : goal.msg_att_mod_seq-requires
unfolding rule plain
msg_att_mod_seq-requires c = search (stands_first, rules)

pub msg_att_body_section-requires : goal.msg_att_body_section-requires
unfolding rule plain
msg_att_body_section-requires c = search (stands_first, rules)

pub metadata_solicited-requires : goal.metadata_solicited-requires
unfolding rule plain
metadata_solicited-requires c = search (stands_first, rules)

pub metadata_unsolicited-requires : goal.metadata_unsolicited-requires
unfolding rule plain
metadata_unsolicited-requires c = search (stands_first, rules)

pub msg_att_envelope-requires : goal.msg_att_envelope-requires
unfolding rule plain
msg_att_envelope-requires c = search (stands_first, rules)

pub msg_att_body_structure-requires : goal.msg_att_body_structure-requires
unfolding rule plain
msg_att_body_structure-requires c = search (stands_first, rules)

pub returns-in-1 : goal.returns-in-1
unfolding rule plain
returns-in-1 c = rw c.in-1.is (at_depth deepest_level tt c.number.ensures)

pub returns-in-2 : goal.returns-in-2
unfolding rule plain
returns-in-2 c = rw c.in-2.is (at_depth deepest_level tt c.number_64.ensures)

pub returns-in-3 : goal.returns-in-3
unfolding rule plain
returns-in-3 c = rw c.in-3.is (at_depth deepest_level tt c.quoted.ensures)

pub returns-in-4 : goal.returns-in-4
unfolding rule plain
returns-in-4 c = rw c.in-4.is (at_depth deepest_level tt c.literal.ensures)

pub returns-in-5 : goal.returns-in-5
unfolding rule plain
returns-in-5 c = rw c.in-5.is (at_depth deepest_level tt c.string.ensures)

pub returns-in-6 : goal.returns-in-6
unfolding rule plain
returns-in-6 c = rw c.in-6.is (at_depth deepest_level tt c.astring.ensures)

pub returns-in-7 : goal.returns-in-7
unfolding rule plain
returns-in-7 c = rw c.in-7.is (at_depth deepest_level tt c.nstring.ensures)

pub returns-in-8 : goal.returns-in-8
unfolding rule plain
returns-in-8 c = rw c.in-8.is (at_depth deepest_level tt c.text.ensures)

pub returns-in-9 : goal.returns-in-9
unfolding rule plain
returns-in-9 c = rw c.in-9.is (at_depth deepest_level tt c.sequence_set.ensures)

pub returns-in-10 : goal.returns-in-10
unfolding rule plain
returns-in-10 c = rw c.in-10.is (at_depth deepest_level tt c.uid_set.ensures)

pub returns-in-11 : goal.returns-in-11
unfolding rule plain
returns-in-11 c = rw c.in-11.is (at_depth deepest_level tt c.section.ensures)

pub returns-in-12 : goal.returns-in-12
unfolding rule plain
returns-in-12 c = rw c.in-12.is (at_depth deepest_level tt c.entry_name.ensures)

pub returns-in-13 : goal.returns-in-13
unfolding rule plain
returns-in-13 c = rw c.in-13.is (at_depth deepest_level tt c.envelope.ensures)

pub returns-in-14 : goal.returns-in-14
unfolding rule plain
returns-in-14 c = rw c.in-14.is c.body.ensures

pub returns-in-15 : goal.returns-in-15
unfolding rule plain
returns-in-15 c = rw c.in-15.is (at_depth deepest_level tt c.resp_text_code_append_uid.ensures)

pub returns-in-16 : goal.returns-in-16
unfolding rule plain
returns-in-16 c = rw c.in-16.is (at_depth deepest_level tt c.resp_text_code_copy_uid.ensures)

pub returns-in-17 : goal.returns-in-17
unfolding rule plain
returns-in-17 c = rw c.in-17.is (at_depth deepest_level tt c.resp_text_code_uid_not_sticky.ensures)

pub returns-in-18 : goal.returns-in-18
unfolding rule plain
returns-in-18 c = rw c.in-18.is (at_depth deepest_level tt c.resp_vanished.ensures)

pub returns-in-19 : goal.returns-in-19
unfolding rule plain
returns-in-19 c = rw c.in-19.is (at_depth deepest_level tt c.resp_text_code_highest_mod_seq.ensures)

pub returns-in-20 : goal.returns-in-20
unfolding rule plain
returns-in-20 c = rw c.in-20.is (at_depth deepest_level tt c.msg_att_mod_seq.ensures)

pub returns-in-21 : goal.returns-in-21
unfolding rule plain
returns-in-21 c = rw c.in-21.is (at_depth deepest_level tt c.msg_att_body_section.ensures)

pub returns-in-22 : goal.returns-in-22
unfolding rule plain
returns-in-22 c = rw c.in-22.is (at_depth deepest_level tt c.metadata_solicited.ensures)

pub returns-in-23 : goal.returns-in-23
unfolding rule plain
returns-in-23 c = rw c.in-23.is (at_depth deepest_level tt c.metadata_unsolicited.ensures)

pub returns-in-24 : goal.returns-in-24
unfolding rule plain
returns-in-24 c = rw c.in-24.is (at_depth deepest_level tt c.msg_att_envelope.ensures)

pub returns-in-25 : goal.returns-in-25
unfolding rule plain
returns-in-25 c = rw c.in-25.is c.msg_att_body_structure.ensures

pub returns-in_default : goal.returns-in_default
unfolding rule plain
returns-in_default c = absurd (omega (arith, c.requires.known_rule.0, c.requires.known_rule.1))
