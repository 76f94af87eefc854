-- Worked examples of the RFCs, computed: what each rule finds in the bytes that the RFCs print, and in the nearest wrong ones.
-- Where an RFC folds an example over lines, the lines are joined by one space; what follows an item in the RFC's line, a
-- bracket, a parenthesis or CR, stands here too. The longer lines stand in specs/Examples.antt.
-- A comment behind a bytes node is the text between its two places.
use Rattle.std.specs.Prelude.{◌≡◌, refl}
use Rattle.grammar.specs.Text.{ascii}
use Rattle.grammar.specs.Kinds.{kind_number, kind_range, kind_uid, kind_bytes, kind_nil, kind_list}
use Rattle.grammar.specs.Kinds.{kind_section_text, kind_encoding, kind_envelope, kind_address, kind_basic, kind_text}
use Rattle.grammar.specs.Kinds.{kind_message, kind_multipart, kind_disposition, kind_pair, kind_section_part}
use Rattle.grammar.specs.Kinds.{kind_body_item, kind_appenduid, kind_copyuid, kind_uidnotsticky, kind_vanished}
use Rattle.grammar.specs.Kinds.{kind_vanished_earlier, kind_metadata}
use Rattle.grammar.specs.Forest.{node_of}
use Rattle.grammar.specs.Out.{took, more, refused, deep}
use Rattle.grammar.specs.Reading.{reading, deepest_level}
use Rattle.grammar.specs.Samples.{computing}
use Rattle.grammar.specs.Examples.{◌&◌, over, number, absent, no_tail, body_header_line, terry_gray, envelope_line, envelope_tight}
use Rattle.grammar.specs.Examples.{single_line, two_part_line, tail_line, message_line, nested, nested_line, metadata_line, filters_line}

-- strings and sets: RFC 3501 section 9, RFC 4315 section 4 ----------------------------------------------------------

-- nstring = string / nil
pub nil_is_no_string : reading deepest_level 7 (ascii "NIL)") ≡ took 3 (node_of kind_nil 0 3)
unfolding computing
nil_is_no_string = refl

-- letters of either case
pub nil_in_any_case : reading deepest_level 7 (ascii "nil ") ≡ took 3 (node_of kind_nil 0 3)
unfolding computing
nil_in_any_case = refl

-- the three letters in quotes are a string
pub quoted_nil_is_a_string : reading deepest_level 7 (ascii "\"NIL\"") ≡ took 5 (node_of kind_bytes 1 4)
unfolding computing
quoted_nil_is_a_string = refl

-- QUOTED-CHAR: a backslash stands before a quote or a backslash, and before nothing else
pub wrong_escape : reading deepest_level 3 (ascii "\"a\\bc\"") ≡ refused
unfolding computing
wrong_escape = refl

-- and what it stands before has to be seen
pub escape_at_the_end : reading deepest_level 3 (ascii "\"a\\") ≡ more 0
unfolding computing
escape_at_the_end = refl

-- TEXT-CHAR shuts out CR and LF
pub no_line_end_in_quotes : reading deepest_level 3 (ascii "\"a\r\n\"") ≡ refused
unfolding computing
no_line_end_in_quotes = refl

-- "a message sequence number set of 2,4:7,9,12:* for a mailbox with 15 messages": `*` is not read, and the set ends
-- before the colon
pub set_with_star :
    reading deepest_level 9 (ascii "2,4:7,9,12:* ") ≡
    took 10
    (over kind_list 4 0
    (node_of kind_range 2 2 & node_of kind_range 4 7 & node_of kind_range 9 9 & node_of kind_range 12 12))
unfolding computing
set_with_star = refl

-- "a message sequence number set of *:4,5:7"
pub set_from_star : reading deepest_level 9 (ascii "*:4,5:7 ") ≡ refused
unfolding computing
set_from_star = refl

-- "2:4 and 4:2 are equivalent": the smaller first
pub uid_range : reading deepest_level 10 (ascii "2:4 ") ≡ took 3 (over kind_list 1 0 (node_of kind_range 2 4))
unfolding computing
uid_range = refl

-- the same node
pub uid_range_backwards :
    reading deepest_level 10 (ascii "4:2 ") ≡
    took 3 (over kind_list 1 0 (node_of kind_range 2 4))
unfolding computing
uid_range_backwards = refl

-- sections and BODY items: RFC 3501 sections 6.4.5 and 8 ------------------------------------------------------------

-- section 6.4.5: part specifiers of a complex message
pub section_of_numbers :
    reading deepest_level 11 (ascii "[4.2.2.1]") ≡
    took 9 (over kind_section_part 1 8 (over kind_list 4 0 (number 4 & number 2 & number 2 & number 1) & absent))
unfolding computing
section_of_numbers = refl

-- 4.1.MIME
pub section_mime :
    reading deepest_level 11 (ascii "[4.1.MIME]") ≡
    took 10 (over kind_section_part 1 9 (over kind_list 2 0 (number 4 & number 1) & node_of kind_section_text 2 0))
unfolding computing
section_mime = refl

-- 4.2.HEADER
pub section_header :
    reading deepest_level 11 (ascii "[4.2.HEADER]") ≡
    took 12 (over kind_section_part 1 11 (over kind_list 2 0 (number 4 & number 2) & node_of kind_section_text 1 0))
unfolding computing
section_header = refl

-- BODY[]: the whole message, no section named
pub section_empty : reading deepest_level 11 (ascii "[] ") ≡ took 2 (absent)
unfolding computing
section_empty = refl

-- section 6.4.5: FETCH 2:4 (FLAGS BODY[HEADER.FIELDS (DATE FROM)]); the names are not kept
pub section_header_fields :
    reading deepest_level 11 (ascii "[HEADER.FIELDS (DATE FROM)]") ≡
    took 27 (node_of kind_section_text 1 0)
unfolding computing
section_header_fields = refl

-- without its list it is no section, and HEADER alone is not followed by a bracket
pub section_fields_without_a_list : reading deepest_level 11 (ascii "[HEADER.FIELDS]") ≡ refused
unfolding computing
section_fields_without_a_list = refl

-- a plain list takes one space before its parenthesis
pub section_fields_one_blank :
    reading deepest_level 11 (ascii "[HEADER.FIELDS (A )]") ≡
    took 20 (node_of kind_section_text 1 0)
unfolding computing
section_fields_one_blank = refl

-- and not two
pub section_fields_two_blanks : reading deepest_level 11 (ascii "[HEADER.FIELDS (A  )]") ≡ refused
unfolding computing
section_fields_two_blanks = refl

-- section HEADER, no index, and the 342 bytes of the literal
pub body_header :
    reading deepest_level 21 body_header_line ≡
    took 362
    (over kind_body_item 0 362
    (node_of kind_section_text 1 0
    & absent
    & node_of kind_bytes 20 362))  -- Date: Wed, 17 Jul 19 ...
unfolding computing
body_header = refl

-- section 6.4.5: "BODY[]<0> with a literal of size 1500, not BODY[]", of which nothing has come yet
pub body_from_an_octet : reading deepest_level 21 (ascii "BODY[]<0> {1500}\r\n") ≡ more 1500
unfolding computing
body_from_an_octet = refl

-- nstring: a part that is not there
pub body_nil :
    reading deepest_level 21 (ascii "BODY[2]<100> NIL)") ≡
    took 16
    (over kind_body_item 0 16
    (over kind_section_part 5 6 (over kind_list 1 0 (number 2) & absent)
    & number 100 & node_of kind_nil 13 16))
unfolding computing
body_nil = refl

-- ENVELOPE: RFC 3501 section 8 --------------------------------------------------------------------------------------

-- date, subject, from, sender, reply-to, to, cc, bcc, in-reply-to, message-id
pub envelope_example :
    reading deepest_level 24 envelope_line ≡
    took 405
    (over kind_envelope 9 405
    (node_of kind_bytes 11 48  -- Wed, 17 Jul 1996 02:23:25 -0700 (PDT)
    & node_of kind_bytes 51 87  -- IMAP4rev1 WG mtg summary and minutes
    & over kind_list 1 0 (terry_gray 90)
    & over kind_list 1 0 (terry_gray 139)
    & over kind_list 1 0 (terry_gray 188)
    & over kind_list 1 0
    (over kind_address 237 274
    (node_of kind_nil 238 241 & node_of kind_nil 242 245
    & node_of kind_bytes 247 251  -- imap
    & node_of kind_bytes 254 272))  -- cac.washington.edu
    & over kind_list 2 0
    (over kind_address 277 316
    (node_of kind_nil 278 281 & node_of kind_nil 282 285
    & node_of kind_bytes 287 294  -- minutes
    & node_of kind_bytes 297 314)  -- CNRI.Reston.VA.US
    & over kind_address 317 357
    (node_of kind_bytes 319 331  -- John Klensin
    & node_of kind_nil 333 336
    & node_of kind_bytes 338 345  -- KLENSIN
    & node_of kind_bytes 348 355))  -- MIT.EDU
    & node_of kind_nil 359 362 & node_of kind_nil 363 366
    & node_of kind_bytes 368 403))  -- <B27397-0100000@cac.washington.edu>
unfolding computing
envelope_example = refl

-- the same ten fields
pub envelope_tight_example :
    reading deepest_level 13 envelope_tight ≡
    took 74
    (over kind_envelope 0 74
    (node_of kind_nil 1 4 & node_of kind_nil 5 8 & node_of kind_nil 9 12 & node_of kind_nil 13 16
    & node_of kind_nil 17 20
    & over kind_list 2 0
    (over kind_address 22 39
    (node_of kind_nil 23 26 & node_of kind_nil 27 30
    & node_of kind_bytes 32 33  -- a
    & node_of kind_bytes 36 37)  -- b
    & over kind_address 39 56
    (node_of kind_nil 40 43 & node_of kind_nil 44 47
    & node_of kind_bytes 49 50  -- c
    & node_of kind_bytes 53 54))  -- d
    & node_of kind_nil 58 61 & node_of kind_nil 62 65 & node_of kind_nil 66 69 & node_of kind_nil 70 73))
unfolding computing
envelope_tight_example = refl

-- ten fields, not nine
pub envelope_of_nine : reading deepest_level 13 (ascii "(NIL NIL NIL NIL NIL NIL NIL NIL NIL)") ≡ refused
unfolding computing
envelope_of_nine = refl

-- a line cut within its last field
pub envelope_cut : reading deepest_level 13 (ascii "(NIL NIL NIL NIL NIL NIL NIL NIL NIL NI") ≡ more 0
unfolding computing
envelope_cut = refl

-- BODYSTRUCTURE: RFC 3501 section 7.4.2 -----------------------------------------------------------------------------

-- subtype, parameters, id, description, encoding, octets, lines, and no tail
pub single_part :
    reading deepest_level 25 single_line ≡
    took 76
    (over kind_text 14 76
    (node_of kind_bytes 23 28  -- PLAIN
    & over kind_list 1 0
    (over kind_pair 31 51 (node_of kind_bytes 32 39 & node_of kind_bytes 42 50))  -- CHARSET, US-ASCII
    & node_of kind_nil 53 56 & node_of kind_nil 57 60 & node_of kind_encoding 1 0 & number 2279 & number 48
    & no_tail))
unfolding computing
single_part = refl

-- the bodies as one list, the subtype, and no tail
pub two_parts :
    reading deepest_level 14 two_part_line ≡
    took 204
    (over kind_multipart 0 204
    (over kind_list 2 0
    (over kind_text 1 63
    (node_of kind_bytes 10 15  -- PLAIN
    & over kind_list 1 0
    (over kind_pair 18 38 (node_of kind_bytes 19 26 & node_of kind_bytes 29 37))  -- CHARSET, US-ASCII
    & node_of kind_nil 40 43 & node_of kind_nil 44 47 & node_of kind_encoding 1 0 & number 1152
    & number 23
    & no_tail)
    & over kind_text 63 195
    (node_of kind_bytes 72 77  -- PLAIN
    & over kind_list 2 0
    (over kind_pair 80 100 (node_of kind_bytes 81 88 & node_of kind_bytes 91 99)  -- CHARSET, US-ASCII
    & over kind_pair 101 117 (node_of kind_bytes 102 106 & node_of kind_bytes 109 116))  -- NAME, cc.diff
    & node_of kind_bytes 120 160  -- <960723163407.20117h@cac.washington.edu>
    & node_of kind_bytes 163 176  -- Compiler diff
    & node_of kind_encoding 4 0 & number 4554 & number 73
    & no_tail))
    & node_of kind_bytes 197 202  -- MIXED
    & no_tail))
unfolding computing
two_parts = refl

-- parameters, disposition, a language that is one string, location, extension
pub whole_tail :
    reading deepest_level 14 tail_line ≡
    took 110
    (over kind_multipart 0 110
    (over kind_list 1 0
    (over kind_basic 1 28
    (node_of kind_bytes 3 4  -- a
    & node_of kind_bytes 7 8  -- b
    & node_of kind_nil 10 13 & node_of kind_nil 14 17 & node_of kind_nil 18 21
    & node_of kind_bytes 23 24  -- x
    & number 1
    & no_tail))
    & node_of kind_bytes 30 35  -- MIXED
    & over kind_list 2 0
    (over kind_pair 38 49 (node_of kind_bytes 39 42 & node_of kind_bytes 45 48)  -- foo, bar
    & over kind_pair 50 61 (node_of kind_bytes 51 54 & node_of kind_bytes 57 60))  -- baz, rag
    & over kind_disposition 63 90
    (node_of kind_bytes 65 71  -- inline
    & over kind_list 1 0
    (over kind_pair 74 88 (node_of kind_bytes 75 83 & node_of kind_bytes 86 87)))  -- filename, f
    & over kind_list 1 0 (node_of kind_bytes 92 94)  -- en
    & node_of kind_bytes 97 100  -- loc
    & over kind_list 2 0 (number 1 & node_of kind_nil 105 108)))
unfolding computing
whole_tail = refl

-- five fields, envelope, body, lines, and no tail: a message has no child for its type and subtype
pub message_body :
    reading deepest_level 14 message_line ≡
    took 128
    (over kind_message 0 128
    (node_of kind_nil 20 23 & node_of kind_nil 24 27 & node_of kind_nil 28 31 & node_of kind_encoding 1 0
    & number 300
    & over kind_envelope 43 84
    (node_of kind_nil 44 47 & node_of kind_nil 48 51 & node_of kind_nil 52 55 & node_of kind_nil 56 59
    & node_of kind_nil 60 63 & node_of kind_nil 64 67 & node_of kind_nil 68 71 & node_of kind_nil 72 75
    & node_of kind_nil 76 79 & node_of kind_nil 80 83)
    & over kind_text 85 125
    (node_of kind_bytes 94 99  -- PLAIN
    & node_of kind_nil 101 104 & node_of kind_nil 105 108 & node_of kind_nil 109 112
    & node_of kind_encoding 2 0 & number 40 & number 2
    & no_tail)
    & number 9
    & no_tail))
unfolding computing
message_body = refl

-- a known encoding in any case; the fourth field behind type and subtype
pub encoding_in_any_case :
    reading deepest_level 14 (ascii "(\"A\" \"B\" NIL NIL NIL \"quoted-printable\" 1)") ≡
    took 42
    (over kind_basic 0 42
    (node_of kind_bytes 2 3  -- A
    & node_of kind_bytes 6 7  -- B
    & node_of kind_nil 9 12 & node_of kind_nil 13 16 & node_of kind_nil 17 20 & node_of kind_encoding 5 0
    & number 1
    & no_tail))
unfolding computing
encoding_in_any_case = refl

-- a longer word is a string
pub encoding_of_another_name :
    reading deepest_level 14 (ascii "(\"A\" \"B\" NIL NIL NIL \"7BITS\" 1)") ≡
    took 31
    (over kind_basic 0 31
    (node_of kind_bytes 2 3  -- A
    & node_of kind_bytes 6 7  -- B
    & node_of kind_nil 9 12 & node_of kind_nil 13 16 & node_of kind_nil 17 20
    & node_of kind_bytes 22 27  -- 7BITS
    & number 1
    & no_tail))
unfolding computing
encoding_of_another_name = refl

-- and so is a literal
pub encoding_in_a_literal :
    reading deepest_level 14 (ascii "(\"A\" \"B\" NIL NIL NIL {4}\r\n7BIT 1)") ≡
    took 33
    (over kind_basic 0 33
    (node_of kind_bytes 2 3  -- A
    & node_of kind_bytes 6 7  -- B
    & node_of kind_nil 9 12 & node_of kind_nil 13 16 & node_of kind_nil 17 20
    & node_of kind_bytes 26 30  -- 7BIT
    & number 1
    & no_tail))
unfolding computing
encoding_in_a_literal = refl

-- body-fld-enc is never NIL
pub encoding_nil : reading deepest_level 14 (ascii "(\"\" \"\" NIL NIL NIL NIL 1)") ≡ refused
unfolding computing
encoding_nil = refl

-- a tail begins with MD5, which no number is; what follows the octets is then no parenthesis
pub tail_out_of_order : reading deepest_level 14 (ascii "(\"\" \"\" NIL NIL NIL \"\" 1 2)") ≡ refused
unfolding computing
tail_out_of_order = refl

-- a text body ends behind its lines; the wrong byte there does not try a basic body
pub text_is_not_tried_again : reading deepest_level 14 (ascii "(\"TEXT\" \"PLAIN\" NIL NIL NIL \"7BIT\" 5 2 3)") ≡ refused
unfolding computing
text_is_not_tried_again = refl

-- body-fld-param has a pair at least
pub parameters_are_not_empty : reading deepest_level 14 (ascii "(\"\" \"\" () NIL NIL \"\" 1)") ≡ refused
unfolding computing
parameters_are_not_empty = refl

-- the body is level 1, so that fifteen lists reach level 16
pub level_16 :
    reading deepest_level 14 (nested_line 15) ≡
    took 72
    (over kind_basic 0 72
    (node_of kind_bytes 2 2 & node_of kind_bytes 5 5 & node_of kind_nil 7 10
    & node_of kind_nil 11 14 & node_of kind_nil 15 18 & node_of kind_bytes 20 20 & number 1
    & node_of kind_nil 24 27 & node_of kind_nil 28 31 & node_of kind_nil 32 35 & node_of kind_nil 36 39
    & nested 15))
unfolding computing nested
level_16 = refl

-- one more would open level 17
pub level_17 : reading deepest_level 14 (nested_line 16) ≡ deep
unfolding computing
level_17 = refl

-- response codes: RFC 4315 section 3 --------------------------------------------------------------------------------

-- A003 OK [APPENDUID 38505 3955] APPEND completed
pub appenduid_example :
    reading deepest_level 15 (ascii "APPENDUID 38505 3955] APPEND completed") ≡
    took 20 (over kind_appenduid 0 20 (number 38505 & over kind_list 1 0 (node_of kind_uid 3955 3955)))
unfolding computing
appenduid_example = refl

-- A004 OK [COPYUID 38505 304,319:320 3956:3958] Done
pub copyuid_example :
    reading deepest_level 16 (ascii "COPYUID 38505 304,319:320 3956:3958] Done") ≡
    took 35
    (over kind_copyuid 0 35
    (number 38505
    & over kind_list 2 0 (node_of kind_uid 304 304 & node_of kind_range 319 320)
    & over kind_list 1 0 (node_of kind_range 3956 3958)))
unfolding computing
copyuid_example = refl

-- * NO [UIDNOTSTICKY] Non-persistent UIDs
pub uidnotsticky_example :
    reading deepest_level 17 (ascii "UIDNOTSTICKY] Non-persistent UIDs") ≡
    took 12 (node_of kind_uidnotsticky 0 12)
unfolding computing
uidnotsticky_example = refl

-- VANISHED: RFC 7162 sections 3.2.5 to 3.2.10 -----------------------------------------------------------------------

-- * VANISHED (EARLIER) 41,43:116,118,120:211,214:540
pub vanished_earlier_example :
    reading deepest_level 18 (ascii "VANISHED (EARLIER) 41,43:116,118,120:211,214:540\r\n") ≡
    took 48
    (over kind_vanished_earlier 0 48
    (over kind_list 5 0
    (node_of kind_range 41 41 & node_of kind_range 43 116 & node_of kind_range 118 118
    & node_of kind_range 120 211 & node_of kind_range 214 540)))
unfolding computing
vanished_earlier_example = refl

-- * VANISHED 405,407,410,425
pub vanished_example :
    reading deepest_level 18 (ascii "VANISHED 405,407,410,425\r\n") ≡
    took 24
    (over kind_vanished 0 24
    (over kind_list 4 0
    (node_of kind_range 405 405 & node_of kind_range 407 407 & node_of kind_range 410 410
    & node_of kind_range 425 425)))
unfolding computing
vanished_example = refl

-- mod-sequences: RFC 4551 sections 3.1.1 and 3.3.2, RFC 7162 --------------------------------------------------------

-- * OK [HIGHESTMODSEQ 715194045007]: 715194045007 is 166 * 2 ^ 32 + 2229473871
pub highestmodseq_example :
    reading deepest_level 19 (ascii "HIGHESTMODSEQ 715194045007]") ≡
    took 26 (node_of kind_number 2229473871 166)
unfolding computing
highestmodseq_example = refl

-- OK [HIGHESTMODSEQ 20010715194045319] expunged: 20010715194045319 is 4659107 * 2 ^ 32 + 3000480647
pub highestmodseq_of_17_digits :
    reading deepest_level 19 (ascii "HIGHESTMODSEQ 20010715194045319] expunged") ≡
    took 31 (node_of kind_number 3000480647 4659107)
unfolding computing
highestmodseq_of_17_digits = refl

-- * 1 FETCH (MODSEQ (624140003))
pub modseq_example : reading deepest_level 20 (ascii "MODSEQ (624140003))") ≡ took 18 (number 624140003)
unfolding computing
modseq_example = refl

-- METADATA: RFC 5464 sections 3.2, 4.2 and 4.4 ----------------------------------------------------------------------

-- * METADATA "" (/shared/comment "Shared comment"): "empty string for mailbox implies server annotation"
pub metadata_of_the_server :
    reading deepest_level 22 (ascii "METADATA \"\" (/shared/comment \"Shared comment\")\r\n") ≡
    took 46
    (over kind_metadata 0 46
    (node_of kind_bytes 10 10  -- empty
    & over kind_list 1 0
    (over kind_pair 13 45
    (node_of kind_bytes 13 28  -- /shared/comment
    & node_of kind_bytes 30 44))))  -- Shared comment
unfolding computing
metadata_of_the_server = refl

-- each entry with its value is a pair
pub metadata_of_a_mailbox :
    reading deepest_level 22 metadata_line ≡
    took 85
    (over kind_metadata 0 85
    (node_of kind_bytes 10 15  -- INBOX
    & over kind_list 2 0
    (over kind_pair 18 50
    (node_of kind_bytes 18 33  -- /shared/comment
    & node_of kind_bytes 35 49)  -- Shared comment
    & over kind_pair 51 84
    (node_of kind_bytes 51 67  -- /private/comment
    & node_of kind_bytes 69 83))))  -- My own comment
unfolding computing
metadata_of_a_mailbox = refl

-- section 4.4.2: an unsolicited response
pub metadata_without_values :
    reading deepest_level 23 (ascii "METADATA \"\" /shared/comment\r\n") ≡
    took 27
    (over kind_metadata 0 27
    (node_of kind_bytes 10 10  -- empty
    & over kind_list 1 0 (node_of kind_bytes 12 27)))  -- /shared/comment
unfolding computing
metadata_without_values = refl

-- section 4.4.2: two entries of a mailbox
pub metadata_two_names :
    reading deepest_level 23 (ascii "METADATA \"INBOX\" /shared/comment /private/comment\r\n") ≡
    took 49
    (over kind_metadata 0 49
    (node_of kind_bytes 10 15  -- INBOX
    & over kind_list 2 0
    (node_of kind_bytes 17 32  -- /shared/comment
    & node_of kind_bytes 33 49)))  -- /private/comment
unfolding computing
metadata_two_names = refl

-- stricter: section 5, entry = astring
pub metadata_filters : reading deepest_level 22 filters_line ≡ refused
unfolding computing
metadata_filters = refl

-- stricter: section 5, mailbox is an astring or INBOX; here it is a quoted string only
pub metadata_mailbox_atom : reading deepest_level 23 (ascii "METADATA INBOX /shared/comment\r\n") ≡ refused
unfolding computing
metadata_mailbox_atom = refl

-- a wrong name ends the list before its space
pub metadata_wrong_name :
    reading deepest_level 23 (ascii "METADATA \"\" /shared/comment /x\r\n") ≡
    took 27
    (over kind_metadata 0 27
    (node_of kind_bytes 10 10  -- empty
    & over kind_list 1 0 (node_of kind_bytes 12 27)))  -- /shared/comment
unfolding computing
metadata_wrong_name = refl

-- section 6.2.2: how to reach the server's administrator
pub entry_admin : reading deepest_level 12 (ascii "/shared/admin ") ≡ took 13 (node_of kind_bytes 0 13)
unfolding computing
entry_admin = refl

-- which is a shared entry only
pub entry_private_admin : reading deepest_level 12 (ascii "/private/admin ") ≡ refused
unfolding computing
entry_private_admin = refl

-- a vendor's name is needed, and may be followed by more; the node is the content of the quotes
pub entry_of_a_vendor :
    reading deepest_level 12 (ascii "\"/shared/vendor/cmu/x\" ") ≡
    took 22 (node_of kind_bytes 1 21)
unfolding computing
entry_of_a_vendor = refl

-- the vendor has no name
pub entry_vendor_without_name : reading deepest_level 12 (ascii "/shared/vendor/ ") ≡ refused
unfolding computing
entry_vendor_without_name = refl

-- a slash is no byte of a name, and neither is a wildcard
pub entry_vendor_slash : reading deepest_level 12 (ascii "/private/vendor// ") ≡ refused
unfolding computing
entry_vendor_slash = refl

pub entry_wildcard : reading deepest_level 12 (ascii "\"/shared/comment/a*b\" ") ≡ refused
unfolding computing
entry_wildcard = refl

-- lenient: section 3.2, "MUST NOT contain two consecutive "/" characters"
pub entry_two_slashes : reading deepest_level 12 (ascii "/private/comment//x ") ≡ took 19 (node_of kind_bytes 0 19)
unfolding computing
entry_two_slashes = refl

-- lenient: "and MUST NOT end with a "/" character"
pub entry_final_slash : reading deepest_level 12 (ascii "/private/comment/ ") ≡ took 17 (node_of kind_bytes 0 17)
unfolding computing
entry_final_slash = refl

-- stricter: section 3.2, "Entry names are case-insensitive"; here they are not
pub entry_other_case : reading deepest_level 12 (ascii "/Private/comment ") ≡ refused
unfolding computing
entry_other_case = refl
