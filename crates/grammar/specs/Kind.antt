-- The kinds as an enum: the number of each (specs/Kinds.antt says what its nodes hold), and the name that it is printed by.
use Rattle.std.specs.Prelude.{ℕ, ◌<◌, ◌≡◌, ◌⊎◌, List, Result, MatchResult, codes}
use Rattle.grammar.specs.Kinds.{kind_number, kind_range, kind_uid, kind_bytes, kind_nil, kind_absent, kind_list, kind_section_text, kind_encoding, kind_envelope, kind_address, kind_basic, kind_text, kind_message, kind_multipart, kind_disposition, kind_pair, kind_section_part, kind_body_item, kind_appenduid, kind_copyuid, kind_uidnotsticky, kind_vanished, kind_vanished_earlier, kind_metadata}
use Rattle.grammar.specs.declared.kind.Kind.{Kind}
use Rattle.grammar.specs.declared.kind.Kind.TheVariants.{Number, Range, Uid, Bytes, Nil, Absent, List as ListKind, SectionText, Encoding, Envelope, Address, Basic, Text, Message, Multipart, Disposition, Pair, SectionPart, BodyItem, AppendUid, CopyUid, UidNotSticky, Vanished, VanishedEarlier, Metadata}
use Rattle.grammar.specs.declared.kind.NoSuchKind.{NoSuchKind}

abbrev pub number_of : Kind → ℕ
number_of Number = kind_number
number_of Range = kind_range
number_of Uid = kind_uid
number_of Bytes = kind_bytes
number_of Nil = kind_nil
number_of Absent = kind_absent
number_of ListKind = kind_list
number_of SectionText = kind_section_text
number_of Encoding = kind_encoding
number_of Envelope = kind_envelope
number_of Address = kind_address
number_of Basic = kind_basic
number_of Text = kind_text
number_of Message = kind_message
number_of Multipart = kind_multipart
number_of Disposition = kind_disposition
number_of Pair = kind_pair
number_of SectionPart = kind_section_part
number_of BodyItem = kind_body_item
number_of AppendUid = kind_appenduid
number_of CopyUid = kind_copyuid
number_of UidNotSticky = kind_uidnotsticky
number_of Vanished = kind_vanished
number_of VanishedEarlier = kind_vanished_earlier
number_of Metadata = kind_metadata

-- the kind with this number; an error exactly at a number that none has, which are those outside 1 to 25
abbrev pub Decodes : ℕ → Result Kind NoSuchKind → Type 0
Decodes number r = MatchResult r (λ kind. number_of kind ≡ number) (λ e. (number < kind_number) ⊎ (kind_metadata < number))

abbrev pub name_of : Kind → List ℕ
name_of Number = codes "number"
name_of Range = codes "range"
name_of Uid = codes "single uid"
name_of Bytes = codes "bytes"
name_of Nil = codes "NIL"
name_of Absent = codes "absent"
name_of ListKind = codes "list"
name_of SectionText = codes "section text"
name_of Encoding = codes "known encoding"
name_of Envelope = codes "envelope"
name_of Address = codes "address"
name_of Basic = codes "basic"
name_of Text = codes "text"
name_of Message = codes "message"
name_of Multipart = codes "multipart"
name_of Disposition = codes "disposition"
name_of Pair = codes "pair"
name_of SectionPart = codes "section part"
name_of BodyItem = codes "BODY item"
name_of AppendUid = codes "APPENDUID"
name_of CopyUid = codes "COPYUID"
name_of UidNotSticky = codes "UIDNOTSTICKY"
name_of Vanished = codes "VANISHED"
name_of VanishedEarlier = codes "VANISHED (EARLIER)"
name_of Metadata = codes "METADATA"
