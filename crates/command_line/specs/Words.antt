-- What the functions on words and answers give.
use Rattle.std.specs.Prelude.{ℕ, ◌+◌, ◌-◌, ◌*◌, ◌^◌, Bool, true, false, ◌&&◌, List, [], ◌∷◌, length, take, drop, leb, eqb, nat_lt, codes, position, Option, Some, None}
use Prim.Native.Char.{code}
use Rattle.std.specs.Str.{str_eq_ignore_ascii_case, all_ascii_digits}
use Rattle.grammar.specs.Out.{branch}
use Rattle.reader.specs.declared.Answer.{Answer}
use Rattle.reader.specs.declared.Answer.TheVariants.{Accepted as accepted, Unfinished as unfinished, NotTheGrammar, TooDeep, NoRoom, UnknownRule, TooLong}
use Rattle.command_line.specs.declared.answers.Status.{Status}
use Rattle.command_line.specs.declared.answers.Status.TheVariants.{Accepted, Unfinished, Refused, NoReading, NotWritten}

-- words -----------------------------------------------------------------------------------------------------------------

-- the same bytes, ASCII case put aside
abbrev pub same_word : List ℕ → List ℕ → Bool
same_word = str_eq_ignore_ascii_case

-- nothing, or a `*` and anything
abbrev pub starred : List ℕ → Bool
starred [] = true
starred (b ∷ bs) = eqb b (code "*")

-- the word alone, or the word, a `*` and anything
abbrev pub parameter : List ℕ → List ℕ → Bool
parameter s word =
    branch
    (leb (length word) (length s))
    (λ u. same_word (take (length word) s) word && starred (drop (length word) s))
    (λ u. false)

-- rules asked for --------------------------------------------------------------------------------------------------------

-- the rules' names, from number 1 on
abbrev pub rule_names : List (List ℕ)
rule_names =
    codes "number"
    ∷ codes "number_64"
    ∷ codes "quoted"
    ∷ codes "literal"
    ∷ codes "string"
    ∷ codes "astring"
    ∷ codes "nstring"
    ∷ codes "text"
    ∷ codes "sequence_set"
    ∷ codes "uid_set"
    ∷ codes "section"
    ∷ codes "entry_name"
    ∷ codes "envelope"
    ∷ codes "body"
    ∷ codes "APPENDUID"
    ∷ codes "COPYUID"
    ∷ codes "UIDNOTSTICKY"
    ∷ codes "VANISHED"
    ∷ codes "HIGHESTMODSEQ"
    ∷ codes "MODSEQ"
    ∷ codes "BODY_section"
    ∷ codes "METADATA_values"
    ∷ codes "METADATA_names"
    ∷ codes "ENVELOPE_item"
    ∷ codes "BODYSTRUCTURE"
    ∷ []

-- the number of the first name that is this word
abbrev pub next_number : Option ℕ → Option ℕ
next_number (Some row) = Some (row + 1)
next_number None = None

abbrev pub rule_named : List ℕ → Option ℕ
rule_named word = next_number (position (λ name. same_word name word) rule_names)

-- the value of a run of digits
abbrev pub value_from : ℕ → List ℕ → ℕ
value_from value [] = value
value_from value (b ∷ bs) = value_from (value * 10 + (b - code "0")) bs

-- where there are digits and nothing else, and 32 bits hold their value
unfoldable pub decimal : List ℕ → Option ℕ
decimal s =
    branch
    (all_ascii_digits s && (leb 1 (length s) && nat_lt (value_from 0 s) (2 ^ 32)))
    (λ u. Some (value_from 0 s))
    (λ u. None)

abbrev pub or_named : Option ℕ → Option ℕ → Option ℕ
or_named (Some n) named = Some n
or_named None named = named

-- a number of 32 bits, or a name
abbrev pub rule_asked : List ℕ → Option ℕ
rule_asked word = or_named (decimal word) (rule_named word)

-- answers ---------------------------------------------------------------------------------------------------------------

-- a command's status for the answer of a reading
abbrev pub status_of : Answer → Status
status_of (accepted taken nodes) = Accepted
status_of (unfinished wanted) = Unfinished
status_of NotTheGrammar = Refused
status_of TooDeep = Refused
status_of (NoRoom nodes) = Refused
status_of UnknownRule = NoReading
status_of TooLong = Refused

-- the number that a program ends with
abbrev pub code_of : Status → ℕ
code_of Accepted = 0
code_of Unfinished = 1
code_of Refused = 2
code_of NoReading = 3
code_of NotWritten = 4

-- the status once the output is to be written: as it was, or that a write failed
pub data Sent (status : Status) : Status → Type 0 where
  written : Sent status status
  not_written : Sent status NotWritten
