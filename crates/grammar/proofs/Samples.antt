-- The sample readings of docs/RULES.md, computed: the rows marked P stand in specs/Samples.antt.
use Prim.Native.Char.{code}
use Rattle.std.specs.Prelude.{◌≡◌, refl, [], ◌∷◌, ◌++◌, map, take, replicate}
use Rattle.grammar.specs.Text.{ascii}
use Rattle.grammar.specs.Kinds.{kind_basic, kind_text}
use Rattle.grammar.specs.Reading.{result, no_reading}
use Rattle.grammar.specs.OpenLiteral.{inside, start, walk, after}
use Rattle.grammar.specs.Samples.{computing, numbers, lent, unfinished, samples}

-- THE SAMPLES: every row of docs/RULES.md's table that is marked P
pub samples_hold : map (λ row. result row.number row.bytes (lent row.room)) samples ≡ map (λ row. row.found) samples
unfolding computing samples
samples_hold = refl

-- the other rows
pub basic_sample : take 5 (numbers (result 14 (ascii "(\"TEXT\" \"PLAIN\" NIL NIL NIL \"7BIT\" 5)") (lent 52)) ++ take 1 (result 14 (ascii "(\"TEXT\" \"PLAIN\" NIL NIL NIL \"7BIT\" 5)") (lent 52)).table) ≡ 0 ∷ 37 ∷ 13 ∷ 0 ∷ kind_basic ∷ []
unfolding computing numbers
basic_sample = refl

pub text_sample : take 5 (numbers (result 14 (ascii "(\"TEXT\" \"PLAIN\" NIL NIL NIL \"7BIT\" 5 2)") (lent 52)) ++ take 1 (result 14 (ascii "(\"TEXT\" \"PLAIN\" NIL NIL NIL \"7BIT\" 5 2)") (lent 52)).table) ≡ 0 ∷ 39 ∷ 13 ∷ 0 ∷ kind_text ∷ []
unfolding computing numbers
text_sample = refl

pub sixteen_sample : result 14 (replicate 16 (code "(")) (lent 8) ≡ unfinished 0
unfolding computing
sixteen_sample = refl

pub seventeen_sample : result 14 (replicate 17 (code "(")) (lent 8) ≡ no_reading 3 (lent 8)
unfolding computing
seventeen_sample = refl

pub no_room_sample : result 10 (ascii "4:2,7 ") (lent 11) ≡ record { answer = 4; taken = 0; nodes = 3; wanted = 0; table = lent 11 }
unfolding computing
no_room_sample = refl

-- a table with more room keeps the rest as it was
pub rest_sample : (result 10 (ascii "4:2,7 ") (lent 14)).table ≡ 7 ∷ 2 ∷ 0 ∷ 3 ∷ 2 ∷ 2 ∷ 4 ∷ 1 ∷ 3 ∷ 7 ∷ 7 ∷ 1 ∷ 99 ∷ 99 ∷ []
unfolding computing
rest_sample = refl

-- where literals lie, by the bytes alone: of `{9}` CR LF `ab` seven bytes are missing; `xy{0}` CR LF are its last ones, and the
-- brace among them begins no literal
pub open_sample : after (ascii "{9}\r\nab") ≡ inside 7
unfolding walk
open_sample = refl

pub brace_inside_sample : after (ascii "{9}\r\nabxy") ≡ inside 5
unfolding walk
brace_inside_sample = refl

pub complete_sample : after (ascii "{9}\r\nabxy{0}\r\n") ≡ start
unfolding walk
complete_sample = refl
