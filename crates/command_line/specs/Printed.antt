-- What is written of bytes, counts and answers.
use Rattle.std.specs.Prelude.{ℕ, ◌/◌, ◌%◌, false, ◌&&◌, ◌==◌, nat_le, Bool, not, ◌||◌, if◌then◌else◌, List, [], ◌∷◌, ◌++◌, length, take, codes}
use Rattle.std.specs.List.{flat_map}
use Rattle.std.specs.Fmt.{decimal, digits}
use Rattle.reader.specs.declared.Answer.{Answer}
use Rattle.reader.specs.declared.Answer.TheVariants.{Accepted, Unfinished, NotTheGrammar, TooDeep, NoRoom, UnknownRule, TooLong}

-- a byte that stands for itself
abbrev pub plain : ℕ → Bool
plain b = nat_le 32 b && nat_le b 126 && not (b == 34 || b == 92)

-- a byte that stands for itself, or its escape
abbrev pub escape : ℕ → List ℕ
escape b =
    if b == 13 then 92 ∷ 114 ∷ []
    else (if b == 10 then 92 ∷ 110 ∷ []
    else (if b == 34 then 92 ∷ 34 ∷ []
    else (if b == 92 then 92 ∷ 92 ∷ []
    else (if nat_le 32 b && nat_le b 126 then b ∷ []
    else 92 ∷ 120 ∷ [] ++ digits 16 false (b / 16) ++ digits 16 false (b % 16)))))

abbrev pub escaped : List ℕ → List ℕ
escaped = flat_map escape

abbrev pub quoted : List ℕ → List ℕ
quoted s = 34 ∷ [] ++ escaped s ++ 34 ∷ []

abbrev pub plural : ℕ → List ℕ
plural n = if n == 1 then [] else codes "s"

abbrev pub counted : ℕ → List ℕ → List ℕ
counted n what = decimal n ++ codes " " ++ what ++ plural n

-- in quotes, the first 60 where there are more
abbrev pub cut : List ℕ → List ℕ
cut s =
    if nat_le (length s) 60 then quoted s
    else quoted (take 60 s) ++ codes "... (" ++ decimal (length s) ++ codes " bytes)"

-- how many bytes more are wanted, where that is known
abbrev pub unfinished : ℕ → List ℕ
unfinished wanted =
    if wanted == 0 then codes "unfinished: answer 1, more bytes are needed"
    else codes "unfinished: answer 1, " ++ counted wanted (codes "more byte") ++ codes " wanted"

-- the answer of a reading into a table with room for so many nodes
abbrev pub in_words : Answer → ℕ → List ℕ
in_words (Accepted taken nodes) room =
    codes "accepted: answer 0, " ++ counted taken (codes "byte") ++ codes " taken, " ++ counted nodes (codes "node")
in_words (Unfinished wanted) room = unfinished wanted
in_words NotTheGrammar room = codes "not the grammar: answer 2"
in_words TooDeep room = codes "too deep: answer 3"
in_words (NoRoom nodes) room =
    codes "no room: answer 4, " ++ counted nodes (codes "node") ++ codes " needed, this command has room for " ++ decimal room
in_words UnknownRule room = codes "unknown rule: answer 5"
in_words TooLong room = codes "too long: answer 6"
