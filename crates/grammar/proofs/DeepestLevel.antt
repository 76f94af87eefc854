-- Readings at the deepest level and one deeper, computed, whatever the deepest level is.
use Prim.Native.Char.{code}
use Rattle.std.specs.Prelude.{ℕ, zero, suc, ◌+◌, ◌*◌, ◌-◌, ◌≡◌, List, [], ◌++◌, replicate, refl}
use Rattle.grammar.specs.Text.{ascii}
use Rattle.grammar.specs.Kinds.{kind_bytes, kind_nil, kind_basic}
use Rattle.grammar.specs.Forest.{node_of}
use Rattle.grammar.specs.Out.{took, deep}
use Rattle.grammar.specs.Reading.{reading, result, deepest_level, no_reading}
use Rattle.grammar.specs.Samples.{computing, lent, unfinished}
use Rattle.grammar.specs.Examples.{◌&◌, over, number, nested, nested_line}

-- as many levels as there are, and one more
pub deepest_sample : result 14 (replicate deepest_level (code "(")) (lent 8) ≡ unfinished 0
unfolding computing
deepest_sample = refl

pub too_deep_sample : result 14 (replicate (suc deepest_level) (code "(")) (lent 8) ≡ no_reading 3 (lent 8)
unfolding computing
too_deep_sample = refl

-- the body is level 1, so that the innermost list is at the deepest level
pub lists_to_the_deepest_level :
    reading deepest_level 14 (nested_line (deepest_level - 1)) ≡
    took (2 * deepest_level + 40)
    (over kind_basic 0 (2 * deepest_level + 40)
    (node_of kind_bytes 2 2 & node_of kind_bytes 5 5 & node_of kind_nil 7 10
    & node_of kind_nil 11 14 & node_of kind_nil 15 18 & node_of kind_bytes 20 20 & number 1
    & node_of kind_nil 24 27 & node_of kind_nil 28 31 & node_of kind_nil 32 35 & node_of kind_nil 36 39
    & nested (deepest_level - 1)))
unfolding computing nested
lists_to_the_deepest_level = refl

-- one list more
pub one_list_too_deep : reading deepest_level 14 (nested_line deepest_level) ≡ deep
unfolding computing
one_list_too_deep = refl

-- a body in so many multiparts, one within another
unfoldable pub in_multiparts : ℕ → List ℕ → List ℕ
in_multiparts zero inner = inner
in_multiparts (suc n) inner = ascii "(" ++ (in_multiparts n inner ++ ascii " \"\")")

-- a body in a message
abbrev pub in_a_message : List ℕ → List ℕ
in_a_message inner =
    ascii "(\"MESSAGE\" \"RFC822\" NIL NIL NIL \"\" 1 (NIL NIL NIL NIL NIL NIL NIL NIL NIL NIL) " ++ (inner ++ ascii " 1)")

-- the message is one level, its body one, and the list in that one more
pub mixed_to_the_deepest_level : (result 14 (in_multiparts (deepest_level - 3) (in_a_message (nested_line 1))) []).answer ≡ 4
unfolding computing in_multiparts
mixed_to_the_deepest_level = refl

pub mixed_too_deep : reading deepest_level 14 (in_multiparts (deepest_level - 2) (in_a_message (nested_line 1))) ≡ deep
unfolding computing in_multiparts
mixed_too_deep = refl
