-- What is left of a body's tail from each field on: the parts of `body_tail` that this crate's functions read. (To unfold one
-- unfolds those after it: each computes to the same.)
use Rattle.std.specs.Prelude.{[], ◌∷◌}
use Rattle.grammar.specs.Grammar.{G}
use Rattle.grammar.specs.Core.{nstring}
use Rattle.grammar.specs.BodyStructure.{body_disposition, body_lang, body_extension, body_tail}

unfoldable pub from_extension : G
unfolding body_extension body_tail
from_extension = body_tail (body_extension ∷ [])

unfoldable pub from_loc : G
unfolding nstring body_extension body_tail from_extension
from_loc = body_tail (nstring ∷ body_extension ∷ [])

unfoldable pub from_lang : G
unfolding nstring body_lang body_extension body_tail from_loc
from_lang = body_tail (body_lang ∷ nstring ∷ body_extension ∷ [])

unfoldable pub from_dsp : G
unfolding nstring body_disposition body_lang body_extension body_tail from_lang
from_dsp = body_tail (body_disposition ∷ body_lang ∷ nstring ∷ body_extension ∷ [])
