-- The sample reading of `"a\"b"`, six bytes: the node names bytes 1 to 5; and each way in which there is no such content.
use Rattle.std.specs.Prelude.{ℕ, ◌≡◌, refl, List, [], ◌∷◌, Option, Some, None}
use Rattle.grammar.specs.Kinds.{kind_bytes, kind_nil}
use Rattle.views.specs.declared.Part.{Part}
use Rattle.views.specs.View.{part_at}

abbrev one_node : ℕ → ℕ → ℕ → List ℕ
one_node kind start end = kind ∷ start ∷ end ∷ 1 ∷ []

abbrev found : ℕ → ℕ → Option Part
found start end = Some (record { start = start; end = end })

pub quoted_content : part_at 6 (one_node kind_bytes 1 5) 0 ≡ found 1 5
unfolding part_at
quoted_content = refl

-- bytes that end where the buffer does are found, and so are no bytes at all
pub to_the_end : part_at 5 (one_node kind_bytes 1 5) 0 ≡ found 1 5
unfolding part_at
to_the_end = refl

pub no_bytes : part_at 5 (one_node kind_bytes 5 5) 0 ≡ found 5 5
unfolding part_at
no_bytes = refl

-- the four ways to 7
pub outside_the_room : part_at 6 (one_node kind_bytes 1 5) 1 ≡ None
unfolding part_at
outside_the_room = refl

pub another_kind : part_at 6 (one_node kind_nil 1 5) 0 ≡ None
unfolding part_at
another_kind = refl

pub start_past_end : part_at 6 (one_node kind_bytes 5 1) 0 ≡ None
unfolding part_at
start_past_end = refl

pub end_past_buffer : part_at 4 (one_node kind_bytes 1 5) 0 ≡ None
unfolding part_at
end_past_buffer = refl
