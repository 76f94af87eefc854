-- What the functions on open subtrees give.
use Rattle.std.specs.Prelude.{ℕ, ◌+◌, ◌-◌, ◌^◌, Bool, List, [], ◌∷◌, ◌++◌, length, take, leb, min, slice_get, slice_set, Option, Some, None, Ok, Err, MatchOption, ◌≡◌, ◌<◌, ◌⊎◌}
use Rattle.std.specs.List.{suffix_len}
use Rattle.grammar.specs.Out.{branch}
use Rattle.command_line.specs.declared.levels.Level.{Level}
use Rattle.walker.specs.Walk.{Place, end_of}
use Rattle.grammar.specs.Kinds.{kind_number, kind_metadata}
use Rattle.grammar.specs.Kind.{number_of}
use Rattle.grammar.specs.declared.kind.Kind.{Kind}

-- the innermost
abbrev pub last : List Level → Option Level
last ls = slice_get ls (length ls - 1)

-- one more of what a subtree holds has been met, as far as the number has room
abbrev pub met_one : Level → Level
met_one l = record l { met = min (l.met + 1) (2 ^ 64 - 1) }

-- the same of the innermost, if there is one
abbrev pub met_in : List Level → Option Level → List Level
met_in ls None = ls
met_in ls (Some l) = slice_set ls (length ls - 1) (met_one l)

abbrev pub met : List Level → List Level
met ls = met_in ls (last ls)

-- a subtree ends before a node
abbrev pub ended : ℕ → Level → Bool
ended at l = leb l.end at

-- the subtrees up to the last that does not end before the node
abbrev pub open_at : List Level → ℕ → List Level
open_at ls at = take (length ls - suffix_len (ended at) ls) ls

-- one more, if there is room for it
abbrev pub opened : List Level → Level → List Level
opened ls l = branch (leb 128 (length ls)) (λ u. ls) (λ u. ls ++ l ∷ [])

-- the end that a walk finds, or the node itself
abbrev pub end_or : ℕ → Place → ℕ
end_or at (Ok end) = end
end_or at (Err why) = at

abbrev pub subtree_end : List ℕ → ℕ → ℕ
subtree_end t at = end_or at (end_of t at)

-- the kind with this number, if there is one
abbrev pub IsKindOf : ℕ → Option Kind → Type 0
IsKindOf number o = MatchOption o ((number < kind_number) ⊎ (kind_metadata < number)) (λ kind. number_of kind ≡ number)
