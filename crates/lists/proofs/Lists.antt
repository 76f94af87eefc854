-- Lists in parentheses: what was read, at a grammar that is read.
use Rattle.std.proofs.Common.{ℕ}
use mathlib.Core.List.{List}
use Rattle.grammar.specs.Grammar.{G}
use Rattle.grammar.specs.Notation.{parenthesized_nonempty_list}
use Rattle.table.specs.Cursor.{IResult}
use Rattle.table.specs.Promise.{Calls, Goes}
use Rattle.table.proofs.Search.{passed}
use Rattle.parser_core.specs.Separated.{ItemBy}
use Rattle.lists.specs.Parenthesized.{Parenthesized}

module _ {F : Type 0} {calls : Calls F} {item : F} {s : List ℕ} {c q : IResult} {t t' : List ℕ} where
  pub parenthesized_by : {depth : ℕ} {g : G} → Parenthesized calls item s c q t t' → ItemBy calls depth g item
      → Goes depth (parenthesized_nonempty_list g) s c q t t'
  parenthesized_by {depth} {g} x by = x.goes depth g by

-- what `search` is to know where an item's reader is passed
pub ruleset in_parentheses = (parenthesized_by, passed)
