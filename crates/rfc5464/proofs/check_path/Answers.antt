use mathlib.Core.Path.{◌≡◌, sym, ◌∙◌}
use mathlib.Core.Bool.{◌&&◌, false}
use lib.ListN.{get_or}
use borrow.Author.Rules.{rules}
use Rattle.grammar.specs.EntryName.{is_entry_component_char}
use Rattle.rfc5464.proofs.Names.{path_ends, walk_inside, walk_slash, path_stops, path_corrupt}
use Rattle.rfc5464.proofs.check_path.Goals.{Joined-else-inside, else-inside-via-then-inside+else-is_entry_component_char, else-inside-via-else-inside}
use Rattle.rfc5464.proofs.check_path.Goals as goal

-- the byte at hand is none of a component
outside : (c : Joined-else-inside) → c.loop-b.inside && is_entry_component_char (get_or c.args.name.now c.loop-b.b-index 0) ≡ false
outside c = elim c.else-inside.branch [
  | else-inside-via-then-inside+else-is_entry_component_char w ↦ rw (w.if-inside.true, sym w.is_entry_component_char.ensures ∙ w.if-is_entry_component_char.false)
  | else-inside-via-else-inside w ↦ rw w.if-inside.false
]

pub loop-b-preserved-then-is_entry_component_char : goal.loop-b-preserved-then-is_entry_component_char
loop-b-preserved-then-is_entry_component_char c = walk_inside c.loop-b.invariant c.loop-b-test.true c.if-inside.true c.is_entry_component_char.ensures c.if-is_entry_component_char.true

pub returns-in-32 : goal.returns-in-32
returns-in-32 c = path_stops c.loop-b.invariant c.loop-b-test.true (outside (goal.at.returns-in-32 c).Joined-else-inside) c.in-32.is

pub returns-in_default : goal.returns-in_default
returns-in_default c = let out = outside (goal.at.returns-in_default c).Joined-else-inside in search (path_corrupt, rules)

pub loop-b-preserved : goal.loop-b-preserved
loop-b-preserved c = walk_slash c.loop-b.invariant c.loop-b-test.true (outside (goal.at.loop-b-preserved c).Joined-else-inside) c.in-47.is

pub returns : goal.returns
returns c = path_ends c.loop-b.invariant c.loop-b-test.false
