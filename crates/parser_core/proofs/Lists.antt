-- Lists of items with one byte between two of them.
use Rattle.std.proofs.Common.{ℕ, ◌≤◌}
use mathlib.Core.Path.{◌≡◌, refl, sym, ap, ◌∙◌}
use mathlib.Core.List.{List, [], ◌∷◌}
use native.Mathlib.Omega.{arith}
use lib.ListN.{length}
use Rattle.grammar.specs.Forest.{Forest, none, beside}
use Rattle.grammar.specs.Out.{Out, took, more, refused, deep, followed_by, with_before}
use Rattle.grammar.specs.Scan.{tag, leaf_at, Scanned, ended, short, failed}
use Rattle.grammar.specs.Grammar.{G, leaf, seq, run}
use Rattle.grammar.proofs.On.{at_took}
use Rattle.grammar.proofs.Scans.{leaf_bounds}
use Rattle.table.specs.Cursor.{IResult, find}
use Rattle.table.specs.Promise.{Calls, Goes, ReadsBy}
use Rattle.table.specs.Lists.{Item, OneTree, ListsBy, list_of}
use Rattle.table.proofs.Search.{passed}
use Rattle.parser_core.specs.Separated.{ItemBy, Separated}
use Rattle.parser_core.proofs.Tags.{scan_word, tag_found}

no_more : (o : Out) → with_before none o ≡ o
unfolding beside
no_more (took e f) = refl
no_more (more w) = refl
no_more refused = refl
no_more deep = refl

later : {s : List ℕ} {at e end : ℕ} {f : Forest} → at ≤ e → OneTree s e end f → OneTree s at end f
later l x = record { forward = omega (arith, x.forward); inside = x.inside; pays = omega (arith, x.pays); alone = x.alone }

-- what is found by g behind what was found before it
abbrev behind : ℕ → G → List ℕ → Out → Out
behind d g s o = followed_by o (λ e f. with_before f (find d g s e))

-- a byte and then an item are an item
module _ {d byte : ℕ} {g : G} (item : Item d g) where
  pub after_item : Item d (seq (leaf (tag (byte ∷ []))) g)
  unfolding run
  after_item = record { taken = λ s at end f l p. go s at end f l (scan_word (λ c. c) (byte ∷ []) s at) refl p }
    where
      go : (s : List ℕ) (at end : ℕ) (f : Forest) → at ≤ length s → (x : Scanned) → scan_word (λ c. c) (byte ∷ []) s at ≡ x
          → behind d g s (leaf_at (tag (byte ∷ [])) s at) ≡ took end f → OneTree s at end f
      go s at end f l (ended e v) w p =
          let r = (tag_found (ended e v) w).read in
          let b = at_took (leaf_bounds s at l (tag (byte ∷ []))) r in
          let q : with_before none (find d g s e) ≡ took end f = sym (ap (behind d g s) r) ∙ p in
          later b.0 (item.taken s e end f b.1 (sym (no_more (find d g s e)) ∙ q))
      go s at end f l short w p =
          let q : ◌≡◌ {A = Out} (more 0) (took end f) = sym (ap (behind d g s) (tag_found short w).read) ∙ p in
          absurd cc
      go s at end f l failed w p =
          let q : ◌≡◌ {A = Out} refused (took end f) = sym (ap (behind d g s) (tag_found failed w).read) ∙ p in
          absurd cc

-- so an item's reader and one of a byte and an item read a list
module _ {F N : Type 0} {calls : Calls F} {next_calls : Calls N} {depth byte : ℕ} {g : G} {item : F} {next : N} where
  pub items_apart : ItemBy calls depth g item → ReadsBy next_calls depth (seq (leaf (tag (byte ∷ []))) g) next
      → ListsBy calls next_calls depth (g, seq (leaf (tag (byte ∷ []))) g) item next
  items_apart by reads = record { reads_first = by.reads; reads_next = reads; first_item = by.an_item; next_item = after_item by.an_item }

-- what was read, at a grammar that is read
module _ {F : Type 0} {calls : Calls F} {byte : ℕ} {item : F} {s : List ℕ} {c q : IResult} {t t' : List ℕ} where
  pub separated_by : {depth : ℕ} {g : G} → Separated calls byte item s c q t t' → ItemBy calls depth g item
      → Goes depth (list_of g (seq (leaf (tag (byte ∷ []))) g)) s c q t t'
  separated_by {depth} {g} x by = x.goes depth g by

-- what `search` is to know where an item's reader is passed
pub ruleset apart = (separated_by, passed)
