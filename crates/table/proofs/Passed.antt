-- Of readers that were passed: what was read, at a grammar that they read.
use Prim.Native.Nat.{ℕ}
use mathlib.Core.List.{List, [], ◌∷◌}
use Rattle.grammar.specs.Scan.{tag}
use Rattle.grammar.specs.Grammar.{G, seq, leaf, alt, mark, does, node}
use Rattle.table.specs.Cursor.{IResult}
use Rattle.table.specs.Promise.{Calls, Stands, Goes, ReadsBy, Following, Optional}
use denote.Ref.{Bor, MutBor}
use Rattle.table.specs.Lists.{ListsBy, Listing, list_of, HoldsBy, Holding}

module _ {F N : Type 0} {first_calls : Calls F} {next_calls : Calls N} {first : F} {next : N} {s : List ℕ} {c q : IResult} {t t' : List ℕ} where
  pub listed : {depth : ℕ} {g h : G} → Listing first_calls next_calls first next s c q t t' → ListsBy first_calls next_calls depth (g, h) first next
      → Goes depth (list_of g h) s c q t t'
  listed {depth} {g} {h} x by = x.goes depth (g, h) by

module _ {F : Type 0} {calls : Calls F} {byte : ℕ} {f : F} {s : List ℕ} {c q : IResult} {t t' : List ℕ} where
  pub followed : {depth : ℕ} {g : G} → Following calls byte f s c q t t' → ReadsBy calls depth g f → Goes depth (seq (leaf (tag (byte ∷ []))) g) s c q t t'
  followed {depth} {g} x by = x.goes depth g by

module _ {F : Type 0} {calls : Calls F} {f : F} {s : List ℕ} {c q : IResult} {t t' : List ℕ} where
  pub held : {depth kind : ℕ} {g : G} → Holding calls kind f s c q t t' → HoldsBy calls depth kind g f → Goes depth (does (node kind) g) s c q t t'
  held {depth} {kind} {g} x by = x.goes depth g by

module _ {F : Type 0} {calls : Calls F} {f : F} {s : List ℕ} {c q : IResult} {t t' : List ℕ} where
  pub optional : {depth kind a : ℕ} {g : G} → Optional calls kind a f s c q t t' → ReadsBy calls depth g f → Goes depth (alt g (mark kind a)) s c q t t'
  optional {depth} {g = g} x by = x.goes depth g by

-- what a function's own clauses say of a call: what became of the cursor that it took, and the promise
module _ {F : Type 0} {calls : Calls F} {depth : ℕ} {g : G} {f : F} where
  pub by_clauses : ((s : Bor (List ℕ)) (c : IResult) (t : MutBor (List ℕ)) → Stands 0 s.now c → calls.pre f (s, (c, (t, tt))))
      → ((s : Bor (List ℕ)) (c : IResult) (t : MutBor (List ℕ)) (q : IResult) (t' : MutBor (List ℕ)) → Stands 0 s.now c
      → calls.post f (s, (c, (t, tt))) (q, (t', tt)) → IResult × Goes depth g s.now c q t.now t'.now)
      → ReadsBy calls depth g f
  by_clauses callable reads = record { callable = callable; reads = λ s c t q t' stands post. (reads s c t q t' stands post).1 }
