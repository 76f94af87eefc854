-- What the functions promise.
use Rattle.std.specs.Prelude.{ℕ, ◌+◌, ◌*◌, ◌≤◌, ◌≡◌, List, [], ◌∷◌, length, Err}
use Rattle.grammar.specs.Kinds.{kind_list}
use Rattle.grammar.specs.Out.{Out}
use Rattle.grammar.specs.Scan.{tag}
use Rattle.grammar.specs.Grammar.{G, leaf, mark, seq, alt}
use Rattle.grammar.specs.Reading.{length_limit}
use Rattle.table.specs.Cursor.{IResult, Took, step, behind, place_of, nodes_of, Stops, find}
use Rattle.table.specs.declared.Cursor.{Cursor}
use Rattle.table.specs.declared.Failure.TheVariants.{Refused}
use Rattle.table.specs.Table.{skip_to, over, onward, rehead}
use Rattle.table.specs.Fill.{fill}
use denote.Ref.{Bor, MutBor}
use denote.Param.Members.{Shared}

-- of a reader --------------------------------------------------------------------------------------------------------

-- what a reader may assume of its cursor: the place lies within the buffer, the buffer within the limit, and the nodes so
-- far are few, with room for `spare` more than the bytes to come pay for (four nodes a byte)
pub record Stands (spare : ℕ) (s : List ℕ) (c : IResult) : Type 0 where
  pub inside : place_of (step c) ≤ length s
  pub small : length s ≤ length_limit
  pub few : nodes_of (step c) + spare ≤ 4 * place_of (step c) + 500000000

-- o was found behind the first n nodes of the table t, which is now t': the cursor q says so, and the rest of the table, from
-- n nodes on, is as `write` leaves it
pub record Went (n : ℕ) (o : Out) (write : List ℕ → List ℕ) (q : IResult) (t t' : List ℕ) : Type 0 where
  pub read : step q ≡ behind n o
  pub wrote : t' ≡ onward n write t

-- THE PROMISE of a reader of g, with so many levels left below it. From a failure nothing is done. From a place and n nodes g is
-- read there, and the words behind those nodes are what `fill` says, whatever the table's size and whatever stood in it.
pub record Goes (depth : ℕ) (g : G) (s : List ℕ) (c q : IResult) (t t' : List ℕ) : Type 0 where
  pub stopped : Stops (step c) → (q ≡ c) × (t' ≡ t)
  pub went : (at n : ℕ) → step c ≡ Took at n → Went n (find depth g s at) (λ u. fill depth g s at u) q t t'
  pub stands : Stands 0 s q

-- of a reader that makes no node and is lent no table: it goes on with any
pub record Skims (g : G) (s : List ℕ) (c q : IResult) : Type 0 where
  pub on : (t : List ℕ) → Goes 0 g s c q t t
  pub stands : Stands 0 s q

-- the two as contracts have them: the buffer, the cursor before and after, the table before and after
abbrev pub Reads : ℕ → G → List ℕ → IResult → IResult → List ℕ → List ℕ → Type 0
Reads depth g s c q t t' = Goes depth g s c q t t'

abbrev pub Skips : G → List ℕ → IResult → IResult → Type 0
Skips g s c q = Skims g s c q

-- what may be passed for a reader
abbrev pub Calls : Type 0 → Type 1
Calls F = Shared F (Bor (List ℕ) × (IResult × (MutBor (List ℕ) × Unit {0}))) (IResult × (MutBor (List ℕ) × Unit {0}))

-- .. and reads g: it may be called wherever a reader may be, and keeps the promise there
pub record ReadsBy {F : Type 0} (calls : Calls F) (depth : ℕ) (g : G) (f : F) : Type 0 where
  pub callable : (s : Bor (List ℕ)) (c : IResult) (t : MutBor (List ℕ)) → Stands 0 s.now c → calls.pre f (s, (c, (t, tt)))
  pub reads : (s : Bor (List ℕ)) (c : IResult) (t : MutBor (List ℕ)) (q : IResult) (t' : MutBor (List ℕ)) → Stands 0 s.now c
      → calls.post f (s, (c, (t, tt))) (q, (t', tt)) → Goes depth g s.now c q t.now t'.now

-- .. or may just be called there
pub record Callable {F : Type 0} (calls : Calls F) (f : F) : Type 0 where
  pub callable : (s : Bor (List ℕ)) (c : IResult) (t : MutBor (List ℕ)) → Stands 0 s.now c → calls.pre f (s, (c, (t, tt)))

-- a byte was read, and then what f reads
pub record Following {F : Type 0} (calls : Calls F) (byte : ℕ) (f : F) (s : List ℕ) (c q : IResult) (t t' : List ℕ) : Type 0 where
  pub goes : (depth : ℕ) (g : G) → ReadsBy calls depth g f → Goes depth (seq (leaf (tag (byte ∷ []))) g) s c q t t'

-- what f reads was read, or a mark put where it refuses
pub record Optional {F : Type 0} (calls : Calls F) (kind a : ℕ) (f : F) (s : List ℕ) (c q : IResult) (t t' : List ℕ) : Type 0 where
  pub goes : (depth : ℕ) (g : G) → ReadsBy calls depth g f → Goes depth (alt g (mark kind a)) s c q t t'

-- what a function that only scans may assume of a place
pub record Room (s : List ℕ) (at : ℕ) : Type 0 where
  pub inside : at ≤ length s
  pub small : length s ≤ length_limit

-- of the table's functions -------------------------------------------------------------------------------------------

-- another place, with the same nodes
pub record Moved (c : Cursor) (next : ℕ) (q : Cursor) : Type 0 where
  pub is : q ≡ record { place = next; nodes = c.nodes }

-- the same place with no nodes before it
pub record Begun (c q : Cursor) : Type 0 where
  pub is : q ≡ record { place = c.place; nodes = 0 }

-- the n-th node's words, if there is room for them
pub record Put (n kind a b size : ℕ) (t t' : List ℕ) : Type 0 where
  pub is : t' ≡ onward n (λ u. over kind a b size u) t

-- a node without children that was read up to `next`
pub record Leafed (kind a b next : ℕ) (c q : Cursor) (t t' : List ℕ) : Type 0 where
  pub read : q ≡ record { place = next; nodes = c.nodes + 1 }
  pub put : Put c.nodes kind a b 1 t t'

-- where the words behind the node after c begin, or the table's end
pub record Lends (len : ℕ) (c : Cursor) (k : ℕ) : Type 0 where
  pub is : k ≡ skip_to len (1 + c.nodes)
  pub within : k ≤ len

-- a structure's own words, once its children were read from c's place to `inner`, which counts only them
pub record Finished (kind : ℕ) (c : Cursor) (inner q : IResult) (t t' : List ℕ) : Type 0 where
  pub stopped : Stops (step inner) → (q ≡ inner) × (t' ≡ t)
  pub read : (end m : ℕ) → step inner ≡ Took end m → step q ≡ Took end (1 + m + c.nodes)
  pub put : (end m : ℕ) → step inner ≡ Took end m → Put c.nodes kind c.place end (m + 1) t t'

-- .. and a list's, with its number of items, if the last item was refused; another answer is given as it is
pub record Listed (count : ℕ) (c inner : Cursor) (last q : IResult) (t t' : List ℕ) : Type 0 where
  pub ended : (last ≡ Err Refused → ⊥) → (q ≡ last) × (t' ≡ t)
  pub read : last ≡ Err Refused → step q ≡ Took inner.place (1 + inner.nodes + c.nodes)
  pub put : last ≡ Err Refused → Put c.nodes kind_list count 0 (inner.nodes + 1) t t'

-- a node that was read before takes in those after it, from c's place to where `inner` ended
pub record Headed (c : Cursor) (inner q : IResult) (t t' : List ℕ) : Type 0 where
  pub read : q ≡ inner
  pub stopped : Stops (step inner) → t' ≡ t
  pub wrote : (end m : ℕ) → step inner ≡ Took end (m + c.nodes) → t' ≡ onward c.nodes (λ u. rehead c.place end m u) t

-- what they may assume: a cursor that has few nodes; and one more answer, that they can be added to
pub record Ready (c : Cursor) : Type 0 where
  pub few : c.nodes ≤ 1500000000
  pub start : c.place ≤ length_limit

pub record Fits (c : Cursor) (inner : IResult) : Type 0 where
  pub end : place_of (step inner) ≤ length_limit
  pub few : nodes_of (step inner) + c.nodes ≤ 2000000000

-- of an answer that was read from c on: c's nodes are among its own
pub record Within (c : Cursor) (inner : IResult) : Type 0 where
  pub few : (end m : ℕ) → step inner ≡ Took end m → c.nodes ≤ m
