-- What the first byte decides, and the buffer's end: computed of the grammar.
use Prim.Native.Char.{code}
use Prim.Native.Nat.{ℕ, zero, suc, ◌≤◌, ◌<◌}
use mathlib.Core.Path.{◌≡◌, refl, ap, subst, ◌∙◌}
use mathlib.Core.Bool.{Bool, true, false, ◌||◌}
use mathlib.Core.List.{List}
use lib.Dec.{T, eqb}
use lib.ListN.{length, drop, get_or, drop_of_length-le}
use lib.Seq.{drop-cons}
use Rattle.grammar.specs.Out.{Out, more, refused}
use Rattle.grammar.specs.Text.{ascii}
use Rattle.grammar.specs.Scan.{tag, Move, on, end_before, end_after, fail, Scanned, short, failed, moved, scan, leaf_move, first_state, leaf_found, leaf_at, header_move, content, literal_at}
use Rattle.grammar.specs.Grammar.{Act, node, listed, heads, range, uid_range, dropped, Inner, a_body, an_extension_list, G, leaf, literal, nothing, mark, seq, alt, star, does, entry, ref, Reader, run}
use Rattle.grammar.specs.BodyStructure.{grammar}
use Rattle.grammar.specs.Rules.{levels}
use Rattle.table.specs.Table.{lay}
use Rattle.table.specs.Fill.{Filler, act_table, fill_with, fill_levels}
use Rattle.table.proofs.Onward.{onward_still}
use Rattle.table.proofs.Going.{Still}

-- a first byte ----------------------------------------------------------------------------------------------------------------

abbrev goes : Move → Bool
goes (on state value) = true
goes (end_before value) = true
goes (end_after value) = true
goes fail = false

-- g may begin with this byte; what may be empty may begin with any
unfoldable pub opens : G → ℕ → Bool
unfolding leaf_move first_state
opens (leaf l) b = goes (leaf_move l (first_state l) 0 b)
opens literal b = goes (header_move 0 0 b)
opens nothing b = true
opens (mark kind a) b = true
opens (seq g h) b = opens g b
opens (alt g h) b = opens g b || opens h b
opens (star g) b = true
opens (does a g) b = opens g b
opens (entry g) b = opens g b
opens (ref n) b = eqb b (code "(")

-- the end of the buffer leaves g unfinished; what may be empty it does not
unfoldable pub hungry : G → Bool
hungry (leaf l) = true
hungry literal = true
hungry nothing = false
hungry (mark kind a) = false
hungry (seq g h) = hungry g
hungry (alt g h) = hungry g
hungry (star g) = false
hungry (does a g) = hungry g
hungry (entry g) = hungry g
hungry (ref n) = true

-- a grammar over any inner readers finds o and writes nothing
record Idle (inner : Inner → Reader) (below : Inner → Filler) (g : G) (s : List ℕ) (at : ℕ) (o : Out) : Type 0 where
  read : run inner g s at ≡ o
  wrote : (t : List ℕ) → fill_with inner below g s at t ≡ t

or_false : (a b : Bool) → a || b ≡ false → (a ≡ false) × (b ≡ false)
or_false true b p = (p, absurd (subst (λ (x : Bool). T (x)) p tt))
or_false false b p = (refl, p)

fails_first : (m : Move) (at : ℕ) (next : ℕ → ℕ → Scanned) → goes m ≡ false → moved m at next ≡ failed
fails_first (on x y) at next p = absurd (subst T p tt)
fails_first (end_before x) at next p = absurd (subst T p tt)
fails_first (end_after x) at next p = absurd (subst T p tt)
fails_first fail at next p = refl

scan_fails : (move : ℕ → ℕ → ℕ → Move) (state : ℕ) (s : List ℕ) (at : ℕ) → at < length s → goes (move state 0 (get_or s at 0)) ≡ false
    → scan move state 0 (drop at s) at ≡ failed
unfolding scan
scan_fails move state s at l p =
    ap (λ (u : List ℕ). scan move state 0 u at) (drop-cons s at 0 l)
    ∙ fails_first (move state 0 (get_or s at 0)) at (λ state' value'. scan move state' value' (drop (suc at) s) (suc at)) p

scan_short : (move : ℕ → ℕ → ℕ → Move) (state : ℕ) (s : List ℕ) (at : ℕ) → length s ≤ at → scan move state 0 (drop at s) at ≡ short
unfolding scan
scan_short move state s at l = ap (λ (u : List ℕ). scan move state 0 u at) (drop_of_length-le s l)

-- what an act makes of a reading that wrote nothing and failed: nothing
act_refused : (a : Act) (at : ℕ) (write : List ℕ → List ℕ) (t : List ℕ) → ((u : List ℕ) → write u ≡ u) → act_table a at refused write t ≡ t
unfolding act_table
act_refused (node kind) at write t still = onward_still 1 write still t
act_refused listed at write t still = onward_still 1 write still t
act_refused heads at write t still = still t
act_refused range at write t still = refl
act_refused uid_range at write t still = refl
act_refused dropped at write t still = refl

act_more : (a : Act) (at : ℕ) (write : List ℕ → List ℕ) (t : List ℕ) → ((u : List ℕ) → write u ≡ u) → act_table a at (more 0) write t ≡ t
unfolding act_table
act_more (node kind) at write t still = onward_still 1 write still t
act_more listed at write t still = onward_still 1 write still t
act_more heads at write t still = still t
act_more range at write t still = refl
act_more uid_range at write t still = refl
act_more dropped at write t still = refl

module _ (inner : Inner → Reader) (below : Inner → Filler) (s : List ℕ) (at : ℕ) where
  module _ (l : at < length s) (shut : (n : Inner) → eqb (get_or s at 0) (code "(") ≡ false → Idle inner below (ref n) s at refused) where
    refused_by : (g : G) → opens g (get_or s at 0) ≡ false → Idle inner below g s at refused
    unfolding run fill_with opens leaf_at literal_at
    refused_by (leaf x) p =
        let e = ap (leaf_found x at) (scan_fails (leaf_move x) (first_state x) s at l p) in
        record { read = e; wrote = λ t. ap (λ (o : Out). lay o t) e }
    refused_by literal p =
        let e = ap (content (length s)) (scan_fails header_move 0 s at l p) in
        record { read = e; wrote = λ t. ap (λ (o : Out). lay o t) e }
    refused_by nothing p = absurd (subst T p tt)
    refused_by (mark kind a) p = absurd (subst T p tt)
    refused_by (seq g h) p =
        let x = refused_by g p in
        record { read = rw x.read; wrote = λ t. rw x.read (x.wrote t) }
    refused_by (alt g h) p =
        let q = or_false (opens g (get_or s at 0)) (opens h (get_or s at 0)) p in
        let x = refused_by g q.0 in
        let y = refused_by h q.1 in
        record { read = rw x.read y.read; wrote = λ t. rw (x.read, x.wrote t) (y.wrote t) }
    refused_by (star g) p = absurd (subst T p tt)
    refused_by (does a g) p =
        let x = refused_by g p in
        record { read = rw x.read; wrote = λ t. rw x.read (act_refused a at (λ u. fill_with inner below g s at u) t x.wrote) }
    refused_by (entry g) p =
        let x = refused_by g p in
        record { read = rw x.read; wrote = x.wrote }
    refused_by (ref n) p = shut n p

  module _ (l : length s ≤ at) (cut : (n : Inner) → Idle inner below (ref n) s at (more 0)) where
    short_by : (g : G) → T (hungry g) → Idle inner below g s at (more 0)
    unfolding run fill_with hungry leaf_at literal_at
    short_by (leaf x) p =
        let e = ap (leaf_found x at) (scan_short (leaf_move x) (first_state x) s at l) in
        record { read = e; wrote = λ t. ap (λ (o : Out). lay o t) e }
    short_by literal p =
        let e = ap (content (length s)) (scan_short header_move 0 s at l) in
        record { read = e; wrote = λ t. ap (λ (o : Out). lay o t) e }
    short_by nothing p = absurd p
    short_by (mark kind a) p = absurd p
    short_by (seq g h) p =
        let x = short_by g p in
        record { read = rw x.read; wrote = λ t. rw x.read (x.wrote t) }
    short_by (alt g h) p =
        let x = short_by g p in
        record { read = rw x.read; wrote = λ t. rw x.read (x.wrote t) }
    short_by (star g) p = absurd p
    short_by (does a g) p =
        let x = short_by g p in
        record { read = rw x.read; wrote = λ t. rw x.read (act_more a at (λ u. fill_with inner below g s at u) t x.wrote) }
    short_by (entry g) p =
        let x = short_by g p in
        record { read = rw x.read; wrote = x.wrote }
    short_by (ref n) p = cut n

-- what is one level deeper begins with an opening parenthesis
paren_opens : (b : ℕ) → eqb b (code "(") ≡ false → (n : Inner) → opens (grammar n) b ≡ false
unfolding opens grammar
paren_opens b p a_body = rw p
paren_opens b p an_extension_list = rw p

paren_hungry : (n : Inner) → T (hungry (grammar n))
unfolding hungry grammar
paren_hungry a_body = tt
paren_hungry an_extension_list = tt

shut_levels : (d : ℕ) (s : List ℕ) (at : ℕ) → at < length s → (n : Inner) → eqb (get_or s at 0) (code "(") ≡ false → Idle (levels d) (fill_levels d) (ref n) s at refused
unfolding run fill_with levels fill_levels leaf_at leaf_move first_state
shut_levels zero s at l n p =
    record { read = rw (scan_fails (leaf_move (tag (ascii "("))) 0 s at l (rw p)); wrote = λ t. refl }
shut_levels (suc d) s at l n p =
    let x = refused_by (levels d) (fill_levels d) s at l (shut_levels d s at l) (grammar n) (paren_opens (get_or s at 0) p n) in
    record { read = x.read; wrote = x.wrote }

cut_levels : (d : ℕ) (s : List ℕ) (at : ℕ) → length s ≤ at → (n : Inner) → Idle (levels d) (fill_levels d) (ref n) s at (more 0)
unfolding run fill_with levels fill_levels leaf_at leaf_move first_state
cut_levels zero s at l n =
    record { read = rw (scan_short (leaf_move (tag (ascii "("))) 0 s at l); wrote = λ t. refl }
cut_levels (suc d) s at l n =
    let x = short_by (levels d) (fill_levels d) s at l (cut_levels d s at l) (grammar n) (paren_hungry n) in
    record { read = x.read; wrote = x.wrote }

-- THE LAWS: g refuses at a byte that it does not begin with, and is unfinished at the end; it writes nothing
pub ruled_out : {d : ℕ} (g : G) {s : List ℕ} {at : ℕ} → at < length s → opens g (get_or s at 0) ≡ false → Still d g s at refused
ruled_out {d} g {s} {at} l p =
    let x = refused_by (levels d) (fill_levels d) s at l (shut_levels d s at l) g p in
    record { read = x.read; wrote = x.wrote }

pub cut_off : {d : ℕ} {g : G} {s : List ℕ} {at : ℕ} → T (hungry g) → length s ≤ at → Still d g s at (more 0)
cut_off {d} {g} {s} {at} p l =
    let x = short_by (levels d) (fill_levels d) s at l (cut_levels d s at l) g p in
    record { read = x.read; wrote = x.wrote }
