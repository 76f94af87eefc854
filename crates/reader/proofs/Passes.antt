-- From what one pass does, and a second if there is one, to what the reading answers.
use Rattle.std.proofs.Common.{Ok, Err, ℕ, ◌+◌, ◌*◌, ◌/◌, ◌≤◌, ◌<◌}
use mathlib.Core.Path.{◌≡◌, refl, sym, ap, subst, ◌∙◌}
use mathlib.Core.List.{List, ◌++◌}
use native.Mathlib.Omega.{arith}
use lib.ListN.{length, take, drop}
use lib.Seq.{length-take-le, take_at}
use borrow.Author.Tests.{le-leb, lt-leb}
use Rattle.grammar.specs.Forest.{Forest, size, words}
use Rattle.grammar.specs.Out.{Out, took, more, refused, deep}
use Rattle.grammar.specs.Rules.{rule}
use Rattle.grammar.specs.Reading.{reading, settled, result_at, result, deepest_level, length_limit, last_rule}
use Rattle.grammar.proofs.Forests.{length_words}
use Rattle.table.specs.declared.Cursor.{Cursor}
use Rattle.table.specs.declared.Failure.{Failure}
use Rattle.table.specs.declared.Failure.TheVariants as failure
use Rattle.table.specs.Cursor.{More, Refused, Deep, IResult, first, step, behind, Stops, place_of, nodes_of, find}
use Rattle.table.specs.Promise.{Goes}
use Rattle.table.proofs.Cursors.{failed_stops}
use Rattle.table.proofs.Whole.{whole_read, whole_fill, whole_length}
use Rattle.table.proofs.Words.{fill_words, fill_exact}
use Rattle.reader.specs.declared.Answer.{Answer}
use Rattle.reader.specs.declared.Answer.TheVariants.{Accepted, Unfinished, NotTheGrammar, TooDeep, NoRoom, UnknownRule, TooLong}
use Rattle.reader.specs.Answers.{numbered, failed, Answers}

-- the table is the result's, whatever the answer
pub table_numbered : (r : Answer) (t : List ℕ) → t ≡ (numbered r t).table
table_numbered (Accepted taken nodes) t = refl
table_numbered (Unfinished wanted) t = refl
table_numbered NotTheGrammar t = refl
table_numbered TooDeep t = refl
table_numbered (NoRoom nodes) t = refl
table_numbered UnknownRule t = refl
table_numbered TooLong t = refl

-- the checks before a reading, passed
pub record Known (n : ℕ) (s : List ℕ) : Type 0 where
  pub from : 1 ≤ n
  pub to : n ≤ last_rule
  pub small : length s ≤ length_limit

pub known_by : {n : ℕ} {s : List ℕ} → (1 ≤ n) × (n ≤ last_rule) → length s ≤ length_limit → Known n s
known_by k h = record { from = k.0; to = k.1; small = h }

-- what the definition finds
abbrev pub finding : ℕ → List ℕ → Out
finding n s = find deepest_level (rule n) s 0

known : {n : ℕ} {s : List ℕ} → Known n s → (t : List ℕ) → result n s t ≡ settled t (finding n s)
unfolding result result_at reading
known {n} {s} k t = rw (le-leb 1 n k.from, le-leb n last_rule k.to, le-leb (length s) length_limit k.small)

-- the table is as it was
answered : {n : ℕ} {s t : List ℕ} (a : Answer) (o : Out) → Known n s → finding n s ≡ o → numbered a t ≡ settled t o → Answers n s t a t
answered {t = t} a o k p e = record { is = e ∙ sym (known k t ∙ ap (settled t) p) }

failed_settled : (f : Failure) (o : Out) (t : List ℕ) → step (Err f) ≡ behind 0 o → numbered (failed f) t ≡ settled t o
failed_settled f (took end x) t h = absurd (subst Stops h (failed_stops f))
failed_settled (failure.Unfinished w) (more wanted) t h = ap (λ (k : ℕ). numbered (Unfinished k) t) (let z : More w ≡ More wanted = h in cc)
failed_settled failure.Refused (more wanted) t h = absurd (let z : Refused ≡ More wanted = h in cc)
failed_settled failure.TooDeep (more wanted) t h = absurd (let z : Deep ≡ More wanted = h in cc)
failed_settled (failure.Unfinished w) refused t h = absurd (let z : More w ≡ Refused = h in cc)
failed_settled failure.Refused refused t h = refl
failed_settled failure.TooDeep refused t h = absurd (let z : Deep ≡ Refused = h in cc)
failed_settled (failure.Unfinished w) deep t h = absurd (let z : More w ≡ Deep = h in cc)
failed_settled failure.Refused deep t h = absurd (let z : Refused ≡ Deep = h in cc)
failed_settled failure.TooDeep deep t h = refl

-- what a pass that did not fail found
record Found (o : Out) (c : Cursor) : Type 0 where
  forest : Forest
  is : o ≡ took c.place forest
  sized : c.nodes ≡ size forest

taken : (n : ℕ) {s u v : List ℕ} {q : IResult} {c : Cursor} → Goes deepest_level (rule n) s first q u v → q ≡ Ok c → Found (finding n s) c
taken n {s} {c = c} d on = go (finding n s) (ap step (sym on) ∙ whole_read d)
  where
    go : (o : Out) → step (Ok c) ≡ behind 0 o → Found o c
    go (took e f) p =
        let a : c.place ≡ e = ap place_of p in
        let b : c.nodes ≡ size f + 0 = ap nodes_of p in
        record { forest = f; is = ap (λ (j : ℕ). took j f) (sym a); sized = omega arith }
    go (more w) p = absurd (subst Stops (sym p) tt)
    go refused p = absurd (subst Stops (sym p) tt)
    go deep p = absurd (subst Stops (sym p) tt)

-- the first pass, over scratch words
module _ {n : ℕ} {s t u v : List ℕ} {q : IResult} (k : Known n s) (d : Goes deepest_level (rule n) s first q u v) where
  pub fails : {a : Answer} {f : Failure} → q ≡ Err f → a ≡ failed f → Answers n s t a t
  fails {f = f} h p = rw p (answered (failed f) (finding n s) k refl (failed_settled f (finding n s) t (ap step (sym h) ∙ whole_read d)))

  module _ {c : Cursor} (on : q ≡ Ok c) where
    -- more nodes than room
    pub no_room : length t / 4 < c.nodes → Answers n s t (NoRoom c.nodes) t
    no_room h =
        let f = taken n d on in
        let i : length t / 4 < size f.forest = omega (arith, f.sized) in
        answered (NoRoom c.nodes) (took c.place f.forest) k f.is (rw (lt-leb (size f.forest) (length t / 4) i, ← f.sized))

    -- the nodes' words, and behind them the table as it was
    put_before : {w : List ℕ} (f : Found (finding n s) c) → c.nodes ≤ length t / 4 → w ≡ words f.forest
        → Answers n s t (Accepted c.place c.nodes) (w ++ drop (4 * c.nodes) t)
    put_before f h w =
        let i : size f.forest ≤ length t / 4 = omega (arith, f.sized) in
        record {
          is =
              ap (λ (x : List ℕ). numbered (Accepted c.place c.nodes) (x ++ drop (4 * c.nodes) t)) w
              ∙ ap (λ (x : ℕ). numbered (Accepted c.place x) (words f.forest ++ drop (4 * x) t)) f.sized
              ∙ sym (known k t ∙ ap (settled t) f.is ∙ rw (le-leb (size f.forest) (length t / 4) i));
        }

    -- the scratch has room for the nodes: it begins with their words
    pub copied : {front : List ℕ} → c.nodes ≤ length t / 4 → 4 * c.nodes ≤ length v → front ≡ take (4 * c.nodes) v
        → Answers n s t (Accepted c.place c.nodes) (front ++ drop (4 * c.nodes) t)
    copied h l p =
        let f = taken n d on in
        let b = fill_words deepest_level (rule n) s 0 u c.place f.forest f.is (omega (arith, whole_length d, f.sized)) in
        let w : take (4 * c.nodes) v ≡ words f.forest =
        ap (take (4 * c.nodes)) (whole_fill d ∙ b.is) ∙ take_at (words f.forest) b.rest (4 * c.nodes) (omega (arith, length_words f.forest, f.sized)) in
        put_before f h (p ∙ w)

    -- a second pass fills just the nodes' words
    pub passed_again : {q' : IResult} {w : List ℕ} → c.nodes ≤ length t / 4 → Goes deepest_level (rule n) s first q' (take (4 * c.nodes) t) w
        → Answers n s t (Accepted c.place c.nodes) (w ++ drop (4 * c.nodes) t)
    passed_again h d' =
        let f = taken n d on in
        let l : length (take (4 * c.nodes) t) ≡ 4 * size f.forest = length-take-le (4 * c.nodes) t (omega arith) ∙ ap (λ (x : ℕ). 4 * x) f.sized in
        put_before f h (whole_fill d' ∙ fill_exact deepest_level (rule n) s 0 (take (4 * c.nodes) t) c.place f.forest f.is l)

pub unknown : {n : ℕ} {s t : List ℕ} → n < 1 → Answers n s t UnknownRule t
unfolding result result_at
unknown {n} {s} {t} h = record { is = rw (lt-leb 1 n h) }

pub past_the_last : {n : ℕ} {s t : List ℕ} → 1 ≤ n → last_rule < n → Answers n s t UnknownRule t
unfolding result result_at
past_the_last {n} {s} {t} a h = record { is = rw (le-leb 1 n a, lt-leb n last_rule h) }

pub too_long : {n : ℕ} {s t : List ℕ} → 1 ≤ n → n ≤ last_rule → length_limit < length s → Answers n s t TooLong t
unfolding result result_at
too_long {n} {s} {t} a b h = record { is = rw (le-leb 1 n a, le-leb n last_rule b, lt-leb (length s) length_limit h) }

-- the words that a second pass is lent
pub lent_words : (t : List ℕ) (m : ℕ) → m ≤ length t / 4 → length (take (4 * m) t) ≡ 4 * m
lent_words t m h = length-take-le (4 * m) t (omega arith)
