-- A literal's header: the digits of its count are a number's digits, and what follows them is compared.
use Prim.Native.Char.{code}
use Rattle.std.proofs.Common.{Result, Ok, Err, ℕ, zero, suc, ◌+◌, ◌-◌, ◌*◌, ◌/◌, ◌%◌, ◌≤◌, ◌<◌}
use mathlib.Core.Path.{◌≡◌, refl, sym, ap, subst, ◌∙◌}
use mathlib.Core.Bool.{Bool, true, false, ◌&&◌}
use mathlib.Core.List.{List, [], ◌∷◌}
use native.Mathlib.Omega.{arith}
use native.Mathlib.Numerals.{add-one}
use lib.ListN.{length, drop, get_or}
use lib.Dec.{leb, eqb, leb→le}
use Rattle.std.proofs.Common.{rules}
use borrow.Author.Tests.{leb-true, leb-false, le-leb, lt-leb, ne_eqb}
use Rattle.grammar.specs.Kinds.{kind_bytes}
use Rattle.grammar.specs.Forest.{node_of}
use Rattle.grammar.specs.Out.{took, more, refused, branch}
use Rattle.grammar.specs.Scan.{on, fail, Scanned, ended, short, failed, moved, scan, digit, digits_move, header_move, largest_32, content, literal_at}
use Rattle.grammar.specs.Grammar.{literal}
use Rattle.grammar.proofs.Tests.{branch_ind, T_right}
use Rattle.grammar.proofs.Scans.{Scans, Moves, goes_on, ends_before, ends_after, fails, Takes, scan_ind, scan_end, scan_bounds, scan_takes, scans_at}
use Rattle.table.specs.declared.Cursor.{Cursor}
use Rattle.table.specs.declared.Failure.{Failure}
use Rattle.table.specs.declared.Failure.TheVariants as failure
use Rattle.table.specs.Cursor.{IResult}
use Rattle.table.specs.Promise.{Room, Stands, Goes, Leafed}
use Rattle.table.proofs.Going.{short_of, refuses, wants, leaves, literal_still, literal_lays}
use Rattle.table.proofs.Bounds.{room}
use Rattle.table.proofs.Cursors.{went_on, came_back, handed_back}
use Rattle.table.proofs.Search.{reads}
use Rattle.parser_core.specs.Scanned.{number_of, header_of, Counts, Headers}
use Rattle.parser_core.proofs.Scanning.{Scanning, scanning_starts, scanning_on, scanning_short, scanning_fails, scanning_ends_after}

-- the digits of a count ---------------------------------------------------------------------------------------------------------

-- the byte where the list begins, and what is after it
drop_here : (s : List ℕ) (i b : ℕ) (r : List ℕ) → drop i s ≡ b ∷ r → (get_or s i 0 ≡ b) × (drop (suc i) s ≡ r)
drop_here [] zero b r e = absurd (let z : ◌≡◌ {A = ℕ} 0 1 = cc in omega arith)
drop_here [] (suc i) b r e = absurd (let z : ◌≡◌ {A = ℕ} 0 1 = cc in omega arith)
drop_here (c ∷ s) zero b r e = (cc, cc)
drop_here (c ∷ s) (suc i) b r e = drop_here s i b r e

-- the byte behind the digits: a brace, and the value in range
abbrev brace : List ℕ → ℕ → ℕ → Scanned
brace s e v =
    moved (branch (eqb (get_or s e 0) (code "}") && leb v largest_32) (λ u. on 3 v) (λ u. fail)) e
    (λ state value. scan header_move state value (drop (suc e) s) (suc e))

-- x is what the header's scan finds where the digits' scan finds the other
abbrev Follows : List ℕ → Scanned → Scanned → Type 0
Follows s x (ended e v) = x ≡ brace s e v
Follows s x short = x ≡ short
Follows s x failed = x ≡ failed

digits_follow : (s r : List ℕ) (i v : ℕ) → drop i s ≡ r → Follows s (scan header_move 2 v r i) (scan digits_move 1 v r i)
unfolding scan
digits_follow s [] i v p = refl
digits_follow s (b ∷ r) i v p =
    let h = drop_here s i b r p in
    go (digit b) refl h.0 h.1 (digits_follow s r (suc i) (v * 10 + (b - code "0")) h.1)
  where
    go : (x : Bool) → digit b ≡ x → get_or s i 0 ≡ b → drop (suc i) s ≡ r
        → Follows s (scan header_move 2 (v * 10 + (b - code "0")) r (suc i)) (scan digits_move 1 (v * 10 + (b - code "0")) r (suc i))
        → Follows s (moved (header_move 2 v b) i (λ q w. scan header_move q w r (suc i))) (moved (digits_move 1 v b) i (λ q w. scan digits_move q w r (suc i)))
    go true e q w ih = rw e ih
    go false e q w ih = rw e (sym (rw (q, w)))

-- from the first digit on
header_follows : (s : List ℕ) (i : ℕ) → Follows s (scan header_move 1 0 (drop i s) i) (scan digits_move 0 0 (drop i s) i)
unfolding scan
header_follows s i = go (drop i s) refl
  where
    value : (b : ℕ) → 0 * 10 + (b - code "0") ≡ b - code "0"
    value b = omega arith

    first : (b : ℕ) (r : List ℕ) (x : Bool) → digit b ≡ x → drop (suc i) s ≡ r
        → Follows s (moved (header_move 1 0 b) i (λ q w. scan header_move q w r (suc i))) (moved (digits_move 0 0 b) i (λ q w. scan digits_move q w r (suc i)))
    first b r true e w = rw (e, value b) (digits_follow s r (suc i) (b - code "0") w)
    first b r false e w = rw e refl

    go : (r : List ℕ) → drop i s ≡ r → Follows s (scan header_move 1 0 r i) (scan digits_move 0 0 r i)
    go [] p = refl
    go (b ∷ r) p = first b r (digit b) refl (drop_here s i b r p).1

-- digits end at a byte
digits_here : (s : List ℕ) (at : ℕ) → at ≤ length s
    → Scans (λ e v. e < length s) ((state value : ℕ) × Unit {0}) (scan digits_move 0 0 (drop at s) at)
digits_here s at l =
    scan_ind digits_move s (λ i q v. Unit {0}) (λ e v. e < length s)
    (λ i q v h x. branch_ind (Moves (λ i q v. Unit {0}) (λ e v. e < length s) i) (digit (get_or s i 0)) _ _ (λ t. goes_on tt)
    (λ t. branch_ind (Moves (λ i q v. Unit {0}) (λ e v. e < length s) i) (eqb q 0) _ _ (λ t. fails) (λ t. ends_before h)))
    at 0 0 l tt

-- what counted digits say of their scan
module _ {s : List ℕ} {i : ℕ} {r : Result (ℕ × ℕ) Failure} (counts : Counts largest_32 s i r) where
  -- the digits of a number, and its value is in range
  counts_ended : {p : ℕ × ℕ} → r ≡ Ok p → (scan digits_move 0 0 (drop i s) i ≡ ended p.0 p.1) × (p.1 ≤ largest_32)
  counts_ended {p} h = go (scan digits_move 0 0 (drop i s) i) (sym counts.is ∙ h)
    where
      fits : (e v : ℕ) (b : Bool) → leb v largest_32 ≡ b → branch b (λ u. Ok (e, v)) (λ u. Err failure.Refused) ≡ Ok p → (ended e v ≡ ended p.0 p.1) × (p.1 ≤ largest_32)
      fits e v true l q =
          let z : ◌≡◌ {A = Result (ℕ × ℕ) Failure} (Ok (e, v)) (Ok p) = q in
          let w : ◌≡◌ {A = ℕ × ℕ} (e, v) p = cc in
          (ap (λ (x : ℕ × ℕ). ended x.0 x.1) w, omega (arith, leb-true v largest_32 l, ap (λ (x : ℕ × ℕ). x.1) w))
      fits e v false l q = absurd (let z : ◌≡◌ {A = Result (ℕ × ℕ) Failure} (Err failure.Refused) (Ok p) = q in cc)

      go : (x : Scanned) → number_of largest_32 x ≡ Ok p → (x ≡ ended p.0 p.1) × (p.1 ≤ largest_32)
      go (ended e v) q = fits e v (leb v largest_32) refl q
      go short q = absurd (let z : ◌≡◌ {A = Result (ℕ × ℕ) Failure} (Err (failure.Unfinished 0)) (Ok p) = q in cc)
      go failed q = absurd (let z : ◌≡◌ {A = Result (ℕ × ℕ) Failure} (Err failure.Refused) (Ok p) = q in cc)

  -- no number: the header fails as its digits do
  counts_failed : (h : Scanned) {f : Failure} → r ≡ Err f → Follows s h (scan digits_move 0 0 (drop i s) i) → header_of h ≡ Err f
  counts_failed h {f} l = go (scan digits_move 0 0 (drop i s) i) (sym counts.is ∙ l)
    where
      fits : (e v : ℕ) (b : Bool) → branch {A = Result (ℕ × ℕ) Failure} b (λ u. Ok (e, v)) (λ u. Err failure.Refused) ≡ Err f
          → h ≡ moved (branch (eqb (get_or s e 0) (code "}") && b) (λ u. on 3 v) (λ u. fail)) e (λ state value. scan header_move state value (drop (suc e) s) (suc e))
          → header_of h ≡ Err f
      fits e v true p q = absurd (let z : ◌≡◌ {A = Result (ℕ × ℕ) Failure} (Ok (e, v)) (Err f) = p in cc)
      fits e v false p q = ap header_of (q ∙ none (eqb (get_or s e 0) (code "}"))) ∙ p
        where
          none : (x : Bool) → moved (branch (x && false) (λ u. on 3 v) (λ u. fail)) e (λ state value. scan header_move state value (drop (suc e) s) (suc e)) ≡ failed
          none true = refl
          none false = refl

      go : (x : Scanned) → number_of largest_32 x ≡ Err f → Follows s h x → header_of h ≡ Err f
      go (ended e v) p q = fits e v (leb v largest_32) p q
      go short p q = ap header_of q ∙ p
      go failed p q = ap header_of q ∙ p

  -- the byte behind the digits
  pub count_ends : {e v : ℕ} → r ≡ Ok (e, v) → e < length s
  count_ends {e} {v} l = go (leb i (length s)) refl
    where
      go : (b : Bool) → leb i (length s) ≡ b → e < length s
      go true q = scans_at (digits_here s i (leb-true i (length s) q)) (counts_ended l).0
      go false q =
          let k = leb-false i (length s) q in
          let z : short ≡ ended e v = sym (scan_end digits_move s 0 0 i (omega arith)) ∙ (counts_ended l).0 in
          absurd cc

pub count_room : {s : List ℕ} {at i e v : ℕ} {r : Result (ℕ × ℕ) Failure} → Counts largest_32 s i r → r ≡ Ok (e, v) → Room s at → Room s (e + 1)
count_room counts l room = record { inside = omega (arith, count_ends counts l); small = room.small }

-- the line end -------------------------------------------------------------------------------------------------------------------

headers_by : {q v : ℕ} {s : List ℕ} {at : ℕ} (x : Scanned) → scan header_move q v (drop at s) at ≡ x → Headers q v s at (header_of x)
headers_by x p = record { is = sym (ap header_of p) }

-- the buffer ends
pub header_short : {q v : ℕ} {s : List ℕ} {at : ℕ} → length s ≤ at → Headers q v s at (Err (failure.Unfinished 0))
header_short {q} {v} {s} {at} h = headers_by short (scan_end header_move s q v at h)

module _ {n : ℕ} {s : List ℕ} {at : ℕ} (h : at < length s) where
  pub line_wrong : (get_or s at 0 ≡ code "\r" → ⊥) → Headers 3 n s at (Err failure.Refused)
  line_wrong p = headers_by failed (scanning_fails (scanning_starts (omega arith)) h (rw (ne_eqb (get_or s at 0) (code "\r") p)))

  module _ (p : get_or s at 0 ≡ code "\r") where
    behind_cr : Scanning header_move 3 n s at 4 n (at + 1)
    behind_cr = scanning_on (scanning_starts (omega arith)) h (rw p)

    pub line_short : length s ≤ at + 1 → Headers 3 n s at (Err (failure.Unfinished 0))
    line_short k = headers_by short (scanning_short behind_cr k)

    pub line_wrong_2 : at + 1 < length s → (get_or s (at + 1) 0 ≡ code "\n" → ⊥) → Headers 3 n s at (Err failure.Refused)
    line_wrong_2 k q = headers_by failed (scanning_fails behind_cr k (rw (ne_eqb (get_or s (at + 1) 0) (code "\n") q)))

    pub line_done : at + 1 < length s → get_or s (at + 1) 0 ≡ code "\n" → Headers 3 n s at (Ok (at + 1 + 1, n))
    line_done k q = headers_by (ended (at + 1 + 1) n) (scanning_ends_after behind_cr k (rw q))

-- the whole header ---------------------------------------------------------------------------------------------------------------

module _ {s : List ℕ} {at : ℕ} (h : at < length s) where
  pub header_wrong : (get_or s at 0 ≡ code "{" → ⊥) → Headers 0 0 s at (Err failure.Refused)
  header_wrong p = headers_by failed (scanning_fails (scanning_starts (omega arith)) h (rw (ne_eqb (get_or s at 0) (code "{") p)))

  -- behind the opening brace the count was found
  module _ {r : Result (ℕ × ℕ) Failure} (p : get_or s at 0 ≡ code "{") (counts : Counts largest_32 s (at + 1) r) where
    opening : Scanning header_move 0 0 s at 1 0 (at + 1)
    opening = scanning_on (scanning_starts (omega arith)) h (rw p)

    behind_open : scan header_move 1 0 (drop (at + 1) s) (at + 1) ≡ scan header_move 0 0 (drop at s) at
    behind_open = opening.same

    pub no_count : {q : Result (ℕ × ℕ) Failure} {f : Failure} → r ≡ Err f → q ≡ Err f → Headers 0 0 s at q
    no_count l e = record {
      is = e ∙ sym (counts_failed counts (scan header_move 1 0 (drop (at + 1) s) (at + 1)) l (header_follows s (at + 1))) ∙ ap header_of behind_open;
    }

    module _ {e v : ℕ} (l : r ≡ Ok (e, v)) where
      followed : scan header_move 0 0 (drop at s) at ≡ brace s e v
      followed = sym behind_open ∙ subst (Follows s (scan header_move 1 0 (drop (at + 1) s) (at + 1))) (counts_ended counts l).0 (header_follows s (at + 1))

      pub no_brace : (get_or s e 0 ≡ code "}" → ⊥) → Headers 0 0 s at (Err failure.Refused)
      no_brace n = headers_by failed (followed ∙ rw (ne_eqb (get_or s e 0) (code "}") n))

      pub with_brace : {x : Result (ℕ × ℕ) Failure} → get_or s e 0 ≡ code "}" → Headers 3 v s (e + 1) x → Headers 0 0 s at x
      with_brace b x =
          let z : brace s e v ≡ scan header_move 3 v (drop (e + 1) s) (e + 1) = rw (b, le-leb v largest_32 (counts_ended counts l).1, add-one e) in
          record { is = x.is ∙ ap header_of (sym z ∙ sym followed) }

-- what a literal's reader makes of its header -----------------------------------------------------------------------------------

-- behind the closing brace the count is in range
abbrev Small : ℕ → ℕ → Type 0
Small zero v = Unit {0}
Small (suc zero) v = Unit {0}
Small (suc (suc zero)) v = Unit {0}
Small (suc (suc (suc q))) v = v ≤ largest_32

small_moves : (i q v b : ℕ) → Small q v → Moves (λ i q v. Small q v) (λ e v. v ≤ largest_32) i (header_move q v b)
small_moves i zero v b x = branch_ind (Moves (λ i q v. Small q v) (λ e v. v ≤ largest_32) i) (eqb b (code "{")) _ _ (λ t. goes_on tt) (λ t. fails)
small_moves i (suc zero) v b x = branch_ind (Moves (λ i q v. Small q v) (λ e v. v ≤ largest_32) i) (digit b) _ _ (λ t. goes_on tt) (λ t. fails)
small_moves i (suc (suc zero)) v b x =
    branch_ind (Moves (λ i q v. Small q v) (λ e v. v ≤ largest_32) i) (digit b) _ _ (λ t. goes_on tt)
    (λ t. branch_ind (Moves (λ i q v. Small q v) (λ e v. v ≤ largest_32) i) (eqb b (code "}") && leb v largest_32) _ _
    (λ u. goes_on (leb→le v largest_32 (T_right (eqb b (code "}")) (leb v largest_32) u))) (λ u. fails))
small_moves i (suc (suc (suc zero))) v b x = branch_ind (Moves (λ i q v. Small q v) (λ e v. v ≤ largest_32) i) (eqb b (code "\r")) _ _ (λ t. goes_on x) (λ t. fails)
small_moves i (suc (suc (suc (suc q)))) v b x = branch_ind (Moves (λ i q v. Small q v) (λ e v. v ≤ largest_32) i) (eqb b (code "\n")) _ _ (λ t. ends_after x) (λ t. fails)

-- where the content begins, and how many bytes were announced
record Begins (s : List ℕ) (at start count : ℕ) : Type 0 where
  low : at < start
  high : start ≤ length s
  few : count ≤ largest_32

begins : {s : List ℕ} {at start count : ℕ} → at ≤ length s → scan header_move 0 0 (drop at s) at ≡ ended start count → Begins s at start count
begins {s} {at} l p = record {
  low = omega (arith, scans_at (scan_takes s header_move 0 0 (λ b. branch_ind Takes (eqb b (code "{")) _ _ (λ t. tt) (λ t. tt)) at l) p);
  high = (scans_at (scan_bounds s at l header_move 0 0) p).1;
  few = scans_at (scan_ind header_move s (λ i q v. Small q v) (λ e v. v ≤ largest_32) (λ i q v h x. small_moves i q v (get_or s i 0) x) at 0 0 l tt) p;
}

module _ {s : List ℕ} {at : ℕ} {h : Result (ℕ × ℕ) Failure} (room : Room s at) (headers : Headers 0 0 s at h) where
  headers_ended : {p : ℕ × ℕ} → h ≡ Ok p → scan header_move 0 0 (drop at s) at ≡ ended p.0 p.1
  headers_ended {p} l = go (scan header_move 0 0 (drop at s) at) (sym headers.is ∙ l)
    where
      go : (x : Scanned) → header_of x ≡ Ok p → x ≡ ended p.0 p.1
      go (ended start count) q =
          let z : ◌≡◌ {A = Result (ℕ × ℕ) Failure} (Ok (start, count)) (Ok p) = q in
          let w : ◌≡◌ {A = ℕ × ℕ} (start, count) p = cc in
          ap (λ (x : ℕ × ℕ). ended x.0 x.1) w
      go short q = absurd (let z : ◌≡◌ {A = Result (ℕ × ℕ) Failure} (Err (failure.Unfinished 0)) (Ok p) = q in cc)
      go failed q = absurd (let z : ◌≡◌ {A = Result (ℕ × ℕ) Failure} (Err failure.Refused) (Ok p) = q in cc)

  module _ {start count : ℕ} (l : h ≡ Ok (start, count)) where
    -- where the content begins, and how long it may be
    pub content_after : at < start
    content_after = (begins room.inside (headers_ended l)).low

    pub content_inside : start ≤ length s
    content_inside = (begins room.inside (headers_ended l)).high

    pub content_few : count ≤ largest_32
    content_few = (begins room.inside (headers_ended l)).few

    found : (b : Bool) → leb (start + count) (length s) ≡ b
        → literal_at s at ≡ branch b (λ u. took (start + count) (node_of kind_bytes start (start + count))) (λ u. more ((start + count) - length s))
    unfolding literal_at
    found b e = ap (content (length s)) (headers_ended l) ∙ rw e

    -- it is there
    pub content_there : start + count ≤ length s → literal_at s at ≡ took (start + count) (node_of kind_bytes start (start + count))
    content_there k = found true (le-leb (start + count) (length s) k)

    -- bytes of it are missing
    pub content_missing : length s < start + count → literal_at s at ≡ more ((start + count) - length s)
    content_missing k = found false (lt-leb (start + count) (length s) k)

  -- no header: unfinished, or not the grammar
  pub header_fails : {A : Type 0} {f : Failure} → h ≡ Err f → (literal_at s at ≡ more 0 → f ≡ failure.Unfinished 0 → A) → (literal_at s at ≡ refused → f ≡ failure.Refused → A) → A
  unfolding literal_at
  header_fails {A} {f} l a b = go (scan header_move 0 0 (drop at s) at) refl (sym headers.is ∙ l)
    where
      go : (x : Scanned) → scan header_move 0 0 (drop at s) at ≡ x → header_of x ≡ Err f → A
      go (ended start count) p q = absurd (let z : ◌≡◌ {A = Result (ℕ × ℕ) Failure} (Ok (start, count)) (Err f) = q in cc)
      go short p q = a (ap (content (length s)) p) (let z : ◌≡◌ {A = Result (ℕ × ℕ) Failure} (Err (failure.Unfinished 0)) (Err f) = q in cc)
      go failed p q = b (ap (content (length s)) p) (let z : ◌≡◌ {A = Result (ℕ × ℕ) Failure} (Err failure.Refused) (Err f) = q in cc)

-- so of its reader
module _ {s : List ℕ} {c : IResult} {at : Cursor} {h : Result (ℕ × ℕ) Failure} (going : c ≡ Ok at) (stands : Stands 0 s c) (headers : Headers 0 0 s at.place h) where
  pub literal_fails : {q : IResult} {f : Failure} {t : List ℕ} → h ≡ Err f → q ≡ Err f → Goes 0 literal s c q t t
  literal_fails {t = t} l back =
      header_fails (room going stands) headers l
      (λ p e. subst (λ (k : IResult). Goes 0 literal s c k t t) (sym (back ∙ ap Err e)) (short_of going stands (literal_still (more 0) (λ u. refl) p)))
      (λ p e. subst (λ (k : IResult). Goes 0 literal s c k t t) (sym (back ∙ ap Err e)) (refuses going stands (literal_still refused (λ u. refl) p)))

  module _ {start count : ℕ} (l : h ≡ Ok (start, count)) where
    -- the sum of its start and its length is no large number
    pub literal_sum : start + count < 18446744073709551616
    literal_sum = let k = room going stands in omega (arith, content_inside k headers l, content_few k headers l, stands.small)

    pub literal_start : start < 4294967296
    literal_start = let k = room going stands in omega (arith, content_inside k headers l, stands.small)

    pub literal_end : start + count ≤ length s → start + count < 4294967296
    literal_end k = omega (arith, stands.small)

    pub literal_wants : {t : List ℕ} → length s < start + count → Goes 0 literal s c (Err (failure.Unfinished ((start + count) - length s))) t t
    literal_wants k =
        wants going stands ((start + count) - length s)
        (literal_still (more ((start + count) - length s)) (λ u. refl) (content_missing (room going stands) headers l k))

    pub literal_goes : {q : Cursor} {t t' : List ℕ} → start + count ≤ length s → Leafed kind_bytes start (start + count) (start + count) at q t t' → Goes 0 literal s c (Ok q) t t'
    literal_goes k w =
        leaves going stands (literal_lays (content_there (room going stands) headers l k))
        (omega (arith, content_after (room going stands) headers l)) k w

-- what `search` is to know
pub ruleset line = (header_short, line_wrong, line_short, line_wrong_2, line_done, rules)

pub ruleset heading = (header_short, header_wrong, no_count, count_ends, count_room, no_brace, with_brace, went_on, came_back, handed_back, rules)

pub ruleset literals = (content_inside, literal_fails, literal_sum, literal_start, literal_end, literal_wants, literal_goes, reads)
