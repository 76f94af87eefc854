-- Runs of digits: the loops over them, and what their answers say of the leaf.
use Prim.Native.Char.{code}
use Rattle.std.proofs.Common.{Option, Some, None, Result, Ok, Err, ℕ, ◌+◌, ◌-◌, ◌*◌, ◌/◌, ◌%◌, ◌≤◌, ◌<◌}
use mathlib.Core.Path.{◌≡◌, refl, sym, ap, subst, ◌∙◌}
use mathlib.Core.Bool.{Bool, true, false}
use mathlib.Core.List.{List}
use native.Mathlib.Omega.{arith}
use lib.ListN.{length, drop, get_or}
use lib.Dec.{T, leb, eqb}
use mir.Syntax.{w64}
use mir.Val as val
use borrow.Author.Tests.{le-leb, lt-leb, leb-true, leb-false}
use Rattle.grammar.specs.Kinds.{kind_number}
use Rattle.grammar.specs.Forest.{node_of}
use Rattle.grammar.specs.Out.{took, more, refused, branch}
use Rattle.grammar.specs.Scan.{digit, on, end_before, fail, Scanned, ended, failed, scan, digits_move, digits, two_32, largest_32, largest_64}
use Rattle.grammar.specs.Scan.{leaf_move, first_state, leaf_fits, leaf_nodes, leaf_found, leaf_at}
use Rattle.grammar.specs.Grammar.{leaf}
use Rattle.grammar.specs.Core.{number, number_64}
use Rattle.grammar.specs.Reading.{length_limit}
use Rattle.grammar.proofs.Tests.{digit_low, digit_high}
use Rattle.grammar.proofs.Scans.{Scans, scans_ended, scans_short, scans_failed, Moves, goes_on, ends_before, fails, scan_ind}
use Rattle.table.specs.declared.Cursor.{Cursor}
use Rattle.table.specs.declared.Failure.{Failure}
use Rattle.table.specs.declared.Failure.TheVariants as failure
use Rattle.table.specs.Cursor.{IResult}
use Rattle.table.specs.Promise.{Room, Stands, Goes, Leafed}
use Rattle.table.proofs.Going.{short_of, refuses, leaves, leaf_still, leaf_lays}
use Rattle.table.proofs.Bounds.{room}
use Rattle.parser_core.specs.Scanned.{Overruns, value_of, number_of, Counts}
use Rattle.parser_core.proofs.Scanning.{Scanning, scanning_starts, scanning_on, scanning_short, scanning_ends_before, scanning_fails}

-- a digit ------------------------------------------------------------------------------------------------------------------

module _ (b : ℕ) {t : Bool} (q : t ≡ true) (p : t ≡ digit b) where
  is_digit : T (digit b)
  is_digit = subst T (sym (sym p ∙ q)) tt

  -- its byte
  pub digit_least : code "0" ≤ b
  digit_least = digit_low b is_digit

  digit_most : b ≤ code "9"
  digit_most = digit_high b is_digit

  -- and its value
  pub digit_word : val.Fits w64 (b - code "0")
  digit_word = record { fits = let low = digit_least in let high = digit_most in omega arith }

  pub digit_small : {largest : ℕ} → 9 ≤ largest → b - code "0" ≤ largest
  digit_small h = let low = digit_least in let high = digit_most in omega arith

-- the digits up to a place ---------------------------------------------------------------------------------------------------

-- all bytes up to i are digits, of the value `sum`
pub record Summing (s : List ℕ) (at i sum : ℕ) : Type 0 where
  pub scanning : Scanning digits_move 0 0 s at 1 sum i

module _ (s : List ℕ) (at : ℕ) {t : Bool} (h : at < length s) (p : t ≡ digit (get_or s at 0)) where
  -- a first digit
  sum_starts : t ≡ true → Summing s at (at + 1) (get_or s at 0 - code "0")
  sum_starts q =
      let e : digit (get_or s at 0) ≡ true = sym p ∙ q in
      let v : 0 * 10 + (get_or s at 0 - code "0") ≡ get_or s at 0 - code "0" = omega arith in
      let m : digits_move 0 0 (get_or s at 0) ≡ on 1 (get_or s at 0 - code "0") = rw e (ap (on 1) v) in
      record { scanning = scanning_on (scanning_starts (omega arith)) h m }

  -- a first byte that is none
  sum_fails : t ≡ false → scan digits_move 0 0 (drop at s) at ≡ failed
  sum_fails q =
      let e : digit (get_or s at 0) ≡ false = sym p ∙ q in
      let m : digits_move 0 0 (get_or s at 0) ≡ fail = rw e in
      scanning_fails (scanning_starts (omega arith)) h m

module _ {s : List ℕ} {at i sum : ℕ} (inv : Summing s at i sum) {t : Bool} (h : i < length s) (p : t ≡ digit (get_or s i 0)) where
  -- one more digit
  sum_on : t ≡ true → Summing s at (i + 1) (sum * 10 + (get_or s i 0 - code "0"))
  sum_on q =
      let e : digit (get_or s i 0) ≡ true = sym p ∙ q in
      let m : digits_move 1 sum (get_or s i 0) ≡ on 1 (sum * 10 + (get_or s i 0 - code "0")) = rw e in
      record { scanning = scanning_on inv.scanning h m }

  -- a byte that is none
  sum_ends : t ≡ false → scan digits_move 0 0 (drop at s) at ≡ ended i sum
  sum_ends q =
      let e : digit (get_or s i 0) ≡ false = sym p ∙ q in
      let m : digits_move 1 sum (get_or s i 0) ≡ end_before sum = rw e in
      scanning_ends_before inv.scanning h m

-- THE INVARIANT of `digits`: their value so far, which is not too large --------------------------------------------------------

pub record Counting (largest : ℕ) (s : List ℕ) (at i value : ℕ) : Type 0 where
  pub summing : Summing s at i value
  pub fits : value ≤ largest

as_number : {largest : ℕ} {s : List ℕ} {at : ℕ} {r : Result (ℕ × ℕ) Failure} {x : Scanned} → scan digits_move 0 0 (drop at s) at ≡ x
    → r ≡ number_of largest x → Counts largest s at r
as_number {largest} p e = record { is = e ∙ sym (ap (number_of largest) p) }

-- no byte at all
pub counts_none : {largest : ℕ} {s : List ℕ} {at : ℕ} → Room s at → length s ≤ at → Counts largest s at (Err (failure.Unfinished 0))
counts_none room h = as_number (scanning_short (scanning_starts room.inside) h) refl

module _ {largest : ℕ} {s : List ℕ} {at : ℕ} {t : Bool} (h : at < length s) (p : t ≡ digit (get_or s at 0)) where
  -- a first byte that is no digit
  pub counts_wrong : t ≡ false → Counts largest s at (Err failure.Refused)
  counts_wrong q = as_number (sum_fails s at h p q) refl

  -- a first digit
  pub counting_starts : t ≡ true → 9 ≤ largest → Counting largest s at (at + 1) (get_or s at 0 - code "0")
  counting_starts q l = record { summing = sum_starts s at h p q; fits = digit_small (get_or s at 0) q p l }

-- one more digit fits, or not
pub more_fits : {largest v m : ℕ} → Some m ≡ value_of largest v → (m ≡ v) × (v ≤ largest)
more_fits {largest} {v} {m} p = cases (leb v largest) refl p
  where
    cases : (t : Bool) → leb v largest ≡ t → Some m ≡ branch t (λ u. Some v) (λ u. None) → (m ≡ v) × (v ≤ largest)
    cases true e q = let z : ◌≡◌ {A = Option ℕ} (Some m) (Some v) = q in (cc, leb-true v largest e)
    cases false e q = absurd (let z : ◌≡◌ {A = Option ℕ} (Some m) None = q in cc)

more_large : {largest v : ℕ} → None ≡ value_of largest v → largest < v
more_large {largest} {v} p = cases (leb v largest) refl p
  where
    cases : (t : Bool) → leb v largest ≡ t → None ≡ branch t (λ u. Some v) (λ u. None) → largest < v
    cases true e q = absurd (let z : ◌≡◌ {A = Option ℕ} None (Some v) = q in cc)
    cases false e q = leb-false v largest e

module _ {largest : ℕ} {s : List ℕ} {at i value : ℕ} (inv : Counting largest s at i value) where
  -- the buffer ends
  pub counts_short : length s ≤ i → Counts largest s at (Err (failure.Unfinished 0))
  counts_short h = as_number (scanning_short inv.summing.scanning h) refl

  module _ {t : Bool} (h : i < length s) (p : t ≡ digit (get_or s i 0)) where
    -- a byte that is none
    pub counts_ends : t ≡ false → Counts largest s at (Ok (i, value))
    counts_ends q = as_number (sum_ends inv.summing h p q) (rw (le-leb value largest inv.fits))

    module _ {r : Option ℕ} (q : t ≡ true) (w : r ≡ value_of largest (value * 10 + (get_or s i 0 - code "0"))) where
      -- one more digit
      pub counting_on : {m : ℕ} → r ≡ Some m → Counting largest s at (i + 1) m
      counting_on {m} e =
          let x = more_fits (sym e ∙ w) in
          record {
            summing = subst (λ (v : ℕ). Summing s at (i + 1) v) (sym x.0) (sum_on inv.summing h p q);
            fits = omega (arith, x.0, x.1);
          }

      -- the value is too large
      pub counts_over : {f : Failure} → r ≡ None → Overruns s (i + 1) f → Counts largest s at (Err f)
      counts_over e over =
          let x = sum_on inv.summing h p q in
          record { is = sym (ap (number_of largest) (sym x.scanning.same) ∙ over.is largest _ (more_large (sym e ∙ w))) }

-- the rest of a number that is too large -------------------------------------------------------------------------------------------

-- from any value on: the digits up to i only add to it
pub record Added (s : List ℕ) (at i value : ℕ) : Type 0 where
  pub sum : ℕ
  pub grown : value ≤ sum
  pub scanning : Scanning digits_move 1 value s at 1 sum i

-- THE INVARIANT of `too_large`
pub record Overrunning (s : List ℕ) (at i : ℕ) : Type 0 where
  pub from : (value : ℕ) → Added s at i value
  pub inside : i ≤ length s

pub over_starts : {s : List ℕ} {at : ℕ} → Room s at → Overrunning s at at
over_starts room = record {
  from = λ value. record { sum = value; grown = omega arith; scanning = scanning_starts room.inside };
  inside = room.inside;
}

module _ {s : List ℕ} {at i : ℕ} (inv : Overrunning s at i) where
  pub over_short : length s ≤ i → Overruns s at (failure.Unfinished 0)
  over_short h = record { is = λ largest value l. ap (number_of largest) (scanning_short (inv.from value).scanning h) }

  module _ {t : Bool} (h : i < length s) where
    pub over_on : t ≡ true → t ≡ digit (get_or s i 0) → Overrunning s at (i + 1)
    over_on q p = record {
      from = λ value.
          let x = inv.from value in
          let e : digit (get_or s i 0) ≡ true = sym p ∙ q in
          let m : digits_move 1 x.sum (get_or s i 0) ≡ on 1 (x.sum * 10 + (get_or s i 0 - code "0")) = rw e in
          record { sum = x.sum * 10 + (get_or s i 0 - code "0"); grown = omega (arith, x.grown); scanning = scanning_on x.scanning h m };
      inside = omega arith;
    }

    pub over_ends : t ≡ false → t ≡ digit (get_or s i 0) → Overruns s at failure.Refused
    over_ends q p = record {
      is = λ largest value l.
          let x = inv.from value in
          let e : digit (get_or s i 0) ≡ false = sym p ∙ q in
          let m : digits_move 1 x.sum (get_or s i 0) ≡ end_before x.sum = rw e in
          let large : largest < x.sum = omega (arith, x.grown) in
          ap (number_of largest) (scanning_ends_before x.scanning h m) ∙ rw (lt-leb x.sum largest large);
    }

-- what the answers say of the leaf -----------------------------------------------------------------------------------------------

-- where digits that began at `at` end: behind the first of them, before the buffer's end, at a byte that is none
pub record Past (s : List ℕ) (at e : ℕ) : Type 0 where
  pub low : at < e
  pub high : e < length s
  pub plain : digit (get_or s e 0) ≡ false

module _ (s : List ℕ) (at : ℕ) where
  -- while digits are scanned: in any state but the first there was one
  abbrev Between : ℕ → ℕ → ℕ → Type 0
  Between i state value = (at ≤ i) × (eqb state 0 ≡ false → at < i)

  past_turn : (i state value : ℕ) → i < length s → Between i state value → Moves Between (λ e v. Past s at e) i (digits_move state value (get_or s i 0))
  past_turn i state value l h = turn (digit (get_or s i 0)) refl (eqb state 0) h.1
    where
      turn : (t : Bool) → digit (get_or s i 0) ≡ t → (z : Bool) → (z ≡ false → at < i)
          → Moves Between (λ e v. Past s at e) i
          (branch t (λ u. on 1 (value * 10 + (get_or s i 0 - code "0"))) (λ u. branch z (λ u. fail) (λ u. end_before value)))
      turn true p z k = goes_on (let low = h.0 in (omega arith, λ (e : eqb 1 0 ≡ false). omega arith))
      turn false p true k = fails
      turn false p false k = ends_before record { low = k refl; high = l; plain = p }

  digits_past : at ≤ length s → Scans (λ e v. Past s at e) ((state value : ℕ) × Between (length s) state value) (scan digits_move 0 0 (drop at s) at)
  digits_past l = scan_ind digits_move s Between (λ e v. Past s at e) past_turn at 0 0 l (omega arith, λ (e : eqb 0 0 ≡ false). absurd (let y : ◌≡◌ {A = ℕ} 0 1 = cc in omega arith))

-- what was counted: a number, the buffer's end, or neither
pub data NumberCase (largest : ℕ) (s : List ℕ) (at : ℕ) : Result (ℕ × ℕ) Failure → Type 0 where
  number_value : {e v : ℕ} → leaf_at (digits largest) s at ≡ took e (node_of kind_number (v % two_32) (v / two_32)) → Past s at e → v ≤ largest
      → NumberCase largest s at (Ok (e, v))
  number_short : leaf_at (digits largest) s at ≡ more 0 → NumberCase largest s at (Err (failure.Unfinished 0))
  number_wrong : leaf_at (digits largest) s at ≡ refused → NumberCase largest s at (Err failure.Refused)

pub number_case : {largest : ℕ} {s : List ℕ} {at : ℕ} {r : Result (ℕ × ℕ) Failure} → Room s at → Counts largest s at r → NumberCase largest s at r
unfolding leaf_at leaf_move first_state leaf_fits leaf_nodes
number_case {largest} {s} {at} {r} room did = subst (NumberCase largest s at) (sym did.is) (split refl (digits_past s at room.inside))
  where
    fits : (e v : ℕ) → Past s at e → (t : Bool) → leb v largest ≡ t
        → leaf_at (digits largest) s at ≡ branch t (λ u. took e (node_of kind_number (v % two_32) (v / two_32))) (λ u. refused)
        → NumberCase largest s at (branch t (λ u. Ok (e, v)) (λ u. Err failure.Refused))
    fits e v k true h p = number_value p k (leb-true v largest h)
    fits e v k false h p = number_wrong p

    found : {x : Scanned} → scan digits_move 0 0 (drop at s) at ≡ x → leaf_at (digits largest) s at ≡ leaf_found (digits largest) at x
    found p = ap (leaf_found (digits largest) at) p

    split : {x : Scanned} {S : Type 0} → scan digits_move 0 0 (drop at s) at ≡ x → Scans (λ e v. Past s at e) S x
        → NumberCase largest s at (number_of largest (scan digits_move 0 0 (drop at s) at))
    split q (scans_ended {end} {value} k) = rw q (fits end value k (leb value largest) refl (found q))
    split q (scans_short k) = rw q (number_short (found q))
    split q scans_failed = rw q (number_wrong (found q))

module _ {largest : ℕ} {s : List ℕ} {at : ℕ} {r : Result (ℕ × ℕ) Failure} (room : Room s at) (did : Counts largest s at r) where
  -- what is known of a number that was counted
  pub record Numbered (e v : ℕ) : Type 0 where
    pub took : leaf_at (digits largest) s at ≡ took e (node_of kind_number (v % two_32) (v / two_32))
    pub past : Past s at e
    pub fits : v ≤ largest

  pub numbered : {p : ℕ × ℕ} → r ≡ Ok p → Numbered p.0 p.1
  numbered {p} e = cases (number_case room did) e
    where
      cases : {x : Result (ℕ × ℕ) Failure} → NumberCase largest s at x → x ≡ Ok p → Numbered p.0 p.1
      cases (number_value {e} {v} q k l) z =
          let y : ◌≡◌ {A = Result (ℕ × ℕ) Failure} (Ok (e, v)) (Ok p) = z in
          let w : ◌≡◌ {A = ℕ × ℕ} (e, v) p = cc in
          subst (λ (i : ℕ × ℕ). Numbered i.0 i.1) w (record { took = q; past = k; fits = l })
      cases (number_short q) z = absurd (let y : ◌≡◌ {A = Result (ℕ × ℕ) Failure} (Err (failure.Unfinished 0)) (Ok p) = z in cc)
      cases (number_wrong q) z = absurd (let y : ◌≡◌ {A = Result (ℕ × ℕ) Failure} (Err failure.Refused) (Ok p) = z in cc)

  -- and of none
  pub uncounted : {A : Type 0} {f : Failure} → r ≡ Err f → (leaf_at (digits largest) s at ≡ more 0 → f ≡ failure.Unfinished 0 → A)
      → (leaf_at (digits largest) s at ≡ refused → f ≡ failure.Refused → A) → A
  uncounted {A} {f} e a b = cases (number_case room did) e
    where
      cases : {x : Result (ℕ × ℕ) Failure} → NumberCase largest s at x → x ≡ Err f → A
      cases (number_value {e} {v} q k l) z = absurd (let y : ◌≡◌ {A = Result (ℕ × ℕ) Failure} (Ok (e, v)) (Err f) = z in cc)
      cases (number_short q) z = a q (let y : ◌≡◌ {A = Result (ℕ × ℕ) Failure} (Err (failure.Unfinished 0)) (Err f) = z in cc)
      cases (number_wrong q) z = b q (let y : ◌≡◌ {A = Result (ℕ × ℕ) Failure} (Err failure.Refused) (Err f) = z in cc)

-- so of their readers ------------------------------------------------------------------------------------------------------------

module _ {largest : ℕ} {s : List ℕ} {c : IResult} {at : Cursor} {r : Result (ℕ × ℕ) Failure} (going : c ≡ Ok at) (stands : Stands 0 s c) (did : Counts largest s at.place r) where
  digits_fail : {q : IResult} {f : Failure} {t : List ℕ} → r ≡ Err f → q ≡ Err f → Goes 0 (leaf (digits largest)) s c q t t
  digits_fail {t = t} e back =
      uncounted (room going stands) did e
      (λ p w. subst (λ (k : IResult). Goes 0 (leaf (digits largest)) s c k t t) (sym (back ∙ ap Err w)) (short_of going stands (leaf_still (more 0) (λ u. refl) p)))
      (λ p w. subst (λ (k : IResult). Goes 0 (leaf (digits largest)) s c k t t) (sym (back ∙ ap Err w)) (refuses going stands (leaf_still refused (λ u. refl) p)))

  digits_lay : {e v : ℕ} {q : Cursor} {t t' : List ℕ} → r ≡ Ok (e, v) → Leafed kind_number (v % two_32) (v / two_32) e at q t t' → Goes 0 (leaf (digits largest)) s c (Ok q) t t'
  digits_lay e w =
      let x = numbered (room going stands) did e in
      leaves going stands (leaf_lays x.took) x.past.low (omega (arith, x.past.high)) w

  pub digits_end : {e v : ℕ} → r ≡ Ok (e, v) → e ≤ length_limit
  digits_end e = omega (arith, (numbered (room going stands) did e).past.high, stands.small)

module _ {s : List ℕ} {c : IResult} {at : Cursor} {r : Result (ℕ × ℕ) Failure} (going : c ≡ Ok at) (stands : Stands 0 s c) where
  -- a number of 32 bits: a failure, or a node
  pub number_stops : {q : IResult} {f : Failure} {t : List ℕ} → Counts largest_32 s at.place r → r ≡ Err f → q ≡ Err f → Goes 0 number s c q t t
  unfolding number
  number_stops did e back = digits_fail going stands did e back

  pub number_done : {e v : ℕ} {q : Cursor} {t t' : List ℕ} → Counts largest_32 s at.place r → r ≡ Ok (e, v) → Leafed kind_number v 0 e at q t t' → Goes 0 number s c (Ok q) t t'
  unfolding number
  number_done {e} {v} {q} {t} {t'} did p w =
      let l = (numbered (room going stands) did p).fits in
      let low : v ≡ v % two_32 = omega arith in
      let high : 0 ≡ v / two_32 = omega arith in
      digits_lay going stands did p (subst (λ (k : ℕ). Leafed kind_number k (v / two_32) e at q t t') low (subst (λ (k : ℕ). Leafed kind_number v k e at q t t') high w))

  -- one of 64
  pub number_64_stops : {q : IResult} {f : Failure} {t : List ℕ} → Counts largest_64 s at.place r → r ≡ Err f → q ≡ Err f → Goes 0 number_64 s c q t t
  unfolding number_64
  number_64_stops did e back = digits_fail going stands did e back

  pub number_64_done : {e v : ℕ} {q : Cursor} {t t' : List ℕ} → Counts largest_64 s at.place r → r ≡ Ok (e, v) → Leafed kind_number (v % two_32) (v / two_32) e at q t t'
      → Goes 0 number_64 s c (Ok q) t t'
  unfolding number_64
  number_64_done did e w = digits_lay going stands did e w
