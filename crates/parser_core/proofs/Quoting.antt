-- A quoted string, from its opening quote on: runs of text, and between two of them an escape.
use Prim.Native.Char.{code}
use Rattle.std.proofs.Common.{Result, Ok, Err, ℕ, ◌+◌, ◌-◌, ◌≤◌, ◌<◌}
use mathlib.Core.Path.{◌≡◌, refl, sym, ap, subst, ◌∙◌}
use mathlib.Core.Bool.{Bool, true, false}
use mathlib.Core.List.{List}
use native.Mathlib.Omega.{arith}
use lib.Dec.{eqb}
use lib.ListN.{length, drop, get_or}
use Rattle.std.proofs.Common.{rules}
use borrow.Author.Tests.{eq-eqb, ne_eqb}
use Rattle.grammar.specs.Kinds.{kind_bytes}
use Rattle.grammar.specs.Forest.{node_of}
use Rattle.grammar.specs.Out.{took}
use Rattle.grammar.specs.Scan.{text_char, quoted_special, on, end_after, fail, Scanned, ended, short, failed, scan, quotes_move, quotes, leaf_move, first_state, leaf_fits, leaf_nodes, leaf_found, leaf_at}
use Rattle.grammar.specs.Core.{quoted}
use Rattle.grammar.proofs.Tests.{branch_ind}
use Rattle.grammar.proofs.Scans.{Takes, scan_takes, scan_bounds, scans_at}
use Rattle.table.specs.declared.Cursor.{Cursor}
use Rattle.table.specs.declared.Failure.{Failure}
use Rattle.table.specs.declared.Failure.TheVariants as failure
use Rattle.table.specs.Cursor.{IResult}
use Rattle.table.specs.Promise.{Stands, Goes, Leafed}
use Rattle.table.proofs.Going.{leaves, leaf_lays}
use Rattle.table.proofs.Search.{reads}
use Rattle.parser_core.specs.Scanned.{Ends, Opened, end_of}
use Rattle.parser_core.proofs.Leaves.{leaf_fails}
use Rattle.parser_core.proofs.Scanning.{Scanning, scanning_starts, scanning_on, scanning_short, scanning_ends_after, scanning_fails}

-- from the opening quote's place on
abbrev pub scan_quoted : List ℕ → ℕ → Scanned
scan_quoted s at = scan (λ state value b. quotes_move state b) 0 0 (drop at s) at

-- THE INVARIANT of both loops: the place i lies in the text
pub record Quoting (s : List ℕ) (at i : ℕ) : Type 0 where
  pub scanning : Scanning (λ state value b. quotes_move state b) 0 0 s at 1 0 i

-- the place i is the last that the scan looks at: the closing quote, or not the grammar (then a backslash or no text)
pub record QuoteEnd (s : List ℕ) (at i : ℕ) : Type 0 where
  pub here : i < length s
  pub closed : get_or s i 0 ≡ code "\"" → scan_quoted s at ≡ ended (i + 1) 0
  pub wrong : (get_or s i 0 ≡ code "\"" → ⊥) → scan_quoted s at ≡ failed

-- what the scan found is what the leaf's end says
quotes_end : {s : List ℕ} {at : ℕ} (x : Scanned) → scan_quoted s at ≡ x → Ends quotes s at (end_of (leaf_found quotes at x))
unfolding leaf_at leaf_move first_state
quotes_end {s} {at} x p = record { is = ap (λ (y : Scanned). end_of (leaf_found quotes at y)) (sym p) }

-- the moves
module _ (b : ℕ) where
  closes : b ≡ code "\"" → quotes_move 1 b ≡ end_after 0
  closes p = rw (eq-eqb b (code "\"") p)

  escapes : b ≡ code "\\" → quotes_move 1 b ≡ on 2 0
  escapes p = rw (ne_eqb b (code "\"") (λ q. omega arith), eq-eqb b (code "\\") p)

  is_text : (b ≡ code "\"" → ⊥) → (b ≡ code "\\" → ⊥) → text_char b ≡ true → quotes_move 1 b ≡ on 1 0
  is_text p q t = rw (ne_eqb b (code "\"") p, ne_eqb b (code "\\") q, t)

  no_text : (b ≡ code "\"" → ⊥) → (b ≡ code "\\" → ⊥) → text_char b ≡ false → quotes_move 1 b ≡ fail
  no_text p q t = rw (ne_eqb b (code "\"") p, ne_eqb b (code "\\") q, t)

-- the opening quote was seen
pub quote_opens : {s : List ℕ} {at : ℕ} → Opened s at → Quoting s at (at + 1)
quote_opens {s} {at} x = record {
  scanning = scanning_on (scanning_starts (omega (arith, x.here))) x.here (rw x.quote);
}

module _ {s : List ℕ} {at i : ℕ} (inv : Quoting s at i) where
  -- places stay within the buffer
  pub quote_high : i ≤ length s
  quote_high = inv.scanning.high

  -- the buffer ends
  pub quote_short : length s ≤ i → Ends quotes s at (Err (failure.Unfinished 0))
  quote_short h = quotes_end short (scanning_short inv.scanning h)

  module _ (h : i < length s) where
    -- the closing quote
    pub quote_closes : get_or s i 0 ≡ code "\"" → QuoteEnd s at i
    quote_closes p = record { here = h; closed = λ q. scanning_ends_after inv.scanning h (closes (get_or s i 0) p); wrong = λ n. absurd (n p) }

    module _ {t : Bool} (p : get_or s i 0 ≡ code "\"" → ⊥) (q : get_or s i 0 ≡ code "\\" → ⊥) (e : t ≡ text_char (get_or s i 0)) where
      -- a byte of text
      pub quote_text : t ≡ true → Quoting s at (i + 1)
      quote_text f = record { scanning = scanning_on inv.scanning h (is_text (get_or s i 0) p q (sym e ∙ f)) }

      -- a byte that is none
      pub quote_bad : t ≡ false → QuoteEnd s at i
      quote_bad f = record { here = h; closed = λ x. absurd (p x); wrong = λ n. scanning_fails inv.scanning h (no_text (get_or s i 0) p q (sym e ∙ f)) }

    -- a backslash
    module _ (p : get_or s i 0 ≡ code "\\") where
      -- and what is scanned behind it
      behind : Scanning (λ state value b. quotes_move state b) 0 0 s at 2 0 (i + 1)
      behind = scanning_on inv.scanning h (escapes (get_or s i 0) p)

      -- the buffer ends behind it
      pub quote_cut : length s ≤ i + 1 → Ends quotes s at (Err (failure.Unfinished 0))
      quote_cut l = quotes_end short (scanning_short behind l)

      module _ {t : Bool} (k : i + 1 < length s) (e : t ≡ quoted_special (get_or s (i + 1) 0)) where
        -- an escape
        pub quote_escape : t ≡ true → Quoting s at (i + 2)
        quote_escape f =
            let m : quotes_move 2 (get_or s (i + 1) 0) ≡ on 1 0 = rw (sym e ∙ f) in
            let two : i + 1 + 1 ≡ i + 2 = omega arith in
            record { scanning = subst (λ (j : ℕ). Scanning (λ state value b. quotes_move state b) 0 0 s at 1 0 j) two (scanning_on behind k m) }

        -- none
        pub quote_wrong : t ≡ false → QuoteEnd s at i
        quote_wrong f =
            let m : quotes_move 2 (get_or s (i + 1) 0) ≡ fail = rw (sym e ∙ f) in
            record { here = h; closed = λ x. absurd (omega arith); wrong = λ n. scanning_fails behind k m }

-- so the scan ends behind a quote
pub quotes_value : {s : List ℕ} {at i : ℕ} → get_or s i 0 ≡ code "\"" → QuoteEnd s at i → Ends quotes s at (Ok (i + 1))
unfolding leaf_fits
quotes_value {i = i} p end = quotes_end (ended (i + 1) 0) (end.closed p)

-- and else fails
pub quotes_wrong : {s : List ℕ} {at i : ℕ} → (get_or s i 0 ≡ code "\"" → ⊥) → QuoteEnd s at i → Ends quotes s at (Err failure.Refused)
quotes_wrong p end = quotes_end failed (end.wrong p)

-- what a reader makes of a leaf's end -------------------------------------------------------------------------------------------

-- what its end says
module _ {s : List ℕ} {at e : ℕ} {r : Result ℕ Failure} (opened : Opened s at) (ends : Ends quotes s at r) (l : r ≡ Ok e) where
  quotes_ended : (v : ℕ) × (scan_quoted s at ≡ ended e v)
  unfolding leaf_at leaf_move first_state leaf_fits
  quotes_ended = go (scan_quoted s at) (sym ends.is ∙ l)
    where
      go : (x : Scanned) → end_of (leaf_found quotes at x) ≡ Ok e → (v : ℕ) × (x ≡ ended e v)
      go (ended i v) p = let z : ◌≡◌ {A = Result ℕ Failure} (Ok i) (Ok e) = p in let y : i ≡ e = cc in (v, ap (λ (k : ℕ). ended k v) y)
      go short p = absurd (let z : ◌≡◌ {A = Result ℕ Failure} (Err (failure.Unfinished 0)) (Ok e) = p in cc)
      go failed p = absurd (let z : ◌≡◌ {A = Result ℕ Failure} (Err failure.Refused) (Ok e) = p in cc)

  pub quotes_took : leaf_at quotes s at ≡ took e (node_of kind_bytes (at + 1) (e - 1))
  unfolding leaf_at leaf_move first_state leaf_fits leaf_nodes
  quotes_took = ap (leaf_found quotes at) quotes_ended.1

  -- it holds its two quotes
  pub quotes_low : at + 1 < e
  quotes_low =
      let inv = (quote_opens opened).scanning in
      omega (arith, scans_at (scan_takes s (λ state value b. quotes_move state b) 1 0 takes (at + 1) inv.high) (inv.same ∙ quotes_ended.1))
    where
      takes : (b : ℕ) → Takes (quotes_move 1 b)
      takes b =
          branch_ind Takes (eqb b (code "\"")) _ _ (λ t. tt)
          (λ t. branch_ind Takes (eqb b (code "\\")) _ _ (λ t. tt) (λ t. branch_ind Takes (text_char b) _ _ (λ t. tt) (λ t. tt)))

  pub quotes_some : 1 ≤ e
  quotes_some = omega (arith, quotes_low)

  pub quotes_high : e ≤ length s
  quotes_high = (scans_at (scan_bounds s at (omega (arith, opened.here)) (λ state value b. quotes_move state b) 0 0) quotes_ended.1).1

  -- so both ends of its content are small
  pub quotes_word : {c : IResult} → Stands 0 s c → e - 1 < 4294967296
  quotes_word stands = omega (arith, quotes_high, stands.small)

  pub quotes_start : {c : IResult} → Stands 0 s c → at + 1 < 4294967296
  quotes_start stands = omega (arith, quotes_low, quotes_high, stands.small)

module _ {s : List ℕ} {c : IResult} {at : Cursor} {r : Result ℕ Failure} (going : c ≡ Ok at) (stands : Stands 0 s c) (ends : Ends quotes s at.place r) where
  pub quoted_fails : {q : IResult} {f : Failure} {t : List ℕ} → r ≡ Err f → q ≡ Err f → Goes 0 quoted s c q t t
  unfolding quoted
  quoted_fails h back = leaf_fails going stands ends h back

  pub quoted_goes : {e : ℕ} {q : Cursor} {t t' : List ℕ} → Opened s at.place → r ≡ Ok e → Leafed kind_bytes (at.place + 1) (e - 1) e at q t t' → Goes 0 quoted s c (Ok q) t t'
  unfolding quoted
  quoted_goes opened l w =
      leaves going stands (leaf_lays (quotes_took opened ends l)) (omega (arith, quotes_low opened ends l)) (quotes_high opened ends l) w

-- a cursor is where it is
pub going_here : {c : Cursor} → ◌≡◌ {A = IResult} (Ok c) (Ok c)
going_here = refl

-- what `search` is to know
pub ruleset quoting = (quote_opens, quote_high, quote_short, quote_text, quote_cut, quote_escape, rules)

pub ruleset closing = (quote_closes, quote_bad, quote_wrong, quotes_value, rules)

pub ruleset quoteds = (quotes_some, quotes_word, quotes_start, quoted_fails, quoted_goes, going_here, reads)
