-- Runs of a class of bytes: how long one is, and what that says of the leaf.
use Prim.Native.Nat.{ℕ, suc, ◌+◌, ◌<◌}
use mathlib.Core.Path.{◌≡◌, refl, sym, ap, ◌∙◌}
use mathlib.Core.Bool.{Bool, true, false, not}
use mathlib.Core.List.{List, [], ◌∷◌}
use native.Mathlib.Omega.{arith}
use lib.ListN.{length, drop, get_or}
use lib.Dec.{eqb, ltb}
use mir.Syntax.{w8}
use mir.Val as val
use borrow.Author.Tests.{lt-ltb, le-ltb, ltb-true, ltb-false}
use Rattle.std.specs.List.{position, position_or_len, AllWithin, HoldsAt}
use Rattle.std.specs.Option.{MatchOption}
use Rattle.std.proofs.Common.{cond, Option, Some, None, Ok, Err}
use Rattle.std.proofs.lemmas.List.Sums.{position_or_len_is}
use Rattle.grammar.specs.Out.{branch}
use Rattle.grammar.specs.Scan.{blank, astring_char, text_char, Class, astring_chars, text_chars, blanks, in_class, on, end_before, fail, moved}
use Rattle.grammar.specs.Scan.{Scanned, ended, short, scan, run_move, take_while}
use Rattle.grammar.specs.Scan.{leaf_move, first_state, leaf_fits, leaf_found, leaf_at}
use Rattle.table.specs.declared.Failure.TheVariants.{Unfinished}
use Rattle.parser_core.specs.Scanned.{end_of, Ends, Tests}

-- the first byte outside a class ------------------------------------------------------------------------------------------

-- found by looking at each byte
module _ (class : ℕ → Bool) where
  abbrev pub Inside : ℕ → Type 0
  Inside b = b < 256 → class b ≡ true

  abbrev pub Outside : ℕ → Type 0
  Outside b = b < 256 → class b ≡ false

  abbrev outside : ℕ → Bool
  outside b = not (class b)

  pub first_found : (xs : List ℕ) → ((k : ℕ) → val.Fits w8 (get_or xs k 0)) → (r : Option ℕ)
      → MatchOption r (AllWithin Inside xs 0 (length xs)) (λ i. (i < length xs) × HoldsAt Outside xs i × AllWithin Inside xs 0 i)
      → r ≡ position outside xs
  first_found xs small None h =
      let e : position_or_len outside xs ≡ length xs =
      position_or_len_is outside xs (length xs) 0 (omega arith) (λ k l. rw (h k 0 (omega arith) l (small k).fits)) (λ l. absurd (omega arith)) in
      rw (e, le-ltb (length xs) (length xs) (omega arith))
  first_found xs small (Some i) h =
      let e : position_or_len outside xs ≡ i =
      position_or_len_is outside xs i 0 (omega (arith, h.0)) (λ k l. rw (h.2 k 0 (omega arith) l (small k).fits)) (λ l. rw (h.1 0 (small i).fits)) in
      rw (e, lt-ltb i (length xs) h.0)

-- what the code tells of a byte
pub tests_blank : {answers : ℕ → Bool → Type 0} → ((b : ℕ) (r : Bool) → b < 256 → answers b r → r ≡ blank b) → Tests answers (in_class blanks)
unfolding in_class
tests_blank p = record { is = p }

pub tests_astring : {answers : ℕ → Bool → Type 0} → ((b : ℕ) (r : Bool) → b < 256 → answers b r → r ≡ astring_char b) → Tests answers (in_class astring_chars)
unfolding in_class
tests_astring p = record { is = p }

pub tests_text : {answers : ℕ → Bool → Type 0} → ((b : ℕ) (r : Bool) → b < 256 → answers b r → r ≡ text_char b) → Tests answers (in_class text_chars)
unfolding in_class
tests_text p = record { is = p }

-- a run's scan -----------------------------------------------------------------------------------------------------------

abbrev scan_run : Class → ℕ → List ℕ → ℕ → Scanned
scan_run class state bs at = scan (λ state value b. run_move class state b) state 0 bs at

-- it ends before that byte
abbrev before : ℕ → Option ℕ → Scanned
before at None = short
before at (Some n) = ended (at + n) 0

run_scanned : (class : Class) (bs : List ℕ) (at : ℕ) → scan_run class 1 bs at ≡ before at (position (outside (in_class class)) bs)
unfolding scan
run_scanned class [] at = refl
run_scanned class (b ∷ bs) at = go (in_class class b) (run_scanned class bs (suc at))
  where
    n : ℕ
    n = position_or_len (outside (in_class class)) bs

    one_more : (u : Bool) → ltb n (length bs) ≡ u
        → before (suc at) (cond u (Some n) None) ≡ before at (cond (ltb (1 + n) (suc (length bs))) (Some (1 + n)) None)
    one_more true q = let l = ltb-true n (length bs) q in
        rw (lt-ltb (1 + n) (suc (length bs)) (omega arith)) (ap (λ (k : ℕ). ended k 0) (omega arith))
    one_more false q = let l = ltb-false n (length bs) q in rw (le-ltb (1 + n) (suc (length bs)) (omega arith)) refl

    go : (t : Bool) → scan_run class 1 bs (suc at) ≡ before (suc at) (position (outside (in_class class)) bs)
        → moved (branch t (λ u. on 1 0) (λ u. branch (eqb 1 0) (λ u. fail) (λ u. end_before 0))) at (λ state value. scan (λ state value b. run_move class state b) state value bs (suc at))
        ≡ before at (cond (ltb (cond (not (not t)) (1 + n) 0) (suc (length bs))) (Some (cond (not (not t)) (1 + n) 0)) None)
    go true ih = ih ∙ one_more (ltb n (length bs)) refl
    go false ih = rw (lt-ltb 0 (suc (length bs)) (omega arith)) (ap (λ (k : ℕ). ended k 0) (omega arith))

-- from what the scan finds to what the code answers
run_answers : {class : Class} {s : List ℕ} {at : ℕ} (x : Scanned) → scan_run class 1 (drop at s) at ≡ x
    → Ends (take_while class) s at (end_of (leaf_found (take_while class) at x))
unfolding leaf_at leaf_move first_state
run_answers {class} {s} {at} x p = record { is = sym (ap (λ x. end_of (leaf_found (take_while class) at x)) p) }

module _ (class : Class) {s : List ℕ} {at : ℕ} {r : Option ℕ} (found : r ≡ position (outside (in_class class)) (drop at s)) where
  -- the buffer ends
  pub run_short : r ≡ None → Ends (take_while class) s at (Err (Unfinished 0))
  run_short p = run_answers short (run_scanned class (drop at s) at ∙ ap (before at) (sym found ∙ p))

  -- a byte of another
  pub run_ends : {n : ℕ} → r ≡ Some n → Ends (take_while class) s at (Ok (at + n))
  unfolding leaf_fits
  run_ends {n} p = run_answers (ended (at + n) 0) (run_scanned class (drop at s) at ∙ ap (before at) (sym found ∙ p))
