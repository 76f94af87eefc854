-- Fixed words: one byte, and a word whose case is ignored.
use Prim.Native.Char.{code}
use Rattle.std.proofs.Common.{Ok, Err, ℕ, suc, ◌+◌, ◌≤◌, ◌<◌}
use mathlib.Core.Path.{◌≡◌, refl, sym, ap, subst, ◌∙◌}
use mathlib.Core.Bool.{Bool, true, false}
use mathlib.Core.List.{List, [], ◌∷◌}
use native.Mathlib.Omega.{arith}
use native.Mathlib.Numerals.{add-one}
use lib.ListN.{length, drop, get_or}
use lib.Seq.{drop-cons}
use lib.Dec.{eqb}
use Rattle.std.proofs.Common.{rules}
use borrow.Author.Tests.{eq-eqb, ne_eqb, eqb-true, eqb-false}
use Rattle.grammar.specs.Forest.{none}
use Rattle.grammar.specs.Out.{Out, took, more, refused}
use Rattle.grammar.specs.Scan.{capital, on, end_after, fail, Scanned, ended, short, failed, scan, tag_move, tag, tag_no_case, leaf_move, first_state, leaf_fits, leaf_nodes, leaf_at}
use Rattle.grammar.specs.Grammar.{leaf, nothing}
use Rattle.grammar.specs.Notation.{sp, skip_opt}
use Rattle.table.specs.declared.Cursor.{Cursor}
use Rattle.table.specs.declared.Failure.TheVariants as failure
use Rattle.table.specs.Cursor.{IResult}
use Rattle.table.specs.Promise.{Stands, Skims, Moved}
use Rattle.table.proofs.Going.{Still, leaf_still, failed_skims, skims_short, skims_moves, skims_refuses, skims_first, skims_none}
use Rattle.table.proofs.Bounds.{room}
use Rattle.table.proofs.Cursors.{went_on, came_back, handed_back}
use Rattle.parser_core.proofs.Scanning.{Scanning, scanning_starts, scanning_on, scanning_short, scanning_ends_after, scanning_fails}

-- what a word's scan finds --------------------------------------------------------------------------------------------------------

-- by what two bytes are compared by
abbrev pub scan_word : (ℕ → ℕ) → List ℕ → List ℕ → ℕ → Scanned
scan_word fold word s at = scan (λ state value b. tag_move fold word state b) 0 0 (drop at s) at

abbrev pub tag_out : Scanned → Out
tag_out (ended end value) = took end none
tag_out short = more 0
tag_out failed = refused

pub tag_found : {word s : List ℕ} {at : ℕ} (x : Scanned) → scan_word (λ c. c) word s at ≡ x → Still 0 (leaf (tag word)) s at (tag_out x)
unfolding leaf_at leaf_move first_state leaf_fits leaf_nodes
tag_found (ended end value) p = leaf_still (took end none) (λ t. refl) (rw p)
tag_found short p = leaf_still (more 0) (λ t. refl) (rw p)
tag_found failed p = leaf_still refused (λ t. refl) (rw p)

no_case_found : {word s : List ℕ} {at : ℕ} (x : Scanned) → scan_word capital word s at ≡ x → Still 0 (leaf (tag_no_case word)) s at (tag_out x)
unfolding leaf_at leaf_move first_state leaf_fits leaf_nodes
no_case_found (ended end value) p = leaf_still (took end none) (λ t. refl) (rw p)
no_case_found short p = leaf_still (more 0) (λ t. refl) (rw p)
no_case_found failed p = leaf_still refused (λ t. refl) (rw p)

-- one byte ------------------------------------------------------------------------------------------------------------------------

byte_starts : (b : ℕ) {s : List ℕ} {at : ℕ} → at ≤ length s → Scanning (λ state value x. tag_move (λ c. c) (b ∷ []) state x) 0 0 s at 0 0 at
byte_starts b h = scanning_starts h

module _ {b : ℕ} {s : List ℕ} {c : IResult} {at : Cursor} (going : c ≡ Ok at) (stands : Stands 0 s c) where
  pub byte_short : length s ≤ at.place → Skims (leaf (tag (b ∷ []))) s c (Err (failure.Unfinished 0))
  byte_short h = skims_short going stands (tag_found short (scanning_short (byte_starts b (room going stands).inside) h))

  module _ (h : at.place < length s) where
    pub byte_taken : {q : Cursor} → get_or s at.place 0 ≡ b → Moved at (at.place + 1) q → Skims (leaf (tag (b ∷ []))) s c (Ok q)
    byte_taken p e =
        let m : tag_move (λ c. c) (b ∷ []) 0 (get_or s at.place 0) ≡ end_after 0 = rw (eq-eqb (get_or s at.place 0) b p) in
        skims_moves going stands (tag_found (ended (at.place + 1) 0) (scanning_ends_after (byte_starts b (omega arith)) h m)) (omega arith) (omega arith) e

    pub byte_refused : (get_or s at.place 0 ≡ b → ⊥) → Skims (leaf (tag (b ∷ []))) s c (Err failure.Refused)
    byte_refused p =
        let m : tag_move (λ c. c) (b ∷ []) 0 (get_or s at.place 0) ≡ fail = rw (ne_eqb (get_or s at.place 0) b p) in
        skims_refuses going stands (tag_found failed (scanning_fails (byte_starts b (omega arith)) h m))

-- a space, or none ---------------------------------------------------------------------------------------------------------------

module _ {s : List ℕ} {c q : IResult} (x : Skims (leaf (tag (code " " ∷ []))) s c q) where
  pub space_none : q ≡ Err failure.Refused → Stands 0 s c → Skims (skip_opt sp) s c c
  unfolding skip_opt sp
  space_none p stands = skims_none x p stands

  pub space_taken : (q ≡ Err failure.Refused → ⊥) → Skims (skip_opt sp) s c q
  unfolding skip_opt sp
  space_taken p = skims_first nothing x p

-- a word --------------------------------------------------------------------------------------------------------------------------

-- THE INVARIANT of a loop that compares: the first j bytes of the word stand there
pub record Tagging (word s : List ℕ) (at j : ℕ) : Type 0 where
  pub within : j ≤ length word
  pub high : at + j ≤ length s
  pub going : j < length word → Scanning (λ state value b. tag_move capital word state b) 0 0 s at j 0 (at + j)
  pub done : length word ≤ j → scan_word capital word s at ≡ ended (at + j) 0

pub tag_begins : {word s : List ℕ} {c : IResult} {at : Cursor} → c ≡ Ok at → Stands 0 s c → 1 ≤ length word → Tagging word s at.place 0
tag_begins {word} {s} {c} {at} going stands l =
    let h = (room going stands).inside in
    record {
      within = omega arith;
      high = omega arith;
      going = λ k. subst (λ (i : ℕ). Scanning (λ state value b. tag_move capital word state b) 0 0 s at.place 0 0 i) (omega arith) (scanning_starts h);
      done = λ k. absurd (omega arith);
    }

-- the moves of a word
module _ (word : List ℕ) (j b : ℕ) where
  tag_last : capital b ≡ capital (get_or word j (code " ")) → length word ≡ suc j → tag_move capital word j b ≡ end_after 0
  tag_last p l = rw (eq-eqb (capital b) (capital (get_or word j (code " "))) p, eq-eqb (suc j) (length word) (sym l))

  tag_inside : capital b ≡ capital (get_or word j (code " ")) → suc j < length word → tag_move capital word j b ≡ on (j + 1) 0
  tag_inside p l =
      rw (eq-eqb (capital b) (capital (get_or word j (code " "))) p, ne_eqb (suc j) (length word) (λ q. omega arith), add-one)

  tag_apart : (capital b ≡ capital (get_or word j (code " ")) → ⊥) → tag_move capital word j b ≡ fail
  tag_apart p = rw (ne_eqb (capital b) (capital (get_or word j (code " "))) p)

-- within a list the default does not matter
getD_within : (l : List ℕ) (i d e : ℕ) → i < length l → get_or l i d ≡ get_or l i e
getD_within l i d e h = cc (drop-cons l i d h, drop-cons l i e h)

module _ {word s : List ℕ} {at j : ℕ} (inv : Tagging word s at j) where
  module _ {t : Bool} (l : j < length word) (h : at + j < length s) (p : t ≡ eqb (capital (get_or s (at + j) 0)) (capital (get_or word j 0))) where
    -- what the definition asks for is the word's byte
    asked : capital (get_or word j 0) ≡ capital (get_or word j (code " "))
    asked = ap capital (getD_within word j 0 (code " ") l)

    pub tag_agrees : t ≡ true → Tagging word s at (j + 1)
    tag_agrees e =
        let same : capital (get_or s (at + j) 0) ≡ capital (get_or word j (code " ")) = eqb-true (capital (get_or s (at + j) 0)) (capital (get_or word j 0)) (sym p ∙ e) ∙ asked in
        let next : at + j + 1 ≡ at + (j + 1) = omega arith in
        record {
          within = omega arith;
          high = omega arith;
          going = λ k. subst (λ (i : ℕ). Scanning (λ state value b. tag_move capital word state b) 0 0 s at (j + 1) 0 i) next
              (scanning_on (inv.going l) h (tag_inside word j (get_or s (at + j) 0) same (omega arith)));
          done = λ k. scanning_ends_after (inv.going l) h (tag_last word j (get_or s (at + j) 0) same (omega arith)) ∙ ap (λ (i : ℕ). ended i 0) next;
        }

    pub differs : t ≡ false → Still 0 (leaf (tag_no_case word)) s at refused
    differs e =
        let other = eqb-false (capital (get_or s (at + j) 0)) (capital (get_or word j 0)) (sym p ∙ e) in
        no_case_found failed (scanning_fails (inv.going l) h (tag_apart word j (get_or s (at + j) 0) (λ x. other (x ∙ sym asked))))

module _ {word s : List ℕ} {c : IResult} {at : Cursor} {j : ℕ} (going : c ≡ Ok at) (stands : Stands 0 s c) (inv : Tagging word s at.place j) where
  pub tag_less : length word ≤ j → at.place + length word < 18446744073709551616
  tag_less l = omega (arith, inv.high, inv.within, stands.small)

  pub tag_differs : {t : Bool} → j < length word → at.place + j < length s → t ≡ eqb (capital (get_or s (at.place + j) 0)) (capital (get_or word j 0)) → t ≡ false
      → Skims (leaf (tag_no_case word)) s c (Err failure.Refused)
  tag_differs l h p e = skims_refuses going stands (differs inv l h p e)

  pub tag_short : j < length word → length s ≤ at.place + j → Skims (leaf (tag_no_case word)) s c (Err (failure.Unfinished 0))
  tag_short l h = skims_short going stands (no_case_found short (scanning_short (inv.going l) h))

  pub tag_done : {q : Cursor} → length word ≤ j → Moved at (at.place + length word) q → Skims (leaf (tag_no_case word)) s c (Ok q)
  tag_done l m =
      let n : at.place + j ≡ at.place + length word = omega (arith, inv.within) in
      skims_moves going stands (no_case_found (ended (at.place + length word) 0) (inv.done l ∙ ap (λ (i : ℕ). ended i 0) n))
      (omega arith) (omega (arith, inv.high)) m

-- what `search` is to know
pub ruleset byte = (failed_skims, byte_short, byte_taken, byte_refused, went_on, came_back, handed_back, rules)

pub ruleset word = (failed_skims, tag_begins, tag_less, tag_agrees, tag_differs, tag_short, tag_done, went_on, came_back, handed_back, rules)

pub ruleset option = (space_none, space_taken, went_on, came_back, handed_back, rules)
