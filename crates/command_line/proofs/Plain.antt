-- Runs of plain bytes: what is written of them.
use Rattle.std.proofs.Common.{◌≡◌, ℕ, ◌+◌, ◌-◌, ◌/◌, ◌%◌, ◌<◌, ◌≤◌, true, false, List, [], ◌∷◌, ◌++◌, length, get_or, take, drop, refl, sym, ap, ◌∙◌, arith, inl, inr}
use Rattle.std.specs.List.{list_all}
use Rattle.std.specs.Fmt.{digits, digit_glyph}
use Rattle.std.proofs.Math.Seq.{take-add}
use Rattle.std.proofs.lemmas.Bool.{cases_lt}
use Rattle.std.proofs.lemmas.Fmt.{hex_one_digit}
use Rattle.std.proofs.lemmas.Grind.{common_steps, flat_map-append}
use Rattle.std.proofs.lemmas.List.{flat_map_more, take_more}
use Rattle.std.proofs.lemmas.List.Sums.{list_all-from_AllPass}
use Rattle.command_line.specs.Printed.{plain, escape, escaped}

-- the bytes from a place on and before another stand for themselves
abbrev pub PlainFrom : ℕ → ℕ → List ℕ → Type 0
PlainFrom start end s = (k : ℕ) → start ≤ k → k < end → plain (get_or s k 0) ≡ true

stands : (b : ℕ) → plain b ≡ true → escape b ≡ b ∷ []
stands b p = grind arith

two_digits : (b : ℕ) → b < 256 → digits 16 false (b / 16) ++ digits 16 false (b % 16) ≡ digit_glyph false (b / 16) ∷ digit_glyph false (b % 16) ∷ []
two_digits b small = rw (hex_one_digit false (b / 16) (omega arith), hex_one_digit false (b % 16) (omega arith)) refl

-- any other, where it has no letter
pub escape_hex : (b : ℕ) → b < 256 → plain b ≡ false → (b ≡ 13 → ⊥) → (b ≡ 10 → ⊥) → (b ≡ 34 → ⊥) → (b ≡ 92 → ⊥)
    → escape b ≡ 92 ∷ 120 ∷ digit_glyph false (b / 16) ∷ digit_glyph false (b % 16) ∷ []
escape_hex b small p cr lf quote slash = grind (arith, two_digits b small)

-- a run is written as it is
alone : (run : List ℕ) → list_all plain run ≡ true → escaped run ≡ run
alone [] p = refl
alone (b ∷ bs) p = grind (arith, common_steps, stands b, alone bs)

all_plain : (s : List ℕ) (start end : ℕ) → PlainFrom start end s → list_all plain (take (end - start) (drop start s)) ≡ true
all_plain s start end p = list_all-from_AllPass plain (take (end - start) (drop start s)) (λ k d l. grind (arith, common_steps, p (start + k)))

-- one more
pub run_more : (s : List ℕ) (start at : ℕ) → PlainFrom start at s → plain (get_or s at 0) ≡ true → PlainFrom start (at + 1) s
run_more s start at p q k low high = elim (cases_lt k at) [ inl l ↦ p k low l | inr l ↦ let e : k ≡ at = omega arith in rw e q ]

pub run_written : (s : List ℕ) (start end : ℕ) → start ≤ end → PlainFrom start end s
    → escaped (take start s) ++ take (end - start) (drop start s) ≡ escaped (take end s)
run_written s start end l p =
    let e : start + (end - start) ≡ end = omega arith in
    let run = take (end - start) (drop start s) in
    let parts = rw e at (take-add start (end - start) s) in
    ap (λ (t : List ℕ). escaped (take start s) ++ t) (sym (alone run (all_plain s start end p)))
    ∙ sym (ap escaped parts ∙ flat_map-append escape (take start s) run)

-- and the byte that ends it, escaped
pub byte_written : (s : List ℕ) (start at : ℕ) → start ≤ at → at < length s → PlainFrom start at s
    → escaped (take start s) ++ (take (at - start) (drop start s) ++ escape (get_or s at 0)) ≡ escaped (take (at + 1) s)
byte_written s start at l fits p = grind (arith, common_steps, run_written s start at l p, flat_map_more escape [] (take at s) (get_or s at 0), take_more s at 0 fits)
