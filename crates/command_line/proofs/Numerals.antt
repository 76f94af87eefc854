-- What `parse` reads, as `decimal` says it.
use Rattle.std.proofs.Common.{◌≡◌, ℕ, ◌<◌, ◌^◌, Bool, true, false, ◌&&◌, List, [], ◌∷◌, Some, None, Result, Ok, Err, length, get_or, leb, ltb, refl, ap, ◌∙◌, arith, rules}
use Rattle.std.specs.Result.{OkIff, result_ok}
use Rattle.std.specs.Str.Parse.{ParsesUnsigned}
use Rattle.std.specs.Str.{IsUtf8, all_ascii_digits}
use Rattle.std.proofs.lemmas.Bool.{leb-true, ltb-true, le-leb, lt-ltb}
use Rattle.std.proofs.lemmas.Fmt.{IsAscii-from_digits}
use Rattle.std.proofs.lemmas.Str.{IsUtf8-from_ascii}
use Rattle.std.proofs.lemmas.Str.Parse.{IsNumeralModel, numerals_by_fold, not_in_digits, parse_plain}
use Rattle.grammar.specs.Out.{branch}
use Rattle.command_line.specs.Words.{decimal, value_from}

abbrev Digits : List ℕ → Type 0
Digits s = all_ascii_digits s ≡ true

pub own : IsNumeralModel Digits (value_from 0)
own = numerals_by_fold _ (search rules) value_from (search rules)

all_three : (a b c : Bool) (v : ℕ) → a ≡ true → b ≡ true → c ≡ true → Some v ≡ branch (a && (b && c)) (λ u. Some v) (λ u. None)
all_three a b c v p q r = rw (p, q, r) refl

not_all : (a b c : Bool) (v : ℕ) → ((a ≡ true) × (b ≡ true) × (c ≡ true) → ⊥) → None ≡ branch (a && (b && c)) (λ u. Some v) (λ u. None)
not_all true true true v h = absurd (h (refl, refl, refl))
not_all true true false v h = refl
not_all true false c v h = refl
not_all false b c v h = refl

pub no_digits : (s : List ℕ) → (Digits s → ⊥) → None ≡ decimal s
unfolding decimal
no_digits s h = not_all (all_ascii_digits s) (leb 1 (length s)) (ltb (value_from 0 s) (2 ^ 32)) (value_from 0 s) (λ p. h p.0)

pub no_text : (s : List ℕ) → (IsUtf8 s → ⊥) → None ≡ decimal s
no_text s h = no_digits s (λ p. h (IsUtf8-from_ascii s (IsAscii-from_digits s (own.to s p))))

pub empty : (s : List ℕ) → length s ≡ 0 → None ≡ decimal s
unfolding decimal
empty s e = not_all (all_ascii_digits s) (leb 1 (length s)) (ltb (value_from 0 s) (2 ^ 32)) (value_from 0 s)
    (λ p. omega (arith, e, leb-true 1 (length s) p.1))

pub signed : (s : List ℕ) → get_or s 0 0 ≡ 43 → None ≡ decimal s
signed [] e = absurd (omega (arith, e))
signed (b ∷ bs) e = no_digits (b ∷ bs) (λ p. not_in_digits own (b ∷ bs) 43 p (λ r. omega (arith, r.1)) 0 (omega arith) e)

module _ {E : Type 0} where
  read : (s : List ℕ) (r : Result ℕ E)
      → OkIff r (Digits s × (0 < length s) × (value_from 0 s < 2 ^ 32)) (value_from 0 s) → result_ok r ≡ decimal s
  unfolding decimal
  read s (Ok x) h =
      ap (λ (v : ℕ). Some v) h.1
      ∙ all_three _ _ _ (value_from 0 s) h.0.0 (le-leb 1 (length s) h.0.1) (lt-ltb _ _ h.0.2)
  read s (Err e) h = not_all (all_ascii_digits s) (leb 1 (length s)) (ltb (value_from 0 s) (2 ^ 32)) (value_from 0 s)
      (λ p. h (p.0, leb-true 1 (length s) p.1, ltb-true _ _ p.2))

  -- what `parse` gives of a text without a sign
  pub parsed : {t : List ℕ} (s : List ℕ) (r : Result ℕ E) → t ≡ s → ParsesUnsigned 32 10 t r → (get_or s 0 0 ≡ 43 → ⊥) → result_ok r ≡ decimal s
  parsed s r e h plain = read s r (parse_plain own 32 s r (rw e at h) plain)
