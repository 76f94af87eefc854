-- What an extension's first byte decides.
use Prim.Native.Char.{code}
use Rattle.std.proofs.Common.{Ok, Err, ℕ, ◌-◌, ◌<◌}
use mathlib.Core.Path.{◌≡◌, sym, subst, ◌∙◌}
use mathlib.Core.Bool.{Bool, true, false}
use mathlib.Core.List.{List}
use native.Mathlib.Omega.{arith}
use lib.Dec.{T}
use lib.ListN.{length, get_or}
use borrow.Author.Tests.{lt-leb, ne_eqb}
use Rattle.grammar.specs.Scan.{digit}
use Rattle.grammar.specs.Grammar.{G, seq, alt, ref, an_extension_list}
use Rattle.grammar.specs.Core.{number, nil, quoted, string, nstring}
use Rattle.grammar.specs.BodyStructure.{body_extension, extension_list, grammar}
use Rattle.grammar.proofs.Tests.{digit_low, digit_high}
use Rattle.table.specs.declared.Cursor.{Cursor}
use Rattle.table.specs.declared.Failure.TheVariants as failure
use Rattle.table.specs.Cursor.{IResult}
use Rattle.table.specs.Promise.{Stands, Goes, Skims}
use Rattle.table.proofs.Going.{and, or_second, or_alone, deepens}
use Rattle.table.proofs.Opens.{opens, ruled_out}
use Rattle.table.proofs.Depth.{plain, at_depth}
use Rattle.table.proofs.Levels.{no_level, ref_in}
use Rattle.table.proofs.Lines.{from_cursor}
use Rattle.table.proofs.Search.{reads, spare_after}
use Rattle.table.proofs.Bounds.{leaves_of}

-- a digit begins no nstring and no list
digit_shuts : (b : ℕ) → digit b ≡ true → opens (alt nstring (ref an_extension_list)) b ≡ false
unfolding opens nstring nil string quoted
digit_shuts b p =
    let low = digit_low b (subst T (sym p) tt) in
    let high = digit_high b (subst T (sym p) tt) in
    rw (lt-leb (code "a") b (omega arith), ne_eqb b (code "N") (λ e. omega arith), ne_eqb b (code "\"") (λ e. omega arith), ne_eqb b (code "{") (λ e. omega arith), ne_eqb b (code "(") (λ e. omega arith))

module _ {d : ℕ} {s : List ℕ} {c : IResult} {at : Cursor} (going : c ≡ Ok at) (l : at.place < length s) where
  opened : {q : IResult} {t t' : List ℕ} → get_or s at.place 0 ≡ code "(" → Goes d (ref an_extension_list) s c q t t' → Goes d body_extension s c q t t'
  unfolding body_extension number nstring opens
  opened p x = or_second going (ruled_out number l (rw p)) (or_second going (ruled_out nstring l (rw p)) x)

  pub extension_number : {q : IResult} {t t' : List ℕ} {x : Bool} → x ≡ digit (get_or s at.place 0) → x ≡ true → Goes 0 number s (Ok at) q t t' → Goes d body_extension s c q t t'
  unfolding plain number body_extension
  extension_number p q x =
      or_alone going (ruled_out (alt nstring (ref an_extension_list)) l (digit_shuts (get_or s at.place 0) (sym p ∙ q))) (at_depth d tt (from_cursor going x))

  pub extension_nstring : {q : IResult} {t t' : List ℕ} {x : Bool} → (get_or s at.place 0 ≡ code "(" → ⊥) → x ≡ digit (get_or s at.place 0) → x ≡ false
      → Goes 0 nstring s (Ok at) q t t' → Goes d body_extension s c q t t'
  unfolding plain number nstring body_extension opens
  extension_nstring n p q x =
      let e : digit (get_or s at.place 0) ≡ false = sym p ∙ q in
      or_second going (ruled_out number l (rw e))
      (or_alone going (ruled_out (ref an_extension_list) l (ne_eqb (get_or s at.place 0) (code "(") n)) (at_depth d tt (from_cursor going x)))

pub extension_deep : {left : ℕ} {s : List ℕ} {c : IResult} {at : Cursor} {t : List ℕ} → c ≡ Ok at → Stands 0 s c → at.place < length s → get_or s at.place 0 ≡ code "(" → left ≡ 0
    → Goes left body_extension s c (Err failure.TooDeep) t t
extension_deep {left} {s} {c} {at} {t} going stands l p z =
    subst (λ (k : ℕ). Goes k body_extension s c (Err failure.TooDeep) t t) (sym z) (opened going l p (deepens going stands (no_level l p)))

pub extension_deeper : {left : ℕ} {s : List ℕ} {c q : IResult} {at : Cursor} {t t' : List ℕ} → c ≡ Ok at → at.place < length s → get_or s at.place 0 ≡ code "(" → (left ≡ 0 → ⊥)
    → Goes (left - 1) extension_list s (Ok at) q t t' → Goes left body_extension s c q t t'
unfolding grammar
extension_deeper {left} going l p n x = opened going l p (ref_in left n (from_cursor going x))

pub ruleset firsts = (extension_deep, extension_deeper, extension_number, extension_nstring, reads)

-- room for marks behind a space and a field: the two bytes pay
pub spare_pair : {spare : ℕ} {g h : G} {s : List ℕ} {c q r : IResult} {at : Cursor} {t t' : List ℕ} → Goes 0 h s (Ok at) r t t' → q ≡ Ok at → Skims g s c q → Stands 0 s c
    → T (leaves_of 0 spare (seq g h)) → Stands spare s r
spare_pair {t = t} y on x stands m = spare_after (and (x.on t) (from_cursor on y)) stands m
