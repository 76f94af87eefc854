-- What a first byte decides of strings: the alternatives that it shuts out.
use Prim.Native.Char.{code}
use Rattle.std.proofs.Common.{Ok, Err, ℕ, ◌<◌}
use mathlib.Core.Path.{◌≡◌}
use mathlib.Core.Bool.{false}
use mathlib.Core.List.{List}
use lib.Dec.{eqb}
use lib.ListN.{length, get_or}
use borrow.Author.Tests.{ne_eqb}
use Rattle.grammar.specs.Grammar.{G, literal, alt}
use Rattle.grammar.specs.Core.{nil, quoted, string, nstring}
use Rattle.table.specs.declared.Cursor.{Cursor}
use Rattle.table.specs.declared.Failure.TheVariants as failure
use Rattle.table.specs.Cursor.{IResult}
use Rattle.table.specs.Promise.{Stands, Goes}
use Rattle.table.proofs.Depth.{plain, at_depth}
use Rattle.table.proofs.Opens.{opens, ruled_out}
use Rattle.table.proofs.Going.{or_second, or_alone, refuses}
use Rattle.table.proofs.Lines.{from_cursor}
use Rattle.parser_core.specs.Scanned.{Opened}
use Rattle.parser_core.specs.Opening.{Opening}

-- an opening quote
pub opened : {s : List ℕ} {at : ℕ} → at < length s → get_or s at 0 ≡ code "\"" → Opened s at
opened l p = record { here = l; quote = p }

module _ {s : List ℕ} {c q : IResult} {at : Cursor} {t t' : List ℕ} (going : c ≡ Ok at) (l : at.place < length s) where
  pub string_quoted : get_or s at.place 0 ≡ code "\"" → Goes 0 quoted s c q t t' → Goes 0 string s c q t t'
  unfolding string opens
  string_quoted p x = or_alone going (ruled_out literal l (rw p)) x

  pub string_literal : (get_or s at.place 0 ≡ code "\"" → ⊥) → Goes 0 literal s c q t t' → Goes 0 string s c q t t'
  unfolding string quoted opens
  string_literal n x = or_second going (ruled_out quoted l (rw (ne_eqb (get_or s at.place 0) (code "\"") n))) x

  pub nstring_quoted : get_or s at.place 0 ≡ code "\"" → Goes 0 quoted s c q t t' → Goes 0 nstring s c q t t'
  unfolding nstring nil opens
  nstring_quoted p x = or_second going (ruled_out nil l (rw p)) (string_quoted p x)

  pub nstring_literal : get_or s at.place 0 ≡ code "{" → Goes 0 literal s c q t t' → Goes 0 nstring s c q t t'
  unfolding nstring nil string quoted opens
  nstring_literal p x = or_second going (ruled_out nil l (rw p)) (or_second going (ruled_out quoted l (rw p)) x)

  pub nstring_nil : (get_or s at.place 0 ≡ code "\"" → ⊥) → (get_or s at.place 0 ≡ code "{" → ⊥) → Goes 0 nil s c q t t' → Goes 0 nstring s c q t t'
  unfolding nstring string quoted opens
  nstring_nil n m x = or_alone going (ruled_out string l (rw (ne_eqb (get_or s at.place 0) (code "\"") n, ne_eqb (get_or s at.place 0) (code "{") m))) x

-- what opens with a parenthesis, or is NIL
pub opening_by : {d : ℕ} {g : G} → ((b : ℕ) → eqb b (code "(") ≡ false → opens g b ≡ false) → Opening d g
opening_by {g = g} shut = record {
  refused = λ s at l n. (ruled_out g l (shut (get_or s at 0) (ne_eqb (get_or s at 0) (code "(") n))).read;
  wrote = λ s at t l n. (ruled_out g l (shut (get_or s at 0) (ne_eqb (get_or s at 0) (code "(") n))).wrote t;
}

module _ {d : ℕ} {g : G} {s : List ℕ} {c q : IResult} {at : Cursor} {t t' : List ℕ} (going : c ≡ Ok at) (l : at.place < length s) where
  pub nil_or_opened : get_or s at.place 0 ≡ code "(" → Goes d g s (Ok at) q t t' → Goes d (alt nil g) s c q t t'
  unfolding nil opens
  nil_or_opened p x = or_second going (ruled_out nil l (rw p)) (from_cursor going x)

  pub nil_or_nil : (get_or s at.place 0 ≡ code "(" → ⊥) → Opening d g → Goes 0 nil s (Ok at) q t t' → Goes d (alt nil g) s c q t t'
  unfolding nil plain
  nil_or_nil n by x = or_alone going (record { read = by.refused s at.place l n; wrote = λ u. by.wrote s at.place u l n }) (at_depth d tt (from_cursor going x))

-- another byte is no quoted string
pub quoted_other : {s : List ℕ} {c : IResult} {at : Cursor} {t : List ℕ} → c ≡ Ok at → Stands 0 s c → at.place < length s → (get_or s at.place 0 ≡ code "\"" → ⊥) → Goes 0 quoted s c (Err failure.Refused) t t
unfolding quoted opens
quoted_other {s} {at = at} going stands l n = refuses going stands (ruled_out quoted l (rw (ne_eqb (get_or s at.place 0) (code "\"") n)))
