-- A body one level deeper, and what the first byte inside it decides.
use Prim.Native.Char.{code}
use Rattle.std.proofs.Common.{Ok, Err, ℕ, ◌-◌, ◌<◌}
use mathlib.Core.Path.{◌≡◌, refl, sym, ◌∙◌}
use mathlib.Core.List.{List, []}
use lib.ListN.{length, get_or}
use borrow.Author.Tests.{ne_eqb}
use Rattle.grammar.specs.Text.{ascii}
use Rattle.grammar.specs.Scan.{tag}
use Rattle.grammar.specs.Grammar.{G, leaf, alt, ref, a_body}
use Rattle.grammar.specs.Notation.{paren_delimited, many1}
use Rattle.grammar.specs.Core.{quoted, string}
use Rattle.grammar.specs.BodyStructure.{body, body_type_text, message_fields, body_type_message, body_type_basic, body_type_multipart, grammar}
use Rattle.table.specs.declared.Cursor.{Cursor}
use Rattle.table.specs.declared.Failure.TheVariants.{Refused, TooDeep}
use Rattle.table.specs.Cursor.{IResult}
use Rattle.table.specs.Promise.{Stands, Goes, Skims, Headed}
use Rattle.table.proofs.Cursors.{failed_stops}
use Rattle.table.proofs.Going.{or_first, or_next, or_second, or_alone}
use Rattle.table.proofs.Structure.{heads_done}
use Rattle.table.proofs.Opens.{opens, ruled_out}
use Rattle.table.proofs.Levels.{ref_in, level_opens}

-- text, message, basic, multipart, in that order
abbrev pub types : G
types = alt body_type_text (alt body_type_message (alt body_type_basic body_type_multipart))

-- a body, from what stands between its parentheses
pub body_done : {left : ℕ} {s : List ℕ} {c r q : IResult} {at : Cursor} {t t₁ t₂ : List ℕ} → (left ≡ 0 → ⊥) → c ≡ Ok at → Goes (left - 1) (paren_delimited types) s c r t t₁
    → Headed at r q t₁ t₂ → Goes left (ref a_body) s c q t t₂
unfolding grammar body
body_done {left} n going x w = ref_in left n (heads_done going x w)

module _ {d : ℕ} {s : List ℕ} {c : IResult} {at : Cursor} (going : c ≡ Ok at) (l : at.place < length s) where
  -- an opening parenthesis is a multipart's first body
  pub types_multipart : {q : IResult} {t t' : List ℕ} → get_or s at.place 0 ≡ code "(" → Goes d body_type_multipart s c q t t' → Goes d types s c q t t'
  unfolding opens body_type_text body_type_message message_fields body_type_basic string quoted
  types_multipart p x =
      or_second going (ruled_out body_type_text l (rw p))
      (or_second going (ruled_out body_type_message l (rw p))
      (or_second going (ruled_out body_type_basic l (rw p)) x))

  -- any other byte begins none
  module _ {q₁ q₂ q₃ : IResult} {t t₁ t₂ t₃ : List ℕ} (n : get_or s at.place 0 ≡ code "(" → ⊥) where
    pub types_basic : Goes d body_type_text s c q₁ t t₁ → q₁ ≡ Err Refused → Goes d body_type_message s c q₂ t₁ t₂ → q₂ ≡ Err Refused → Goes d body_type_basic s c q₃ t₂ t₃
        → Goes d types s c q₃ t t₃
    unfolding opens body_type_multipart many1
    types_basic x p y q z =
        or_next x p (or_next y q (or_alone going (ruled_out body_type_multipart l (ne_eqb (get_or s at.place 0) (code "(") n)) z))

-- the first two, where they did not refuse
pub types_text : {d : ℕ} {s : List ℕ} {c q : IResult} {t t₁ : List ℕ} → Goes d body_type_text s c q t t₁ → (q ≡ Err Refused → ⊥) → Goes d types s c q t t₁
types_text x n = or_first x n

pub types_message : {d : ℕ} {s : List ℕ} {c q₁ q₂ : IResult} {t t₁ t₂ : List ℕ} → Goes d body_type_message s c q₂ t₁ t₂ → (q₂ ≡ Err Refused → ⊥) → Goes d body_type_text s c q₁ t t₁
    → q₁ ≡ Err Refused → Goes d types s c q₂ t t₂
types_message y n x p = or_next x p (or_first y n)

-- no level is left for an opening parenthesis
pub level_opened : {s : List ℕ} {c r : IResult} {next : Cursor} → Skims (leaf (tag (ascii "("))) s c r → r ≡ Ok next → Stands 0 s c → Skims (ref a_body) s c (Err TooDeep)
level_opened {c = Ok at} x on stands = level_opens x on refl stands
level_opened {c = Err f} {next} x on stands = absurd (let z : ◌≡◌ {A = IResult} (Ok next) (Err f) = sym on ∙ ((x.on []).stopped (failed_stops f)).0 in cc)
