-- A kind's number is one of 1 to 25 and no other kind's: what `from` gives, `try_from` takes back.
use Prim.Native.Nat.{ℕ, ◌-◌, ◌≤◌}
use mathlib.Core.Path.{◌≡◌, refl, sym, ap, ◌∙◌}
use native.Mathlib.Omega.{arith}
use mathlib.Core.List.{[], ◌∷◌}
use lib.ListN.{get_or}
use Rattle.std.specs.Prelude.{Result, Ok, Err}
use Rattle.grammar.specs.Kinds.{kind_number, kind_metadata}
use Rattle.grammar.specs.declared.kind.Kind.{Kind}
use Rattle.grammar.specs.declared.kind.Kind.TheVariants.{Number, Range, Uid, Bytes, Nil, Absent, List as ListKind, SectionText, Encoding, Envelope, Address, Basic, Text, Message, Multipart, Disposition, Pair, SectionPart, BodyItem, AppendUid, CopyUid, UidNotSticky, Vanished, VanishedEarlier, Metadata}
use Rattle.grammar.specs.declared.kind.NoSuchKind.{NoSuchKind}
use Rattle.grammar.specs.Kind.{number_of, Decodes}

-- the kinds by their numbers, from 1 on
with_number : ℕ → Kind
with_number n = get_or (Number ∷ Range ∷ Uid ∷ Bytes ∷ Nil ∷ Absent ∷ ListKind ∷ SectionText ∷ Encoding ∷ Envelope ∷ Address ∷ Basic ∷ Text ∷ Message ∷ Multipart ∷ Disposition ∷ Pair ∷ SectionPart ∷ BodyItem ∷ AppendUid ∷ CopyUid ∷ UidNotSticky ∷ Vanished ∷ VanishedEarlier ∷ Metadata ∷ []) (n - 1) Number

number_back : (k : Kind) → with_number (number_of k) ≡ k
unfolding with_number
number_back Number = refl
number_back Range = refl
number_back Uid = refl
number_back Bytes = refl
number_back Nil = refl
number_back Absent = refl
number_back ListKind = refl
number_back SectionText = refl
number_back Encoding = refl
number_back Envelope = refl
number_back Address = refl
number_back Basic = refl
number_back Text = refl
number_back Message = refl
number_back Multipart = refl
number_back Disposition = refl
number_back Pair = refl
number_back SectionPart = refl
number_back BodyItem = refl
number_back AppendUid = refl
number_back CopyUid = refl
number_back UidNotSticky = refl
number_back Vanished = refl
number_back VanishedEarlier = refl
number_back Metadata = refl

pub number_known : (k : Kind) → (kind_number ≤ number_of k) × (number_of k ≤ kind_metadata)
number_known Number = (omega arith, omega arith)
number_known Range = (omega arith, omega arith)
number_known Uid = (omega arith, omega arith)
number_known Bytes = (omega arith, omega arith)
number_known Nil = (omega arith, omega arith)
number_known Absent = (omega arith, omega arith)
number_known ListKind = (omega arith, omega arith)
number_known SectionText = (omega arith, omega arith)
number_known Encoding = (omega arith, omega arith)
number_known Envelope = (omega arith, omega arith)
number_known Address = (omega arith, omega arith)
number_known Basic = (omega arith, omega arith)
number_known Text = (omega arith, omega arith)
number_known Message = (omega arith, omega arith)
number_known Multipart = (omega arith, omega arith)
number_known Disposition = (omega arith, omega arith)
number_known Pair = (omega arith, omega arith)
number_known SectionPart = (omega arith, omega arith)
number_known BodyItem = (omega arith, omega arith)
number_known AppendUid = (omega arith, omega arith)
number_known CopyUid = (omega arith, omega arith)
number_known UidNotSticky = (omega arith, omega arith)
number_known Vanished = (omega arith, omega arith)
number_known VanishedEarlier = (omega arith, omega arith)
number_known Metadata = (omega arith, omega arith)

pub one_kind : (j k : Kind) → number_of j ≡ number_of k → j ≡ k
one_kind j k e = sym (number_back j) ∙ ap with_number e ∙ number_back k

-- ROUND TRIP: the number of a kind is decoded to that kind
pub round_trip : (k : Kind) (r : Result Kind NoSuchKind) → Decodes (number_of k) r → r ≡ Ok k
round_trip k (Ok j) e = ap (λ i. Ok i) (one_kind j k e)
round_trip k (Err e) h = let n = number_known k in absurd (grind (arith, h))
