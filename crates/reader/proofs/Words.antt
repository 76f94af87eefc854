-- What the functions for other languages write to the words that a caller lends.
use Prim.Native.Nat.{ℕ, ◌≤◌, ◌<◌}
use native.Mathlib.Nat.{zero-add}
use native.Mathlib.Omega.{arith}
use mathlib.Core.Path.{◌≡◌, refl, sym, ◌∙◌, ap, subst}
use mathlib.Core.List.{List, [], ◌∷◌}
use lib.ListN.{length}
use lib.Seq.{sets, sets-eq}
use borrow.Author.Tests.{le-leb, lt-leb}
use Rattle.grammar.specs.Reading.{result}
use Rattle.views.specs.View.{part_at, answer_of, offset_of, length_of}
use Rattle.std.proofs.Common.{Option}
use Rattle.views.specs.declared.Part.{Part}
use Rattle.reader.specs.declared.Answer.{Answer}
use Rattle.reader.specs.Answers.{Answers, numbered}
use Rattle.reader.specs.Exports.{in_front, numbers, Reports, Shows}
use Rattle.reader.proofs.Passes.{table_numbered}

-- written one after another
pub written : (numbers out : List ℕ) → length numbers ≤ length out → sets out 0 numbers ≡ in_front numbers out
unfolding in_front
written numbers out h = sets-eq numbers out 0 (omega (arith, h)) ∙ rw (le-leb _ _ h) (rw (zero-add (length numbers)) refl)

-- there is no room for them
pub not_written : (numbers out : List ℕ) → length out < length numbers → out ≡ in_front numbers out
unfolding in_front
not_written numbers out h = rw (lt-leb _ _ h) refl

-- what is answered, by one of its cases, and written to the caller's words
pub reports : {n r : ℕ} {s t t' out out' : List ℕ} {a : Answer} (b : Answer) → Answers n s t a t' → a ≡ b → r ≡ (numbered b t').answer
    → out' ≡ in_front (numbers (numbered b t')) out → Reports n s t out r t' out'
reports {n} {r} {s} {t} {t'} {out} {out'} b answers is answer words =
    let e : numbered b t' ≡ result n s t = subst (λ a. numbered a t' ≡ result n s t) is answers.is in
    record {
      answer = answer ∙ ap (λ x. x.answer) e;
      table = table_numbered b t' ∙ ap (λ x. x.table) e;
      words = words ∙ ap (λ x. in_front (numbers x) out) e;
    }

-- the part that was found, by the code's test and by the definition
pub shows : {len node r : ℕ} {t out out' : List ℕ} {p : Option Part} (q : Option Part) → p ≡ part_at len t node → p ≡ q → r ≡ answer_of q
    → out' ≡ in_front (offset_of q ∷ length_of q ∷ []) out → Shows len t node out r out'
shows {len} {node} {r} {t} {out} q found is answer words =
    let e : q ≡ part_at len t node = sym is ∙ found in
    record {
      answer = answer ∙ ap answer_of e;
      words = words ∙ ap (λ p. in_front (offset_of p ∷ length_of p ∷ []) out) e;
    }
