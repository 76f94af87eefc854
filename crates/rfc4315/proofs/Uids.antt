-- A member of a uid set: the smaller number first; a number alone is a uid.
use Rattle.std.proofs.Common.{ℕ, Option, Some, None, min, max}
use mathlib.Core.Path.{◌≡◌, refl}
use native.Mathlib.Omega.{arith}
use lib.Dec.{leb}
use mathlib.Core.Bool.{Bool, true, false}
use borrow.Author.Tests.{leb-true, leb-false}
use Rattle.grammar.specs.Out.{branch}
use Rattle.grammar.specs.Kinds.{kind_range, kind_uid}
use Rattle.grammar.specs.Grammar.{smaller, larger, uid_range, act}
use Rattle.table.specs.Fill.{act_table}
use Rattle.lists.proofs.Members.{Flat, Makes, members}

pub uid_flat : Flat uid_range
unfolding act_table
uid_flat = record { lays = λ at o below t. refl }

pub uid_one : {v : ℕ} {last : Option ℕ} → last ≡ None → Makes uid_range v last kind_uid v v
unfolding act
uid_one {v} e = record { makes = λ at end. rw e }

smaller_is : (v w : ℕ) → min v w ≡ smaller v w
smaller_is v w = cases (leb v w) refl
  where
    cases : (t : Bool) → leb v w ≡ t → min v w ≡ branch t (λ u. v) (λ u. w)
    cases true e = let l = leb-true v w e in omega arith
    cases false e = let l = leb-false v w e in omega arith

larger_is : (v w : ℕ) → max v w ≡ larger v w
larger_is v w = cases (leb v w) refl
  where
    cases : (t : Bool) → leb v w ≡ t → max v w ≡ branch t (λ u. w) (λ u. v)
    cases true e = let l = leb-true v w e in omega arith
    cases false e = let l = leb-false v w e in omega arith

pub uid_two : {v w x y : ℕ} {last : Option ℕ} → last ≡ Some w → x ≡ min v w → y ≡ max v w → Makes uid_range v last kind_range x y
unfolding act
uid_two {v} {w} e p q = record { makes = λ at end. rw (e, p, q, smaller_is v w, larger_is v w) }

pub ruleset uids = (uid_flat, uid_one, uid_two, members)
