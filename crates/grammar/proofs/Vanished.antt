-- VANISHED as the ABNF has it, with an option, finds the same as the two alternatives of specs/Rfc7162.antt.
use Prim.Native.Char.{code}
use Prim.Native.Nat.{ℕ}
use mathlib.Core.Path.{◌≡◌, refl, sym, subst}
use mathlib.Core.Bool.{Bool, true, false, ◌&&◌}
use mathlib.Core.List.{List, [], ◌∷◌}
use native.Mathlib.Omega.{arith}
use lib.ListN.{drop}
use lib.Dec.{T, leb, eqb, leb→le, eqb→eq}
use Rattle.grammar.specs.Text.{ascii}
use Rattle.grammar.specs.Kinds.{kind_vanished, kind_vanished_earlier}
use Rattle.grammar.specs.Forest.{none, tree, node_of, beside}
use Rattle.grammar.specs.Out.{Out, took, more, refused, deep, branch, followed_by, or_else, with_before}
use Rattle.grammar.specs.Scan.{Move, fail, moved, Scanned, ended, short, failed, scan, tag_no_case, digits, take_while1, blanks}
use Rattle.grammar.specs.Scan.{leaf_move, first_state, leaf_fits, leaf_nodes, leaf_found, leaf_at, capital, largest_32}
use Rattle.grammar.specs.Grammar.{Inner, Reader, G, mark, does, heads, headed, act, run}
use Rattle.grammar.specs.Notation.{◌⋯◌, ◌or◌, any_case, space1}
use Rattle.grammar.specs.Core.{sequence_set}
use Rattle.grammar.specs.Rfc7162.{resp_vanished}
use Rattle.grammar.proofs.Tests.{branch_ind, T_left}
use Rattle.grammar.proofs.Scans.{Scans, scans_ended, scans_short, scans_failed, scans_at}

-- "VANISHED" [SP "(EARLIER)"] SP known-uids: the option says which kind the node has, and `heads` puts what follows below it
abbrev pub as_before : G
as_before =
    does heads
    (any_case "VANISHED"
    ⋯ ((space1 ⋯ any_case "(EARLIER)" ⋯ mark kind_vanished_earlier 0) or mark kind_vanished 0)
    ⋯ space1 ⋯ sequence_set)

-- whatever the words, the blanks and the set find, if only no set stands where (EARLIER) does ---------------------------------

module _ (at : ℕ) (blank early : ℕ → Scanned) (set : ℕ → Out) (no_set : (i e v : ℕ) → early i ≡ ended e v → set i ≡ refused) where
  abbrev vanished : Scanned → Out
  vanished r = leaf_found (tag_no_case (ascii "VANISHED")) at r

  abbrev spaces : ℕ → Out
  spaces i = leaf_found (take_while1 blanks) i (blank i)

  abbrev earlier : ℕ → Out
  earlier i = leaf_found (tag_no_case (ascii "(EARLIER)")) i (early i)

  abbrev and_then : Out → (ℕ → Out) → Out
  and_then o next = followed_by o (λ e f. with_before f (next e))

  -- the option, begun at i
  abbrev option : ℕ → Out
  option i =
      or_else (and_then (and_then (spaces i) earlier) (λ e. took e (node_of kind_vanished_earlier 0 0)))
      (λ u. took i (node_of kind_vanished 0 0))

  -- by the scan r of VANISHED: with the option
  abbrev one_form : Scanned → Out
  one_form r =
      followed_by (and_then (and_then (and_then (vanished r) option) spaces) set) (λ e f. took e (act heads at e f))

  -- and as two alternatives
  abbrev two_forms : Scanned → Out
  two_forms r =
      or_else
      (followed_by (and_then (and_then (and_then (and_then (vanished r) spaces) earlier) spaces) set)
      (λ e f. took e (tree kind_vanished_earlier at e f none)))
      (λ u. followed_by (and_then (and_then (vanished r) spaces) set) (λ e f. took e (tree kind_vanished at e f none)))

  -- the same where VANISHED ended at i
  abbrev SameFrom : ℕ → ℕ → Type 0
  SameFrom i v = two_forms (ended i v) ≡ one_form (ended i v)

  -- with (EARLIER) from j to k: the set at l, behind the second blanks
  set_behind : (i v j w k x l y : ℕ) (o : Out) → blank i ≡ ended j w → early j ≡ ended k x → blank k ≡ ended l y → set l ≡ o → SameFrom i v
  unfolding leaf_fits leaf_nodes act headed beside
  set_behind i v j w k x l y (took e f) b p c q = rw (b, p, c, q)
  set_behind i v j w k x l y (more n) b p c q = rw (b, p, c, q)
  set_behind i v j w k x l y refused b p c q = rw (b, p, c, q, no_set j k x p)
  set_behind i v j w k x l y deep b p c q = rw (b, p, c, q)

  -- the second blanks
  blanks_behind : (i v j w k x : ℕ) (r : Scanned) → blank i ≡ ended j w → early j ≡ ended k x → blank k ≡ r → SameFrom i v
  unfolding leaf_fits leaf_nodes act headed beside
  blanks_behind i v j w k x (ended l y) b p c = set_behind i v j w k x l y (set l) b p c refl
  blanks_behind i v j w k x short b p c = rw (b, p, c)
  blanks_behind i v j w k x failed b p c = rw (b, p, c, no_set j k x p)

  -- without (EARLIER): the set at j, behind the first blanks
  set_alone : (i v j w : ℕ) (o : Out) → blank i ≡ ended j w → early j ≡ failed → set j ≡ o → SameFrom i v
  unfolding leaf_fits leaf_nodes act headed beside
  set_alone i v j w (took e f) b p q = rw (b, p) (rw (b, q))
  set_alone i v j w (more n) b p q = rw (b, p) (rw (b, q))
  set_alone i v j w refused b p q = rw (b, p) (rw (b, q))
  set_alone i v j w deep b p q = rw (b, p) (rw (b, q))

  -- what stands behind the first blanks
  behind_blanks : (i v j w : ℕ) (r : Scanned) → blank i ≡ ended j w → early j ≡ r → SameFrom i v
  unfolding leaf_fits leaf_nodes act headed beside
  behind_blanks i v j w (ended k x) b p = blanks_behind i v j w k x (blank k) b p refl
  behind_blanks i v j w short b p = rw (b, p)
  behind_blanks i v j w failed b p = set_alone i v j w (set j) b p refl

  -- the first blanks
  behind_vanished : (i v : ℕ) (r : Scanned) → blank i ≡ r → SameFrom i v
  unfolding leaf_fits leaf_nodes act headed beside
  behind_vanished i v (ended j w) b = behind_blanks i v j w (early j) b refl
  behind_vanished i v short b = rw b
  behind_vanished i v failed b = rw b (rw b)

  -- so the two are the same
  same_forms : (r : Scanned) → two_forms r ≡ one_form r
  same_forms (ended i v) = behind_vanished i v (blank i) refl
  same_forms short = refl
  same_forms failed = refl

-- no set stands where (EARLIER) does: its first byte is no digit ----------------------------------------------------------------

-- no other byte is "(" with case put aside
only_itself : (b : ℕ) → capital b ≡ code "(" → b ≡ code "("
only_itself b =
    branch_ind (λ c. c ≡ code "(" → b ≡ code "(") (leb (code "a") b && leb b (code "z")) _ _
    (λ t e. let l = leb→le (code "a") b (T_left (leb (code "a") b) (leb b (code "z")) t) in absurd (omega arith)) (λ t e. e)

-- what a scan's first test gives, where it fails without it
passed : {P : Type 0} (test : Bool) (m : Unit {0} → Move) (i : ℕ) (next : ℕ → ℕ → Scanned) → (T test → P)
    → Scans (λ e v. P) (Unit {0}) (moved (branch test m (λ u. fail)) i next)
passed {P} true m i next h = any (moved (m tt) i next)
  where
    any : (r : Scanned) → Scans (λ e v. P) (Unit {0}) r
    any (ended e v) = scans_ended (h tt)
    any short = scans_short tt
    any failed = scans_failed
passed false m i next h = scans_failed

abbrev earlier_scan : List ℕ → ℕ → Scanned
earlier_scan rest i = scan (leaf_move (tag_no_case (ascii "(EARLIER)"))) 0 0 rest i

abbrev NoNumber : List ℕ → ℕ → Type 0
NoNumber rest i = leaf_found (digits largest_32) i (scan (leaf_move (digits largest_32)) 0 0 rest i) ≡ refused

no_number_there : (rest : List ℕ) (i : ℕ) → Scans (λ e v. NoNumber rest i) (Unit {0}) (earlier_scan rest i)
unfolding scan leaf_move
no_number_there [] i = scans_short tt
no_number_there (b ∷ rest) i =
    passed (eqb (capital b) (code "(")) _ i _
    (λ t. subst (λ c. NoNumber (c ∷ rest) i) (sym (only_itself b (eqb→eq (capital b) (code "(") t))) refl)

no_set_there : (inner : Inner → Reader) (s : List ℕ) (i e v : ℕ)
    → earlier_scan (drop i s) i ≡ ended e v → run inner sequence_set s i ≡ refused
unfolding run leaf_at first_state sequence_set
no_set_there inner s i e v q = let h = scans_at (no_number_there (drop i s) i) q in rw h

-- THE SAME, in every buffer and from every place --------------------------------------------------------------------------------

pub vanished_as_before : (inner : Inner → Reader) (s : List ℕ) (at : ℕ) → run inner resp_vanished s at ≡ run inner as_before s at
unfolding run resp_vanished leaf_at first_state space1 act
vanished_as_before inner s at =
    same_forms at (λ i. scan (leaf_move (take_while1 blanks)) 0 0 (drop i s) i) (λ i. earlier_scan (drop i s) i)
    (λ i. run inner sequence_set s i) (no_set_there inner s) (scan (leaf_move (tag_no_case (ascii "VANISHED"))) 0 0 (drop at s) at)
