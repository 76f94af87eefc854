-- EACH RULE, not only all of them together: every rule is unfinished on the empty buffer and accepts a named one; none has a
-- constant answer, and none a constant number where its answer has one, but for those whose words leave no choice.
use Prim.Native.Nat.{ℕ, zero, suc, ◌≤◌}
use mathlib.Core.Path.{◌≡◌, refl, sym, ap, ◌∙◌}
use mathlib.Core.Bool.{Bool, true, false, not, ◌&&◌, ◌||◌}
use mathlib.Core.List.{List, [], ◌∷◌}
use native.Mathlib.Omega.{arith}
use lib.ListN.{length, get_or}
use lib.Dec.{T, leb, eqb, leb→le, nleb→lt, eqb→eq}
use Rattle.grammar.specs.Text.{ascii}
use Rattle.grammar.specs.Kinds.{kind_uidnotsticky}
use Rattle.grammar.specs.Rules.{rules, rule}
use Rattle.grammar.specs.Reading.{result, Result, last_rule, length_limit, deepest_level}
use Rattle.grammar.specs.Samples.{computing, lent}
use Rattle.grammar.proofs.Tests.{either_way, T_left, T_right, T_or, apart}
use Rattle.grammar.proofs.Fixed.{literal_free, leaf_count, nodes_of, counted, wants_none, makes_nodes, takes_word}

-- there are just as many rules as numbers
pub all_rules : length rules ≡ last_rule
unfolding rules
all_rules = refl

-- the buffers -----------------------------------------------------------------------------------------------------------------

-- by the rules' numbers (there is no rule 0): a buffer that is accepted,
unfoldable pub accepted_by : List (List ℕ)
accepted_by =
    []
    ∷ ascii "1;" ∷ ascii "1;" ∷ ascii "\"\"" ∷ ascii "{0}\r\n" ∷ ascii "\"\""
    ∷ ascii "a " ∷ ascii "NIL" ∷ ascii "a\r" ∷ ascii "1 " ∷ ascii "1 "
    ∷ ascii "[]" ∷ ascii "/shared/admin " ∷ ascii "(NIL NIL NIL NIL NIL NIL NIL NIL NIL NIL)"
    ∷ ascii "(\"\" \"\" NIL NIL NIL \"\" 1)"
    ∷ ascii "APPENDUID 1 1]" ∷ ascii "COPYUID 1 1 1]" ∷ ascii "UIDNOTSTICKY" ∷ ascii "VANISHED 1 "
    ∷ ascii "HIGHESTMODSEQ 1]" ∷ ascii "MODSEQ (1)" ∷ ascii "BODY[] NIL"
    ∷ ascii "METADATA \"\" (/shared/admin NIL)" ∷ ascii "METADATA \"\" \r"
    ∷ ascii "ENVELOPE (NIL NIL NIL NIL NIL NIL NIL NIL NIL NIL)" ∷ ascii "BODYSTRUCTURE (\"\" \"\" NIL NIL NIL \"\" 1)"
    ∷ []

-- another one, of another length and, where the rule has more than one node, with another number of nodes,
unfoldable pub accepted_too : List (List ℕ)
accepted_too =
    []
    ∷ ascii "12;" ∷ ascii "12;" ∷ ascii "\"a\"" ∷ ascii "{1}\r\na" ∷ ascii "\"a\""
    ∷ ascii "aa " ∷ ascii "\"\"" ∷ ascii "aa\r" ∷ ascii "1,2 " ∷ ascii "1,2 "
    ∷ ascii "[1]" ∷ ascii "/shared/comment " ∷ ascii "(NIL NIL ((NIL NIL NIL NIL)) NIL NIL NIL NIL NIL NIL NIL)"
    ∷ ascii "(\"\" \"\" (\"a\" \"b\") NIL NIL \"\" 1)"
    ∷ ascii "APPENDUID 1 1,2]" ∷ ascii "COPYUID 1 1,2 1]" ∷ ascii "UIDNOTSTICKY]" ∷ ascii "VANISHED 1,2 "
    ∷ ascii "HIGHESTMODSEQ 12]" ∷ ascii "MODSEQ (12)" ∷ ascii "BODY[1] NIL"
    ∷ ascii "METADATA \"\" (/shared/admin NIL /shared/comment NIL)" ∷ ascii "METADATA \"\" /shared/admin\r"
    ∷ ascii "ENVELOPE (NIL NIL ((NIL NIL NIL NIL)) NIL NIL NIL NIL NIL NIL NIL)"
    ∷ ascii "BODYSTRUCTURE (\"\" \"\" (\"a\" \"b\") NIL NIL \"\" 1)"
    ∷ []

-- and, where the rule can hold a literal, one that is unfinished in a literal's content
unfoldable pub wanting : List (List ℕ)
wanting =
    []
    ∷ [] ∷ [] ∷ [] ∷ ascii "{1}\r\n" ∷ ascii "{1}\r\n"
    ∷ ascii "{1}\r\n" ∷ ascii "{1}\r\n" ∷ [] ∷ [] ∷ []
    ∷ ascii "[HEADER.FIELDS ({1}\r\n" ∷ ascii "{1}\r\n" ∷ ascii "({1}\r\n"
    ∷ ascii "({1}\r\n"
    ∷ [] ∷ [] ∷ [] ∷ []
    ∷ [] ∷ [] ∷ ascii "BODY[] {1}\r\n"
    ∷ ascii "METADATA \"\" ({1}\r\n" ∷ ascii "METADATA \"\" {1}\r\n"
    ∷ ascii "ENVELOPE ({1}\r\n" ∷ ascii "BODYSTRUCTURE ({1}\r\n"
    ∷ []

-- that a rule's buffer is short, and what it gives, in a table with room enough
abbrev within : List ℕ → Bool
within s = leb (length s) 100

abbrev on : ℕ → List (List ℕ) → Result
on n rows = result n (get_or rows n []) (lent 100)

-- what is so of every number from 1 on -----------------------------------------------------------------------------------------

abbrev upto : ℕ → (ℕ → Bool) → Bool
upto zero p = true
upto (suc k) p = p (suc k) && upto k p

upto_at : (k : ℕ) (p : ℕ → Bool) → T (upto k p) → (n : ℕ) → 1 ≤ n → n ≤ k → T (p n)
upto_at zero p t n low high = absurd (omega arith)
upto_at (suc k) p t n low high =
    either_way (leb n k)
    (λ u. upto_at k p (T_right (p (suc k)) (upto k p) t) n low (leb→le n k u))
    (λ u. let z : n ≡ suc k = (let v = nleb→lt n k u in omega arith) in rw z (T_left (p (suc k)) (upto k p) t))

abbrev pub one_of : List ℕ → ℕ → Bool
one_of [] n = false
one_of (x ∷ rest) n = eqb n x || one_of rest n

-- the tests ---------------------------------------------------------------------------------------------------------------------

-- unfinished on the empty buffer, with no bytes wanted
abbrev waits : ℕ → Bool
waits n = eqb (result n [] (lent 100)).answer 1 && eqb (result n [] (lent 100)).wanted 0

abbrev accepts : List (List ℕ) → ℕ → Bool
accepts rows n = within (get_or rows n []) && eqb (on n rows).answer 0

-- both buffers are accepted, with different numbers
abbrev differ_in : (Result → ℕ) → ℕ → Bool
differ_in number n = not (eqb (number (on n accepted_by)) (number (on n accepted_too)))

abbrev tells : (Result → ℕ) → ℕ → Bool
tells number n = accepts accepted_by n && (accepts accepted_too n && differ_in number n)

abbrev tells_wanted : ℕ → Bool
tells_wanted n = within (get_or wanting n []) && (eqb (on n wanting).answer 1 && eqb (on n wanting).wanted 1)

-- one word is read by this rule, and nothing else
abbrev pub one_length : List ℕ
one_length = 17 ∷ []

-- each of these has the one node of a number, a string or a word
abbrev pub one_node : List ℕ
one_node = 1 ∷ 2 ∷ 3 ∷ 4 ∷ 5 ∷ 6 ∷ 7 ∷ 8 ∷ 12 ∷ 17 ∷ 19 ∷ 20 ∷ []

-- none of these can hold a literal
abbrev pub no_literal : List ℕ
no_literal = 1 ∷ 2 ∷ 3 ∷ 8 ∷ 9 ∷ 10 ∷ 15 ∷ 16 ∷ 17 ∷ 18 ∷ 19 ∷ 20 ∷ []

all_wait : T (upto last_rule waits)
unfolding computing
all_wait = tt

all_accept : T (upto last_rule (accepts accepted_by))
unfolding computing accepted_by
all_accept = tt

all_tell_nodes : T (upto last_rule (λ n. one_of one_node n || tells (λ r. r.nodes) n))
unfolding computing accepted_by accepted_too
all_tell_nodes = tt

all_tell_wanted : T (upto last_rule (λ n. one_of no_literal n || tells_wanted n))
unfolding computing wanting
all_tell_wanted = tt

-- those with one node, and those without literals
abbrev one_made : ℕ → Bool
one_made n = counted (rule n) && eqb (nodes_of (rule n)) 1

all_one_made : T (upto last_rule (λ n. not (one_of one_node n) || one_made n))
unfolding rules rule counted nodes_of leaf_count
all_one_made = tt

all_free : T (upto last_rule (λ n. not (one_of no_literal n) || literal_free (rule n)))
unfolding rules rule literal_free
all_free = tt

only_if : (a b : Bool) → T a → T (not a || b) → T b
only_if true b t u = u
only_if false b t u = absurd t

-- the theorems --------------------------------------------------------------------------------------------------------------------

module _ (n : ℕ) (low : 1 ≤ n) (high : n ≤ last_rule) where
  -- EVERY RULE IS UNFINISHED on the empty buffer,
  pub rule_waits : (result n [] (lent 100)).answer ≡ 1
  rule_waits =
      eqb→eq (result n [] (lent 100)).answer 1
      (T_left (eqb (result n [] (lent 100)).answer 1) (eqb (result n [] (lent 100)).wanted 0) (upto_at last_rule waits all_wait n low high))

  rule_wants_none : (result n [] (lent 100)).wanted ≡ 0
  rule_wants_none =
      eqb→eq (result n [] (lent 100)).wanted 0
      (T_right (eqb (result n [] (lent 100)).answer 1) (eqb (result n [] (lent 100)).wanted 0) (upto_at last_rule waits all_wait n low high))

  -- and accepts a named buffer
  pub rule_accepts : (result n (get_or accepted_by n []) (lent 100)).answer ≡ 0
  rule_accepts =
      eqb→eq (on n accepted_by).answer 0 (T_right (within (get_or accepted_by n [])) (eqb (on n accepted_by).answer 0)
      (upto_at last_rule (accepts accepted_by) all_accept n low high))

  short : (rows : List (List ℕ)) → T (accepts rows n) → length (get_or rows n []) ≤ length_limit
  short rows t =
      let l = leb→le (length (get_or rows n [])) 100 (T_left (within (get_or rows n [])) (eqb (on n rows).answer 0) t) in omega arith

  is_accepted : (rows : List (List ℕ)) → T (accepts rows n) → (on n rows).answer ≡ 0
  is_accepted rows t = eqb→eq (on n rows).answer 0 (T_right (within (get_or rows n [])) (eqb (on n rows).answer 0) t)

  -- NO CONSTANT ANSWER within the limit: so no rule refuses everything, and none is unfinished for ever
  pub no_constant_answer : (a : ℕ) → ((s t : List ℕ) → length s ≤ length_limit → (result n s t).answer ≡ a) → ⊥
  no_constant_answer a same =
      let l = short accepted_by (upto_at last_rule (accepts accepted_by) all_accept n low high) in
      apart 0 1 tt (sym rule_accepts ∙ same (get_or accepted_by n []) (lent 100) l ∙ sym (same [] (lent 100) (omega arith)) ∙ rule_waits)

  -- NO CONSTANT NUMBER of an accepted reading that two buffers give differently:
  telling : (number : Result → ℕ) → T (tells number n)
      → (k : ℕ) → ((s t : List ℕ) → length s ≤ length_limit → (result n s t).answer ≡ 0 → number (result n s t) ≡ k) → ⊥
  telling number t k same =
      let first = T_left (accepts accepted_by n) (accepts accepted_too n && differ_in number n) t in
      let both = T_right (accepts accepted_by n) (accepts accepted_too n && differ_in number n) t in
      let second = T_left (accepts accepted_too n) (differ_in number n) both in
      apart (number (on n accepted_by)) (number (on n accepted_too)) (T_right (accepts accepted_too n) (differ_in number n) both)
      (same (get_or accepted_by n []) (lent 100) (short accepted_by first) (is_accepted accepted_by first)
      ∙ sym (same (get_or accepted_too n []) (lent 100) (short accepted_too second) (is_accepted accepted_too second)))

  -- taken, but for the rule of one word (its test is computed here, so that a wrong list of rules fails this theorem itself),
  pub no_constant_taken : (T (one_of one_length n) → ⊥)
      → (k : ℕ) → ((s t : List ℕ) → length s ≤ length_limit → (result n s t).answer ≡ 0 → (result n s t).taken ≡ k) → ⊥
  unfolding computing accepted_by accepted_too
  no_constant_taken other =
      let all_tell_taken : T (upto last_rule (λ n. one_of one_length n || tells (λ r. r.taken) n)) = tt in
      T_or (one_of one_length n) (tells (λ r. r.taken) n)
      (upto_at last_rule (λ n. one_of one_length n || tells (λ r. r.taken) n) all_tell_taken n low high)
      (λ t. absurd (other t)) (λ t. telling (λ r. r.taken) t)

  -- nodes, but for the rules of one node,
  pub no_constant_nodes : (T (one_of one_node n) → ⊥)
      → (k : ℕ) → ((s t : List ℕ) → length s ≤ length_limit → (result n s t).answer ≡ 0 → (result n s t).nodes ≡ k) → ⊥
  no_constant_nodes other =
      T_or (one_of one_node n) (tells (λ r. r.nodes) n)
      (upto_at last_rule (λ n. one_of one_node n || tells (λ r. r.nodes) n) all_tell_nodes n low high)
      (λ t. absurd (other t)) (λ t. telling (λ r. r.nodes) t)

  -- and wanted of an unfinished one, but for the rules without literals
  wanted_one : T (tells_wanted n)
      → (k : ℕ) → ((s t : List ℕ) → length s ≤ length_limit → (result n s t).answer ≡ 1 → (result n s t).wanted ≡ k) → ⊥
  wanted_one t k same =
      let ShortRow = T_left (within (get_or wanting n [])) (eqb (on n wanting).answer 1 && eqb (on n wanting).wanted 1) t in
      let l = leb→le (length (get_or wanting n [])) 100 ShortRow in
      let rest = T_right (within (get_or wanting n [])) (eqb (on n wanting).answer 1 && eqb (on n wanting).wanted 1) t in
      let WaitsThere = eqb→eq (on n wanting).answer 1 (T_left (eqb (on n wanting).answer 1) (eqb (on n wanting).wanted 1) rest) in
      let one = eqb→eq (on n wanting).wanted 1 (T_right (eqb (on n wanting).answer 1) (eqb (on n wanting).wanted 1) rest) in
      apart 1 0 tt (sym one ∙ same (get_or wanting n []) (lent 100) (omega arith) WaitsThere
      ∙ sym (same [] (lent 100) (omega arith) rule_waits) ∙ rule_wants_none)

  pub no_constant_wanted : (T (one_of no_literal n) → ⊥)
      → (k : ℕ) → ((s t : List ℕ) → length s ≤ length_limit → (result n s t).answer ≡ 1 → (result n s t).wanted ≡ k) → ⊥
  no_constant_wanted other =
      T_or (one_of no_literal n) (tells_wanted n)
      (upto_at last_rule (λ n. one_of no_literal n || tells_wanted n) all_tell_wanted n low high)
      (λ t. absurd (other t)) wanted_one

  -- OF THE EXCEPTIONS the number is the one that the rule leaves: the length of the word,
  pub fixed_taken : T (one_of one_length n) → (s t : List ℕ) → (result n s t).answer ≡ 0 → (result n s t).taken ≡ 12
  unfolding result rules rule
  fixed_taken is s t a =
      T_or (eqb n 17) false is
      (λ u. takes_word deepest_level n kind_uidnotsticky (ascii "UIDNOTSTICKY") s t (ap rule (eqb→eq n 17 u)) a) (λ u. absurd u)

  -- one node,
  pub fixed_nodes : T (one_of one_node n) → (s t : List ℕ) → (result n s t).answer ≡ 0 → (result n s t).nodes ≡ 1
  unfolding result
  fixed_nodes is s t a =
      let x = only_if (one_of one_node n) (one_made n) is (upto_at last_rule (λ n. not (one_of one_node n) || one_made n) all_one_made n low high) in
      makes_nodes deepest_level n s t (T_left (counted (rule n)) (eqb (nodes_of (rule n)) 1) x) a
      ∙ eqb→eq (nodes_of (rule n)) 1 (T_right (counted (rule n)) (eqb (nodes_of (rule n)) 1) x)

  -- no bytes wanted
  pub fixed_wanted : T (one_of no_literal n) → (s t : List ℕ) → (result n s t).answer ≡ 1 → (result n s t).wanted ≡ 0
  unfolding result
  fixed_wanted is s t a =
      wants_none deepest_level n s t
      (only_if (one_of no_literal n) (literal_free (rule n)) is
      (upto_at last_rule (λ n. not (one_of no_literal n) || literal_free (rule n)) all_free n low high)) a
