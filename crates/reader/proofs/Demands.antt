-- THE THREE DEMANDS, of every result that the promise of `read` allows. OPEN THIS FIRST: each theorem stands under the words of
-- the demand, quoted whole. `Answers n s t r t'`: read(n, s, t) answered r and left the table t' (specs/Answers.antt). What
-- `Proper`, `SameAnswer` and `OpenLiteral` say stands in crates/grammar/specs/Proper.antt and OpenLiteral.antt.
use Prim.Native.Nat.{ℕ, zero, suc, ◌-◌, ◌≤◌, ◌<◌}
use mathlib.Core.Path.{◌≡◌, refl, sym, ap, subst, ◌∙◌}
use mathlib.Core.List.{List, [], ◌∷◌, ◌++◌}
use native.Mathlib.Omega.{arith}
use lib.ListN.{length, get_or}
use lib.Dec.{T}
use Rattle.grammar.specs.Kinds.{kind_bytes}
use Rattle.grammar.specs.Reading.{Result, result_at, result, deepest_level, length_limit, last_rule, room, kind_word}
use Rattle.grammar.specs.OpenLiteral.{OpenLiteral}
use Rattle.grammar.specs.Proper.{ranged, Proper, SameAnswer, Meets}
use Rattle.grammar.proofs.Tests.{one_result, apart}
use Rattle.grammar.proofs.Bounds.{result_proper}
use Rattle.grammar.proofs.ThisLiteral.{only_one, one_start}
use Rattle.grammar.proofs.Demand3.{second_sentence_fewer, second_sentence_all, second_sentence_literal}
use Rattle.grammar.proofs.Demand3 as Definition
use Rattle.grammar.specs.Samples.{lent}
use Rattle.grammar.proofs.EachRule.{accepted_by, one_of, one_length, one_node, no_literal}
use Rattle.grammar.proofs.EachRule as EachRule
use Rattle.grammar.proofs.NotEmpty.{constant_answer, refuses_everything, forever_unfinished, never_writes, invents_taken, invents_nodes, invents_wanted}
use Rattle.views.specs.View.{part_at, answer_of as view_answer}
use Rattle.views.proofs.Parts.{found}
use Rattle.reader.specs.declared.Answer.{Answer}
use Rattle.reader.specs.declared.Answer.TheVariants.{Accepted, Unfinished, NotTheGrammar, TooDeep, NoRoom, UnknownRule, TooLong}
use Rattle.reader.specs.Answers.{numbered, Answers}
use Rattle.reader.specs.Exports.{Reports, Shows}
use Rattle.reader.proofs.Passes.{table_numbered}

-- 1. "Whatever bytes the mail server sends, each reading ends with one of document 01's numbered answers and stays inside the lent
-- buffer. An unfinished or refused reading returns the numbers fixed there and changes no word of the lent node table. Nothing has
-- to be checked by the caller first." (Document 01 is the client's paper; docs/RULES.md has what it fixes. `Proper` has a line for
-- each; there is no condition on n, s and t.)
pub demand_1 : {n : ℕ} {s t t' : List ℕ} {r : Answer} → Answers n s t r t' → Proper (result n s) s t (numbered r t')
unfolding result
demand_1 {n} {s} {t} p = subst (λ x. Proper (result n s) s t x) (sym p.is) (result_proper deepest_level n s t)

-- (So every bytes node of an accepted table names bytes of the buffer: its view answers 0.)
pub demand_1_view : {n : ℕ} {s t t' : List ℕ} {taken nodes : ℕ} → Answers n s t (Accepted taken nodes) t'
    → (i : ℕ) → i < nodes → kind_word t' i ≡ kind_bytes → view_answer (part_at (length s) t' i) ≡ 0
demand_1_view {n} {s} {t} {t'} {taken} {nodes} p i l k =
    let whole = demand_1 p in
    let a = whole.accepted refl in
    let bytes : T (ranged (kind_word t' i)) = rw k tt in
    let long = whole.same_length in
    let in_room = a.in_room in
    let order = a.range_order i l bytes in
    let within = a.range_within i l bytes in
    let taken_within = a.within in
    sym (ap view_answer (found (length s) t' i (omega arith) k refl refl order (omega arith)))

-- (And answer 4's count is the room that is needed: any table with as much is enough, and gets as many nodes.)
pub demand_1_room : {n : ℕ} {s t t₁ t' t₂ : List ℕ} {r : Answer} {nodes : ℕ} → Answers n s t (NoRoom nodes) t₁
    → Answers n s t' r t₂ → nodes ≤ room t' → (taken : ℕ) × (r ≡ Accepted taken nodes)
demand_1_room {t' = t'} {t₂} {r} {nodes} first second l =
    accepts r (ap (λ y. y.answer) second.is ∙ (demand_1 first).room_enough refl t' l)
    (ap (λ y. y.nodes) second.is ∙ (demand_1 first).room_exact refl t' l)
  where
    accepts : (r : Answer) → (numbered r t₂).answer ≡ 0 → (numbered r t₂).nodes ≡ nodes → (taken : ℕ) × (r ≡ Accepted taken nodes)
    accepts (Accepted taken m) a b = (taken, ap (Accepted taken) b)
    accepts (Unfinished w) a b = absurd (apart 1 0 tt a)
    accepts NotTheGrammar a b = absurd (apart 2 0 tt a)
    accepts TooDeep a b = absurd (apart 3 0 tt a)
    accepts (NoRoom m) a b = absurd (apart 4 0 tt a)
    accepts UnknownRule a b = absurd (apart 5 0 tt a)
    accepts TooLong a b = absurd (apart 6 0 tt a)

-- 2. "Answer, length taken and nodes equal the Rust's on every input for which its text is in docs/src, except where document 01
-- lists a difference." No theorem speaks of the Rust: the two are compared by running them, on millions of inputs
-- (oracle/README.md), and docs/DIFFERENCES.md lists each difference with an input.
-- "They are also proved equal to a definition written from RFC 3501, 4315, 4551, 5464 and 7162 with the leniencies that document 01
-- names." All numbers, and every word of the table:
pub demand_2 : {n : ℕ} {s t t' : List ℕ} {r : Answer} → Answers n s t r t' → numbered r t' ≡ result n s t
demand_2 p = p.is

-- 3. "Take one rule, one table size and two buffers within the length limit, the second beginning with the whole of the first.
module _ {n : ℕ} (s x : List ℕ) {t t' t₁ t₂ : List ℕ} {r r' : Answer} (within : length (s ++ x) ≤ length_limit)
    (first : Answers n s t r t₁) (second : Answers n (s ++ x) t' r' t₂) where
  -- If the first is accepted or refused, the second gets the same answer, length and node words.
  pub demand_3_settled : length t ≡ length t' → ((numbered r t₁).answer ≡ 1 → ⊥) → SameAnswer (numbered r t₁) (numbered r' t₂)
  unfolding result
  demand_3_settled sizes h =
      subst (λ y. SameAnswer y (numbered r' t₂)) (sym first.is)
      (subst (λ y. SameAnswer (result_at deepest_level n s t) y) (sym second.is)
      (Definition.first_sentence deepest_level n s x t t' within sizes (λ a. h (ap (λ y. y.answer) first.is ∙ a))))

  -- If the first is unfinished inside a literal's content, its line end read, the count of missing bytes is exact:
  module _ (w : ℕ) (told : r ≡ Unfinished (suc w)) where
    is_open : (result_at deepest_level n s t).answer ≡ 1
    unfolding result
    is_open = ap (λ y. y.answer) (sym first.is) ∙ ap (λ y. (numbered y t₁).answer) told

    wants : (result_at deepest_level n s t).wanted ≡ suc w
    unfolding result
    wants = ap (λ y. y.wanted) (sym first.is) ∙ ap (λ y. (numbered y t₁).wanted) told

    -- fewer added, within the limit, leave it unfinished with the count lowered by as many;
    pub demand_3_fewer : length x ≤ w → numbered r' t₂ ≡ numbered (Unfinished (suc w - length x)) t'
    unfolding result
    demand_3_fewer l = second.is ∙ second_sentence_fewer deepest_level n s x t t' within w is_open wants l

    -- that many complete this literal, whatever they are.
    pub demand_3_all : length x ≡ suc w → (v : ℕ) → r' ≡ Unfinished (suc v) → ⊥
    unfolding result
    demand_3_all l v q =
        second_sentence_all deepest_level n s x t t' within w is_open wants l
        (ap (λ y. y.answer) (sym second.is) ∙ ap (λ y. (numbered y t₂).answer) q) v
        (ap (λ y. y.wanted) (sym second.is) ∙ ap (λ y. (numbered y t₂).wanted) q)

-- (This literal: fixed by the first call alone, whatever is added. `OpenLiteral` says where it begins, that this is in no other
-- literal's content, that its line end is read and what it lacks, and that any bytes of that number complete it.)
pub demand_3_literal : {n : ℕ} {s t t₁ : List ℕ} {r : Answer} → Answers n s t r t₁ → (w : ℕ) → r ≡ Unfinished (suc w) → OpenLiteral s w
unfolding result
demand_3_literal {n} {s} {t} {t₁} first w told =
    second_sentence_literal deepest_level n s t w
    (ap (λ y. y.answer) (sym first.is) ∙ ap (λ y. (numbered y t₁).answer) told)
    (ap (λ y. y.wanted) (sym first.is) ∙ ap (λ y. (numbered y t₁).wanted) told)

-- (There is only one: any two open literals of one buffer begin at one place, and their content starts at one.)
pub demand_3_only : (s : List ℕ) (w v : ℕ) (x : OpenLiteral s w) (y : OpenLiteral s v)
    → (x.begins ≡ y.begins) × (x.wants.start ≡ y.wants.start)
demand_3_only s w v x y = (only_one s w v x y, one_start s w v x y)

-- If it is unfinished anywhere else, one zero byte added within the limit settles it."
pub demand_3_zero : {n : ℕ} {s t t' t₁ t₂ : List ℕ} {r r' : Answer} → length (s ++ (0 ∷ [])) ≤ length_limit
    → Answers n s t r t₁ → Answers n (s ++ (0 ∷ [])) t' r' t₂ → r ≡ Unfinished 0 → (v : ℕ) → r' ≡ Unfinished v → ⊥
unfolding result
demand_3_zero {n} {s} {t} {t'} {t₁} {t₂} l first second p v q =
    Definition.third_sentence deepest_level n s t t' l
    (ap (λ y. y.answer) (sym first.is) ∙ ap (λ y. (numbered y t₁).answer) p)
    (ap (λ y. y.wanted) (sym first.is) ∙ ap (λ y. (numbered y t₁).wanted) p)
    (ap (λ y. y.answer) (sym second.is) ∙ ap (λ y. (numbered y t₂).answer) q)

-- any two results that the promise allows are equal -------------------------------------------------------------------------

-- the case with these numbers
unfoldable answer_of : (answer taken nodes wanted : ℕ) → Answer
answer_of zero taken nodes wanted = Accepted taken nodes
answer_of (suc zero) taken nodes wanted = Unfinished wanted
answer_of (suc (suc zero)) taken nodes wanted = NotTheGrammar
answer_of (suc (suc (suc zero))) taken nodes wanted = TooDeep
answer_of (suc (suc (suc (suc zero)))) taken nodes wanted = NoRoom nodes
answer_of (suc (suc (suc (suc (suc zero))))) taken nodes wanted = UnknownRule
answer_of (suc (suc (suc (suc (suc (suc n)))))) taken nodes wanted = TooLong

unfoldable back : Result → Answer
back y = answer_of y.answer y.taken y.nodes y.wanted

back_numbered : (r : Answer) (t : List ℕ) → r ≡ back (numbered r t)
unfolding back answer_of
back_numbered (Accepted taken nodes) t = refl
back_numbered (Unfinished wanted) t = refl
back_numbered NotTheGrammar t = refl
back_numbered TooDeep t = refl
back_numbered (NoRoom nodes) t = refl
back_numbered UnknownRule t = refl
back_numbered TooLong t = refl

pub one_answer : {n : ℕ} {s t t₁ t₂ : List ℕ} {r r' : Answer} → Answers n s t r t₁ → Answers n s t r' t₂ → (r ≡ r') × (t₁ ≡ t₂)
one_answer {t₁ = t₁} {t₂} {r} {r'} p q =
    let same : numbered r t₁ ≡ numbered r' t₂ = p.is ∙ sym q.is in (
      back_numbered r t₁ ∙ ap back same ∙ sym (back_numbered r' t₂),
      table_numbered r t₁ ∙ ap (λ (y : Result). y.table) same ∙ sym (table_numbered r' t₂),
    )

-- of the two functions for other languages: what is returned, the table, and the words lent for the numbers
pub one_report : {n : ℕ} {s t out t₁ t₂ o₁ o₂ : List ℕ} {r r' : ℕ} → Reports n s t out r t₁ o₁ → Reports n s t out r' t₂ o₂
    → (r ≡ r') × (t₁ ≡ t₂) × (o₁ ≡ o₂)
one_report p q = (one_result p.answer q.answer, one_result p.table q.table, one_result p.words q.words)

pub one_showing : {len node : ℕ} {t out o₁ o₂ : List ℕ} {r r' : ℕ} → Shows len t node out r o₁ → Shows len t node out r' o₂
    → (r ≡ r') × (o₁ ≡ o₂)
one_showing p q = (one_result p.answer q.answer, one_result p.words q.words)

-- (Of views: `one_view`, crates/views/proofs/Parts.antt. All other promises of views and walker are equations: `one_result`.)

-- the wrong readers that are named do not meet the promise -------------------------------------------------------------

-- a reader that keeps the promise meets the definition
pub meets : (answer : ℕ → List ℕ → List ℕ → Answer) (after : ℕ → List ℕ → List ℕ → List ℕ)
    → ((n : ℕ) (s t : List ℕ) → Answers n s t (answer n s t) (after n s t)) → Meets (λ n s t. numbered (answer n s t) (after n s t))
meets answer after p n s t = (p n s t).is

-- "Demand 2 shuts out a reader that refuses everything, one with a constant answer, one that never writes the table, and one that
-- invents taken, nodes or wanted". No reader that keeps the promise
module _ (answer : ℕ → List ℕ → List ℕ → Answer) (after : ℕ → List ℕ → List ℕ → List ℕ)
    (kept : (n : ℕ) (s t : List ℕ) → Answers n s t (answer n s t) (after n s t)) where
  abbrev answers : ℕ → List ℕ → List ℕ → Result
  answers n s t = numbered (answer n s t) (after n s t)

  -- refuses everything,
  pub not_refusing : ((n : ℕ) (s t : List ℕ) → (answers n s t).answer ≡ 2) → ⊥
  not_refusing same = refuses_everything answers same (meets answer after kept)

  -- has a constant answer,
  pub not_constant : (a : ℕ) → ((n : ℕ) (s t : List ℕ) → (answers n s t).answer ≡ a) → ⊥
  not_constant a same = constant_answer answers a same (meets answer after kept)

  -- is unfinished for ever,
  pub not_for_ever : ((n : ℕ) (s t : List ℕ) → (answers n s t).answer ≡ 1) → ⊥
  not_for_ever same = forever_unfinished answers same (meets answer after kept)

  -- never writes the table,
  pub not_idle : ((n : ℕ) (s t : List ℕ) → after n s t ≡ t) → ⊥
  not_idle same =
      never_writes answers (λ n s t. sym (table_numbered (answer n s t) (after n s t)) ∙ same n s t) (meets answer after kept)

  -- or invents taken, nodes or wanted, in any call.
  module _ (n : ℕ) (s t : List ℕ) where
    pub no_other_taken : ((answers n s t).taken ≡ (result n s t).taken → ⊥) → ⊥
    no_other_taken h = invents_taken answers n s t h (meets answer after kept)

    pub no_other_nodes : ((answers n s t).nodes ≡ (result n s t).nodes → ⊥) → ⊥
    no_other_nodes h = invents_nodes answers n s t h (meets answer after kept)

    pub no_other_wanted : ((answers n s t).wanted ≡ (result n s t).wanted → ⊥) → ⊥
    no_other_wanted h = invents_wanted answers n s t h (meets answer after kept)

  -- RULE BY RULE: each is unfinished on the empty buffer, and accepts a named one;
  module _ (n : ℕ) (low : 1 ≤ n) (high : n ≤ last_rule) where
    pub rule_waits : (answers n [] (lent 100)).answer ≡ 1
    rule_waits = ap (λ y. y.answer) (kept n [] (lent 100)).is ∙ EachRule.rule_waits n low high

    pub rule_accepts : (answers n (get_or accepted_by n []) (lent 100)).answer ≡ 0
    rule_accepts = ap (λ y. y.answer) (kept n (get_or accepted_by n []) (lent 100)).is ∙ EachRule.rule_accepts n low high

    -- so of none, within the length limit, the answer is constant,
    pub no_constant_answer : (a : ℕ) → ((s t : List ℕ) → length s ≤ length_limit → (answers n s t).answer ≡ a) → ⊥
    no_constant_answer a same =
        EachRule.no_constant_answer n low high a (λ s t l. ap (λ y. y.answer) (sym (kept n s t).is) ∙ same s t l)

    -- taken or nodes where it is accepted,
    pub no_constant_taken : (T (one_of one_length n) → ⊥)
        → (k : ℕ) → ((s t : List ℕ) → length s ≤ length_limit → (answers n s t).answer ≡ 0 → (answers n s t).taken ≡ k) → ⊥
    no_constant_taken other k same =
        EachRule.no_constant_taken n low high other k
        (λ s t l a. ap (λ y. y.taken) (sym (kept n s t).is) ∙ same s t l (ap (λ y. y.answer) (kept n s t).is ∙ a))

    pub no_constant_nodes : (T (one_of one_node n) → ⊥)
        → (k : ℕ) → ((s t : List ℕ) → length s ≤ length_limit → (answers n s t).answer ≡ 0 → (answers n s t).nodes ≡ k) → ⊥
    no_constant_nodes other k same =
        EachRule.no_constant_nodes n low high other k
        (λ s t l a. ap (λ y. y.nodes) (sym (kept n s t).is) ∙ same s t l (ap (λ y. y.answer) (kept n s t).is ∙ a))

    -- or wanted where it is unfinished. (But for what the words of a rule leave no choice of: EachRule.antt names them.)
    pub no_constant_wanted : (T (one_of no_literal n) → ⊥)
        → (k : ℕ) → ((s t : List ℕ) → length s ≤ length_limit → (answers n s t).answer ≡ 1 → (answers n s t).wanted ≡ k) → ⊥
    no_constant_wanted other k same =
        EachRule.no_constant_wanted n low high other k
        (λ s t l a. ap (λ y. y.wanted) (sym (kept n s t).is) ∙ same s t l (ap (λ y. y.answer) (kept n s t).is ∙ a))
