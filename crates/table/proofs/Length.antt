-- No reading changes the table's length.
use Prim.Native.Nat.{ℕ, zero, suc, ◌+◌}
use mathlib.Core.Path.{◌≡◌, refl, ◌∙◌}
use mathlib.Core.Bool.{Bool, true, false}
use mathlib.Core.List.{List, ◌∷◌}
use native.Mathlib.Omega.{arith}
use lib.ListN.{length, take, drop, get_or, length-append, length-take, length-drop}
use lib.Dec.{leb}
use borrow.Author.Tests.{leb-true}
use Rattle.grammar.specs.Forest.{none, tree, size, count}
use Rattle.grammar.specs.Out.{Out, took, more, refused, deep, branch, followed_by}
use Rattle.grammar.specs.Scan.{leaf_at, literal_at}
use Rattle.grammar.specs.Grammar.{Act, node, listed, heads, range, uid_range, dropped, act, Inner, G, leaf, literal, nothing, mark, seq, alt, star, does, entry, ref, Reader, run}
use Rattle.grammar.specs.Rules.{levels}
use Rattle.grammar.specs.BodyStructure.{grammar}
use Rattle.table.specs.Cursor.{Step, Took, More, Refused, Deep}
use Rattle.table.specs.Table.{as_step, then_table, else_table, list_table, lay, over, rehead, onward, skip_to}
use Rattle.table.specs.Fill.{Filler, act_table, repeat_table, fill_with, fill_levels, fill}

-- four words for four
four_length : (x : Bool) (k a b n : ℕ) (t : List ℕ) → leb 4 (length t) ≡ x
    → length (branch x (λ u. k ∷ a ∷ b ∷ n ∷ drop 4 t) (λ u. t)) ≡ length t
four_length true k a b n t p = let l = leb-true 4 (length t) p in let m = length-drop 4 t in omega arith
four_length false k a b n t p = refl

pub over_length : (k a b n : ℕ) (t : List ℕ) → length (over k a b n t) ≡ length t
unfolding over
over_length k a b n t = four_length (leb 4 (length t)) k a b n t refl

pub rehead_length : (a b n : ℕ) (t : List ℕ) → length (rehead a b n t) ≡ length t
unfolding rehead
rehead_length a b n t = four_length (leb 4 (length t)) (get_or t 0 0) a b n t refl

pub onward_length : (n : ℕ) (f : List ℕ → List ℕ) (t : List ℕ) → ((u : List ℕ) → length (f u) ≡ length u)
    → length (onward n f t) ≡ length t
unfolding onward
onward_length n f t h =
    let k = skip_to (length t) n in
    let a = length-append (take k t) (f (drop k t)) in
    let b = h (drop k t) in
    let c = length-drop k t in
    let d = length-take k t in
    omega arith

pub then_table_length : (r : Step) (t : List ℕ) (k : ℕ → ℕ → List ℕ) (m : ℕ) → length t ≡ m → ((e n : ℕ) → length (k e n) ≡ m)
    → length (then_table r t k) ≡ m
then_table_length (Took e n) t k m p q = q e n
then_table_length (More w) t k m p q = p
then_table_length Refused t k m p q = p
then_table_length Deep t k m p q = p

else_table_length : (r : Step) (t : List ℕ) (k : Unit {0} → List ℕ) (m : ℕ) → length t ≡ m → length (k tt) ≡ m
    → length (else_table r t k) ≡ m
else_table_length (Took e n) t k m p q = p
else_table_length (More w) t k m p q = p
else_table_length Refused t k m p q = q
else_table_length Deep t k m p q = p

list_table_length : (o : Out) (t : List ℕ) → length (list_table o t) ≡ length t
list_table_length (took e f) t = over_length 7 (count f) 0 (size f + 1) t
list_table_length (more w) t = refl
list_table_length refused t = refl
list_table_length deep t = refl

pub lay_length : (o : Out) (t : List ℕ) → length (lay o t) ≡ length t
lay_length (took e none) t = refl
lay_length (took e (tree k a b f g)) t = over_length k a b 1 t
lay_length (more w) t = refl
lay_length refused t = refl
lay_length deep t = refl

act_table_length : (a : Act) (at : ℕ) (o : Out) (below : List ℕ → List ℕ) (t : List ℕ)
    → ((u : List ℕ) → length (below u) ≡ length u) → length (act_table a at o below t) ≡ length t
unfolding act_table
act_table_length (node k) at o below t h =
    let p = onward_length 1 below t h in
    then_table_length (as_step o) (onward 1 below t) _ (length t) p (λ e n. over_length k at e (n + 1) (onward 1 below t) ∙ p)
act_table_length listed at o below t h = list_table_length o (onward 1 below t) ∙ onward_length 1 below t h
act_table_length heads at o below t h = then_table_length (as_step o) (below t) _ (length t) (h t) (λ e n. rehead_length at e n (below t) ∙ h t)
act_table_length range at o below t h = lay_length (followed_by o (λ e f. took e (act range at e f))) t
act_table_length uid_range at o below t h = lay_length (followed_by o (λ e f. took e (act uid_range at e f))) t
act_table_length dropped at o below t h = refl

pub repeat_table_length : (item : ℕ → Step) (write : ℕ → List ℕ → List ℕ) → ((i : ℕ) (u : List ℕ) → length (write i u) ≡ length u)
    → (turns at n : ℕ) (t : List ℕ) → length (repeat_table turns item write at n t) ≡ length t
unfolding repeat_table
repeat_table_length item write h zero at n t = refl
repeat_table_length item write h (suc turns) at n t =
    let p = onward_length n (write at) t (h at) in
    then_table_length (item at) (onward n (write at) t) _ (length t) p
    (λ e m. repeat_table_length item write h turns e (m + n) (onward n (write at) t) ∙ p)

-- what keeps the length of every table
abbrev pub Keeps : Filler → Type 0
Keeps w = (s : List ℕ) (at : ℕ) (t : List ℕ) → length (w s at t) ≡ length t

module _ (inner : Inner → Reader) (below : Inner → Filler) (keeps : (n : Inner) → Keeps (below n)) where
  pub fill_with_length : (g : G) → Keeps (fill_with inner below g)
  unfolding fill_with
  fill_with_length (leaf l) s at t = lay_length (leaf_at l s at) t
  fill_with_length literal s at t = lay_length (literal_at s at) t
  fill_with_length nothing s at t = refl
  fill_with_length (mark k a) s at t = over_length k a 0 1 t
  fill_with_length (seq g h) s at t =
      let p = fill_with_length g s at t in
      then_table_length (as_step (run inner g s at)) (fill_with inner below g s at t) _ (length t) p
      (λ e n. onward_length n (λ u. fill_with inner below h s e u) (fill_with inner below g s at t) (λ u. fill_with_length h s e u) ∙ p)
  fill_with_length (alt g h) s at t =
      let p = fill_with_length g s at t in
      else_table_length (as_step (run inner g s at)) (fill_with inner below g s at t) _ (length t) p
      (fill_with_length h s at (fill_with inner below g s at t) ∙ p)
  fill_with_length (star g) s at t =
      repeat_table_length (λ i. as_step (run inner g s i)) (λ i u. fill_with inner below g s i u)
      (λ i u. fill_with_length g s i u) (suc (length s)) at 0 t
  fill_with_length (does a g) s at t =
      act_table_length a at (run inner g s at) (λ u. fill_with inner below g s at u) t (λ u. fill_with_length g s at u)
  fill_with_length (entry g) s at t = fill_with_length g s at t
  fill_with_length (ref n) s at t = keeps n s at t

pub fill_levels_length : (d : ℕ) (n : Inner) → Keeps (fill_levels d n)
unfolding fill_levels
fill_levels_length zero n s at t = refl
fill_levels_length (suc d) n s at t = fill_with_length (levels d) (fill_levels d) (fill_levels_length d) (grammar n) s at t

-- THE LAW: at any number of levels
pub fill_length : (d : ℕ) (g : G) → Keeps (fill d g)
fill_length d g = fill_with_length (levels d) (fill_levels d) (fill_levels_length d) g
