-- The rest of a table, from some nodes on: parts of parts, and one writing after another.
use Prim.Native.Nat.{ℕ, zero, suc, ◌+◌, ◌-◌, ◌*◌, ◌/◌, ◌≤◌, ◌<◌}
use mathlib.Core.Path.{◌≡◌, refl, sym, ap, ◌∙◌}
use mathlib.Core.Bool.{Bool, true, false}
use mathlib.Core.List.{List, ◌++◌, append_assoc, append-nil}
use native.Mathlib.Omega.{arith}
use lib.ListN.{length, take, drop, length-drop, length-append, drop_of_length-le, take-append-drop}
use lib.Seq.{take_all, take_at, drop_at, take-add, drop-drop, length-take-le}
use lib.Dec.{leb}
use borrow.Author.Tests.{le-leb, lt-leb, leb-true, leb-false}
use borrow.Rule.Slice.PartMut.{put_mid}
use Rattle.grammar.specs.Out.{branch}
use Rattle.table.specs.Cursor.{Step, Took, More, Refused, Deep}
use Rattle.table.specs.Table.{skip_to, onward, then_table}
use Rattle.table.specs.Fill.{repeat_table}
use Rattle.table.proofs.Length.{onward_length}

skip_add : (len p n : ℕ) → skip_to len p + skip_to (len - skip_to len p) n ≡ skip_to len (n + p)
unfolding skip_to
skip_add len p n = first (leb p (len / 4)) refl
  where
    -- where the first part lies within the table
    second : (x : Bool) → p ≤ len / 4 → leb n ((len - 4 * p) / 4) ≡ x
        → 4 * p + branch x (λ u. 4 * n) (λ u. len - 4 * p) ≡ branch (leb (n + p) (len / 4)) (λ u. 4 * (n + p)) (λ u. len)
    second true l e = let m = leb-true n ((len - 4 * p) / 4) e in rw (le-leb (n + p) (len / 4) (omega arith)) (omega arith)
    second false l e = let m = leb-false n ((len - 4 * p) / 4) e in rw (lt-leb (n + p) (len / 4) (omega arith)) (omega arith)

    -- and where it does not, nothing is left
    none_left : (x : Bool) → len / 4 < p → leb n ((len - len) / 4) ≡ x
        → len + branch x (λ u. 4 * n) (λ u. len - len) ≡ branch (leb (n + p) (len / 4)) (λ u. 4 * (n + p)) (λ u. len)
    none_left true l e = let m = leb-true n ((len - len) / 4) e in rw (lt-leb (n + p) (len / 4) (omega arith)) (omega arith)
    none_left false l e = rw (lt-leb (n + p) (len / 4) (omega arith)) (omega arith)

    first : (x : Bool) → leb p (len / 4) ≡ x
        → branch x (λ u. 4 * p) (λ u. len) + branch (leb n ((len - branch x (λ u. 4 * p) (λ u. len)) / 4)) (λ u. 4 * n) (λ u. len - branch x (λ u. 4 * p) (λ u. len))
        ≡ branch (leb (n + p) (len / 4)) (λ u. 4 * (n + p)) (λ u. len)
    first true e = second (leb n ((len - 4 * p) / 4)) (leb-true p (len / 4) e) refl
    first false e = none_left (leb n ((len - len) / 4)) (leb-false p (len / 4) e) refl

pub skip_in : (len n : ℕ) → skip_to len n ≤ len
unfolding skip_to
skip_in len n = go (leb n (len / 4)) refl
  where
    go : (x : Bool) → leb n (len / 4) ≡ x → branch x (λ u. 4 * n) (λ u. len) ≤ len
    go true e = let m = leb-true n (len / 4) e in omega arith
    go false e = omega arith

pub onward_onward : (p n : ℕ) (F : List ℕ → List ℕ) (t : List ℕ) → onward p (λ u. onward n F u) t ≡ onward (n + p) F t
unfolding onward
onward_onward p n F t =
    let a = skip_to (length t) p in
    let b = skip_to (length t - a) n in
    rw (length-drop a t, ← skip_add (length t) p n, take-add a b t, drop-drop b a t)
    (sym (append_assoc (take a t) (take b (drop a t)) (F (drop (a + b) t))))

pub onward_compose : (p : ℕ) (A B : List ℕ → List ℕ) (t : List ℕ) → ((u : List ℕ) → length (B u) ≡ length u)
    → onward p (λ u. A (B u)) t ≡ onward p A (onward p B t)
unfolding onward
onward_compose p A B t keeps =
    let a = skip_to (length t) p in
    let l : length (take a t ++ B (drop a t)) ≡ length t = onward_length p B t keeps in
    let k : length (take a t) ≡ a = length-take-le a t (skip_in (length t) p) in
    rw (l, take_at (take a t) (B (drop a t)) a k, drop_at (take a t) (B (drop a t)) a k)

-- no nodes before it
pub onward_zero : (f : List ℕ → List ℕ) (t : List ℕ) → onward 0 f t ≡ f t
unfolding onward skip_to
onward_zero f t = rw (le-leb 0 (length t / 4) (omega arith))

-- nothing was written
pub onward_same : (n : ℕ) (t : List ℕ) → t ≡ onward n (λ u. u) t
unfolding onward
onward_same n t = sym (take-append-drop (skip_to (length t) n) t)

-- the same was written
pub onward_as : (n : ℕ) (f g : List ℕ → List ℕ) (t : List ℕ) → ((u : List ℕ) → f u ≡ g u) → onward n f t ≡ onward n g t
unfolding onward
onward_as n f g t h = ap (λ (v : List ℕ). take (skip_to (length t) n) t ++ v) (h (drop (skip_to (length t) n) t))

-- what writes nothing anywhere writes nothing there
pub onward_still : (n : ℕ) (write : List ℕ → List ℕ) → ((u : List ℕ) → write u ≡ u) → (t : List ℕ) → onward n write t ≡ t
onward_still n write still t = onward_as n write (λ u. u) t still ∙ sym (onward_same n t)

-- a parent's words over what was written behind them
pub onward_parent : (n : ℕ) (f g : List ℕ → List ℕ) (t : List ℕ) → ((u : List ℕ) → length (g u) ≡ length u)
    → onward n f (onward (1 + n) g t) ≡ onward n (λ u. f (onward 1 g u)) t
onward_parent n f g t keeps =
    ap (onward n f) (sym (onward_onward n 1 g t)) ∙ sym (onward_compose n f (λ u. onward 1 g u) t (λ u. onward_length 1 g u keeps))

-- a part that was lent comes back
pub lent_out : (t : List ℕ) (k : ℕ) → take (length t - k) (drop k t) ≡ drop k t
lent_out t k = take_all (length t - k) (drop k t) (simp length-drop (omega arith))

pub lent_back : (t v : List ℕ) (k : ℕ) → put_mid k (length t - k) t v ≡ take k t ++ v
lent_back t v k =
    let l : length (drop k t) ≤ length t - k = simp length-drop (omega arith) in
    rw (drop_of_length-le (drop k t) l, append-nil)

pub lent_length : (t v : List ℕ) (k : ℕ) → k ≤ length t → length v ≡ length (drop k t) → length (put_mid k (length t - k) t v) ≡ length t
lent_length t v k h e =
    ap length (lent_back t v k) ∙ length-append (take k t) v ∙ omega (arith, length-take-le k t h, length-drop k t)

-- the turns, from n nodes on or from n + p
module _ (item_at : ℕ → Step) (write : ℕ → List ℕ → List ℕ) (keeps : (i : ℕ) (u : List ℕ) → length (write i u) ≡ length u) where
  pub shift : (k e n p : ℕ) (t : List ℕ) → onward p (λ u. repeat_table k item_at write e n u) t ≡ repeat_table k item_at write e (n + p) t
  unfolding repeat_table
  shift zero e n p t = sym (onward_same p t)
  shift (suc k) e n p t = go (item_at e) (λ e' m u. shift k e' (m + n) p u)
    where
      go : (r : Step) → ((e' m : ℕ) (u : List ℕ) → onward p (λ v. repeat_table k item_at write e' (m + n) v) u ≡ repeat_table k item_at write e' (m + n + p) u)
          → onward p (λ u. then_table r (onward n (write e) u) (λ e' m. repeat_table k item_at write e' (m + n) (onward n (write e) u))) t
          ≡ then_table r (onward (n + p) (write e) t) (λ e' m. repeat_table k item_at write e' (m + (n + p)) (onward (n + p) (write e) t))
      go (Took e' m) h =
          onward_compose p (λ v. repeat_table k item_at write e' (m + n) v) (λ u. onward n (write e) u) t (λ u. onward_length n (write e) u (keeps e))
          ∙ h e' m (onward p (λ u. onward n (write e) u) t)
          ∙ ap (repeat_table k item_at write e' (m + n + p)) (onward_onward p n (write e) t)
          ∙ ap (λ (x : ℕ). repeat_table k item_at write e' x (onward (n + p) (write e) t)) (omega arith)
      go (More w) h = onward_onward p n (write e) t
      go Refused h = onward_onward p n (write e) t
      go Deep h = onward_onward p n (write e) t
