-- The stores of the table's functions.
use Rattle.std.proofs.Common.{ℕ, suc, ◌+◌, ◌-◌, ◌*◌, ◌/◌, ◌≤◌, ◌<◌, Ok}
use mathlib.Core.Path.{◌≡◌, refl, sym, ap, subst, ◌∙◌}
use mathlib.Core.List.{List, [], ◌∷◌, ◌++◌, append_assoc}
use native.Mathlib.Omega.{arith}
use lib.ListN.{length, take, drop, set, get_or, length-drop}
use lib.Seq.{set-get_or, get_or-drop, sets-eq, drop-drop}
use lib.Dec.{leb}
use borrow.Rule.Slice.PartMut.{put_mid, Post-is}
use borrow.Author.Tests.{le-leb, lt-leb}
use mathlib.Core.Bool.{Bool, true, false}
use Rattle.grammar.specs.Out.{branch}
use Rattle.table.specs.declared.Cursor.{Cursor}
use Rattle.table.specs.Cursor.{IResult, Took, step, Stops}
use Rattle.table.specs.Table.{skip_to, over, onward, rehead}
use Rattle.table.specs.Promise.{Put, Lends, Headed}
use Rattle.table.proofs.Cursors.{took_is}
use Rattle.table.proofs.Onward.{onward_same}

-- put ---------------------------------------------------------------------------------------------------------------------------

module _ (n : ℕ) (t : List ℕ) where
  -- where the n-th node has room
  there : 4 * n + 4 ≤ length t → skip_to (length t) n ≡ 4 * n
  unfolding skip_to
  there h = rw (le-leb n (length t / 4) (omega arith))

  -- and where it has none
  little : length t < 4 * n + 4 → length (drop (skip_to (length t) n) t) < 4
  unfolding skip_to
  little h = go (leb n (length t / 4)) refl
    where
      go : (x : Bool) → leb n (length t / 4) ≡ x → length (drop (branch x (λ u. 4 * n) (λ u. length t)) t) < 4
      go true e = omega (arith, length-drop (4 * n) t)
      go false e = omega (arith, length-drop (length t) t)

  module _ (kind a b size : ℕ) where
    abbrev four : List ℕ
    four = kind ∷ a ∷ b ∷ size ∷ []

    four_sets : 4 * n + 4 ≤ length t
        → set (set (set (set t (4 * n) kind) (4 * n + 1) a) (4 * n + 2) b) (4 * n + 3) size ≡ take (4 * n) t ++ (four ++ drop (4 * n + 4) t)
    four_sets h =
        let e₁ : 4 * n + 1 ≡ suc (4 * n) = omega arith in
        let e₂ : 4 * n + 2 ≡ suc (suc (4 * n)) = omega arith in
        let e₃ : 4 * n + 3 ≡ suc (suc (suc (4 * n))) = omega arith in
        rw (e₁, e₂, e₃) (sets-eq four t (4 * n) (omega arith)) ∙ append_assoc (take (4 * n) t) four (drop (4 * n + 4) t)

    put_four : 4 * n + 4 ≤ length t → Put n kind a b size t (take (4 * n) t ++ (four ++ drop (4 * n + 4) t))
    unfolding onward over
    put_four h =
        let l : 4 ≤ length (drop (4 * n) t) = omega (arith, length-drop (4 * n) t) in
        record { is = rw (there h, le-leb 4 (length (drop (4 * n) t)) l, drop-drop 4 (4 * n) t) refl }

    pub put_done : {node : List ℕ} → 4 * n + 4 ≤ length t → node ≡ four → Put n kind a b size t (put_mid (4 * n) (4 * n + 4 - 4 * n) t node)
    put_done h e = rw (e, Post-is (4 * n) (4 * n + 4) t (omega arith)) (put_four h)

    pub put_none : length t < 4 * n + 4 → Put n kind a b size t t
    unfolding onward over
    put_none h = record { is = onward_same n t ∙ rw (lt-leb 4 (length (drop (skip_to (length t) n) t)) (little h)) }

  -- three of the four
  module _ (a b size : ℕ) where
    pub head_put : 4 * n + 4 ≤ length t → set (set (set t (4 * n + 1) a) (4 * n + 2) b) (4 * n + 3) size ≡ onward n (λ u. rehead a b size u) t
    unfolding onward over rehead
    head_put h =
        let l : 4 ≤ length (drop (4 * n) t) = omega (arith, length-drop (4 * n) t) in
        let e : get_or (drop (4 * n) t) 0 0 ≡ get_or t (4 * n) 0 = get_or-drop (4 * n) t 0 0 ∙ ap (λ (k : ℕ). get_or t k 0) (omega arith) in
        ap (λ (u : List ℕ). set (set (set u (4 * n + 1) a) (4 * n + 2) b) (4 * n + 3) size) (sym (set-get_or t (4 * n) 0))
        ∙ (four_sets (get_or t (4 * n) 0) a b size h ∙ (put_four (get_or t (4 * n) 0) a b size h).is)
        ∙ rw (there h, le-leb 4 (length (drop (4 * n) t)) l, e)

    pub head_none : length t < 4 * n + 4 → t ≡ onward n (λ u. rehead a b size u) t
    unfolding onward rehead
    head_none h = onward_same n t ∙ rw (lt-leb 4 (length (drop (skip_to (length t) n) t)) (little h))

-- what follows it -----------------------------------------------------------------------------------------------------------------

pub lends_next : {len : ℕ} {c : Cursor} → 4 * c.nodes + 4 ≤ len → Lends len c (4 * c.nodes + 4)
unfolding skip_to
lends_next {len} {c} h = record { is = rw (le-leb (1 + c.nodes) (len / 4) (omega arith)) (omega arith); within = h }

pub lends_none : {len : ℕ} {c : Cursor} → len < 4 * c.nodes + 4 → Lends len c len
unfolding skip_to
lends_none {len} {c} h = record { is = rw (lt-leb (1 + c.nodes) (len / 4) (omega arith)); within = omega arith }

module _ (c : Cursor) {k : Cursor} {inner : IResult} (e : inner ≡ Ok k) where
  -- the numbers that `head` puts
  same_head : (end m : ℕ) (t : List ℕ) → step inner ≡ Took end (m + c.nodes)
      → onward c.nodes (λ u. rehead c.place k.place (k.nodes - c.nodes) u) t ≡ onward c.nodes (λ u. rehead c.place end m u) t
  same_head end m t p =
      let x = took_is e p in
      let f : k.nodes - c.nodes ≡ m = omega (arith, x.1) in
      ap (λ (j : ℕ). onward c.nodes (λ u. rehead c.place j (k.nodes - c.nodes) u) t) (sym x.0) ∙ ap (λ (j : ℕ). onward c.nodes (λ u. rehead c.place end j u) t) f

  pub head_done : {t : List ℕ} → 4 * c.nodes + 4 ≤ length t
      → Headed c inner (Ok k) t (set (set (set t (4 * c.nodes + 1) c.place) (4 * c.nodes + 2) k.place) (4 * c.nodes + 3) (k.nodes - c.nodes))
  head_done {t} h = record {
    read = sym e;
    stopped = λ s. absurd (subst Stops (ap step e) s);
    wrote = λ end m p. head_put c.nodes t c.place k.place (k.nodes - c.nodes) h ∙ same_head end m t p;
  }

  pub head_short : {t : List ℕ} → length t < 4 * c.nodes + 4 → Headed c inner (Ok k) t t
  head_short {t} h = record { read = sym e; stopped = λ s. refl; wrote = λ end m p. head_none c.nodes t c.place end m h }
