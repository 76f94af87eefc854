-- Where an astring's content lies, by its first byte; and what its check makes of the astring's reading.
use Prim.Native.Char.{code}
use Rattle.std.proofs.Common.{Result, Ok, Err, IsOk, ℕ, zero, suc, ◌+◌, ◌-◌, ◌/◌, ◌%◌, ◌≤◌, ◌<◌}
use mathlib.Core.Path.{◌≡◌, refl, sym, ap, subst, ◌∙◌}
use mathlib.Core.Bool.{Bool, true, false}
use mathlib.Core.List.{List, [], ◌∷◌}
use native.Mathlib.Omega.{arith}
use lib.Dec.{leb}
use lib.ListN.{length, take, drop, get_or}
use lib.Seq.{take-take}
use Rattle.std.proofs.Common.{rules}
use borrow.Author.Tests.{ne_eqb, leb-true, leb-false}
use Rattle.grammar.specs.Kinds.{kind_bytes}
use Rattle.grammar.specs.Forest.{Forest, none, tree, node_of}
use Rattle.grammar.specs.Out.{Out, took, more, refused, deep, branch, followed_by, or_else}
use Rattle.grammar.specs.Scan.{take_while1, astring_chars, in_class, quotes, first_state, leaf_at, leaf_nodes, literal_at}
use Rattle.grammar.specs.EntryName.{check_entry_name}
use Rattle.grammar.specs.Grammar.{G, leaf, literal, does, node, act, named, run}
use Rattle.grammar.specs.Core.{quoted, string, astring}
use Rattle.grammar.specs.Rfc5464.{entry_name}
use Rattle.grammar.specs.Rules.{levels}
use Rattle.grammar.proofs.On.{at_took}
use Rattle.grammar.proofs.Stays.{run_stays, levels_stay}
use Rattle.table.specs.declared.Cursor.{Cursor}
use Rattle.table.specs.declared.Failure.{Failure}
use Rattle.table.specs.declared.Failure.TheVariants as failure
use Rattle.table.specs.Cursor.{IResult, step, behind, place_of, Stops, find}
use Rattle.table.specs.Fill.{fill, fill_with}
use Rattle.table.specs.Promise.{Room, Stands, Went, Goes}
use Rattle.table.proofs.Cursors.{step_failed, went_on, came_back, handed_back}
use Rattle.table.proofs.Opens.{opens, hungry, ruled_out, cut_off}
use Rattle.table.proofs.Going.{from, stands_stopped}
use Rattle.table.proofs.Bounds.{room}
use Rattle.parser_core.specs.Scanned.{end_of, Ends, Headers}
use Rattle.parser_core.proofs.Leaves.{leaf_cases}
use Rattle.parser_core.proofs.Quoting.{quotes_took, quotes_low}
use Rattle.parser_core.proofs.Headers.{content_there, content_missing, header_fails}
use Rattle.parser_core.proofs.Dispatch.{opened}
use Rattle.rfc5464.specs.Content.{Spelled, Checked}

-- alternatives -----------------------------------------------------------------------------------------------------------------

first_of : {e : ℕ} {f : Forest} (o other : Out) → or_else o (λ u. other) ≡ took e f → other ≡ refused → o ≡ took e f
first_of (took a g) other p q = p
first_of (more w) other p q = p
first_of refused other p q = sym q ∙ p
first_of deep other p q = p

second_of : {e : ℕ} {f : Forest} (o other : Out) → or_else o (λ u. other) ≡ took e f → o ≡ refused → other ≡ took e f
second_of o other p q = sym (ap (λ (x : Out). or_else x (λ u. other)) q) ∙ p

no_more : {A : Type 0} {w e : ℕ} {f : Forest} {o : Out} → o ≡ took e f → o ≡ more w → A
no_more p q = let z : ◌≡◌ {A = ℕ} 0 1 = cc in absurd (omega arith)

no_refused : {A : Type 0} {e : ℕ} {f : Forest} {o : Out} → o ≡ took e f → o ≡ refused → A
no_refused p q = let z : ◌≡◌ {A = ℕ} 0 1 = cc in absurd (omega arith)

same_end : {e e' : ℕ} {f f' : Forest} {o : Out} → o ≡ took e f → o ≡ took e' f' → e ≡ e'
same_end p q = cc

-- the content ------------------------------------------------------------------------------------------------------------------

-- all that is found is its node
pub record Content (s : List ℕ) (at next start end : ℕ) : Type 0 where
  pub low : start ≤ end
  pub high : end ≤ next
  pub is : find 0 astring s at ≡ took next (node_of kind_bytes start end)

abbrev atom : G
atom = does (node kind_bytes) (leaf (take_while1 astring_chars))

module _ {s : List ℕ} {at next : ℕ} (here : Room s at) (read : Spelled s at next) where
  pub spelled_here : at < length s
  unfolding hungry astring
  spelled_here = go (leb (length s) at) refl
    where
      go : (b : Bool) → leb (length s) at ≡ b → at < length s
      go true q = no_more read.is (cut_off tt (leb-true (length s) at q)).read
      go false q = leb-false (length s) at q

  pub spelled_on : at ≤ next
  spelled_on = (at_took (run_stays (levels 0) (levels_stay 0) astring s at here.inside) read.is).0

  pub spelled_inside : next ≤ length s
  spelled_inside = (at_took (run_stays (levels 0) (levels_stay 0) astring s at here.inside) read.is).1

  -- behind its opening quote
  pub content_quoted : get_or s at 0 ≡ code "\"" → Content s at next (at + 1) (next - 1)
  unfolding run astring string quoted opens first_state in_class
  content_quoted p =
      let l = spelled_here in
      let a : leaf_at quotes s at ≡ took next read.node =
      first_of _ _ (second_of _ _ read.is (ruled_out {d = 0} atom l (rw p)).read) (ruled_out {d = 0} literal l (rw p)).read in
      let ends : Ends quotes s at (Ok next) = record { is = sym (ap end_of a) } in
      record {
        low = omega (arith, quotes_low (opened l p) ends refl);
        high = omega arith;
        is = read.is ∙ sym a ∙ quotes_took (opened l p) ends refl;
      }

  pub quoted_low : get_or s at 0 ≡ code "\"" → at + 1 ≤ next - 1
  quoted_low p = (content_quoted p).low

  pub quoted_some : get_or s at 0 ≡ code "\"" → 1 ≤ next
  quoted_some p = omega (arith, quoted_low p)

  pub quoted_high : next - 1 ≤ length s
  quoted_high = omega (arith, spelled_inside)

  -- behind its header, which is one
  module _ (p : get_or s at 0 ≡ code "{") {h : Result (ℕ × ℕ) Failure} (headers : Headers 0 0 s at h) where
    found_literal : literal_at s at ≡ took next read.node
    unfolding run astring string quoted opens first_state in_class
    found_literal =
        let l = spelled_here in
        second_of _ _ (second_of _ _ read.is (ruled_out {d = 0} atom l (rw p)).read) (ruled_out {d = 0} quoted l (rw p)).read

    pub header_ok : IsOk h
    header_ok = go h refl
      where
        go : (x : Result (ℕ × ℕ) Failure) → h ≡ x → IsOk x
        go (Ok q) e = refl
        go (Err f) e = header_fails here headers e (λ w z. no_more found_literal w) (λ w z. no_refused found_literal w)

    pub content_literal : {p : ℕ × ℕ} → h ≡ Ok p → Content s at next p.0 next
    content_literal {p} q =
        let there : p.0 + p.1 ≤ length s = whole (leb (p.0 + p.1) (length s)) refl in
        let e = content_there here headers q there in
        let z : next ≡ p.0 + p.1 = same_end found_literal e in
        record {
          low = omega arith;
          high = omega arith;
          is = read.is ∙ sym found_literal ∙ e ∙ ap (λ (k : ℕ). took k (node_of kind_bytes p.0 k)) (sym z);
        }
      where
        whole : (b : Bool) → leb (p.0 + p.1) (length s) ≡ b → p.0 + p.1 ≤ length s
        whole true w = leb-true (p.0 + p.1) (length s) w
        whole false w = no_more found_literal (content_missing here headers q (leb-false (p.0 + p.1) (length s) w))

    pub literal_low : {p : ℕ × ℕ} → h ≡ Ok p → p.0 ≤ next
    literal_low q = (content_literal q).low

  -- all of it
  pub content_atom : (get_or s at 0 ≡ code "\"" → ⊥) → (get_or s at 0 ≡ code "{" → ⊥) → Content s at next at next
  unfolding run act astring string quoted opens leaf_nodes
  content_atom n m =
      let a : find 0 atom s at ≡ took next read.node =
      first_of _ _ read.is (ruled_out {d = 0} string spelled_here (rw (ne_eqb (get_or s at 0) (code "\"") n, ne_eqb (get_or s at 0) (code "{") m))).read in
      leaf_cases (take_while1 astring_chars) s at
      (λ e v p.
      let w : find 0 atom s at ≡ took e (node_of kind_bytes at e) = ap made p in
      let z : next ≡ e = same_end a w in
      record {
        low = spelled_on;
        high = omega arith;
        is = read.is ∙ sym a ∙ w ∙ ap (λ (k : ℕ). took k (node_of kind_bytes at k)) (sym z);
      })
      (λ p. no_more a (ap made p))
      (λ p. no_refused a (ap made p))
    where
      made : Out → Out
      made o = followed_by o (λ e f. took e (tree kind_bytes at e f none))

-- the bytes of a range are the same in what was read
part_of : (k a e : ℕ) (s : List ℕ) → a + k ≤ e → take k (drop a (take e s)) ≡ take k (drop a s)
part_of k zero e s h = take-take k e s (omega arith)
part_of k (suc a) zero s h = absurd (omega arith)
part_of k (suc a) (suc e) [] h = refl
part_of k (suc a) (suc e) (x ∷ s) h = part_of k a e s (omega arith)

-- so the bytes that are checked are those that the definition names
pub content_checked : {s : List ℕ} {at next start end : ℕ} {x : Bool} → Content s at next start end → x ≡ check_entry_name (take (end - start) (drop start s)) → Checked s at next x
content_checked {s} {at} {next} {start} {end} {x} content q = record { is = λ f p. go f (sym p ∙ content.is) }
  where
    same : (f g : Forest) → took next f ≡ took next g → g ≡ f
    same f g w = cc

    go : (f : Forest) → took next f ≡ took next (node_of kind_bytes start end) → x ≡ check_entry_name (named f (take next s))
    go f w =
        q
        ∙ ap check_entry_name (sym (part_of (end - start) start next s (omega (arith, content.low, content.high))))
        ∙ ap (λ (g : Forest). check_entry_name (named g (take next s))) (same f (node_of kind_bytes start end) w)

-- the reader -------------------------------------------------------------------------------------------------------------------

module _ {s : List ℕ} {c r : IResult} {at : Cursor} {t t' : List ℕ} (going : c ≡ Ok at) (stands : Stands 0 s c) (x : Goes 0 astring s (Ok at) r t t') where
  here_x : Went at.nodes (find 0 astring s at.place) (λ u. fill 0 astring s at.place u) r t t'
  here_x = x.went at.place at.nodes refl

  -- no astring
  pub entry_stops : {q : IResult} {f : Failure} → r ≡ Err f → q ≡ Err f → Goes 0 entry_name s c q t t'
  unfolding run fill_with entry_name
  entry_stops {q} {f} h back =
      from going stands (subst (λ (k : IResult). Went at.nodes (find 0 entry_name s at.place) (λ u. fill 0 entry_name s at.place u) k t t') (h ∙ sym back) (go (find 0 astring s at.place) here_x))
      (subst (λ (k : IResult). Stands 0 s k) (h ∙ sym back) x.stands)
    where
      go : (o : Out) → Went at.nodes o (λ u. fill 0 astring s at.place u) r t t'
          → Went at.nodes (followed_by o (λ e f. branch (check_entry_name (named f (take e s))) (λ u. took e f) (λ u. refused))) (λ u. fill 0 astring s at.place u) r t t'
      go (took e g) w = absurd (subst Stops w.read (step_failed h))
      go (more k) w = w
      go refused w = w
      go deep w = w

  pub entry_room : Room s at.place
  entry_room = room going stands

  module _ {next : Cursor} (on : r ≡ Ok next) where
    pub entry_spelled : Spelled s at.place next.place
    entry_spelled = go (find 0 astring s at.place) refl (ap step (sym on) ∙ here_x.read)
      where
        go : (o : Out) → find 0 astring s at.place ≡ o → step (Ok next) ≡ behind at.nodes o → Spelled s at.place next.place
        go (took e f) q p = record { node = f; is = q ∙ ap (λ (k : ℕ). took k f) (sym (ap place_of p)) }
        go (more k) q p = absurd (subst Stops (sym p) tt)
        go refused q p = absurd (subst Stops (sym p) tt)
        go deep q p = absurd (subst Stops (sym p) tt)

    module _ {b : Bool} (checked : Checked s at.place next.place b) where
      decided : {b' : Bool} → b ≡ b' → find 0 entry_name s at.place ≡ branch b' (λ u. took next.place entry_spelled.node) (λ u. refused)
      unfolding run entry_name
      decided q = rw (entry_spelled.is, ← checked.is entry_spelled.node entry_spelled.is, q)

      pub entry_taken : b ≡ true → Goes 0 entry_name s c (Ok next) t t'
      unfolding fill_with entry_name
      entry_taken q =
          from going stands (record { read = ap step (sym on) ∙ here_x.read ∙ ap (behind at.nodes) (entry_spelled.is ∙ sym (decided q)); wrote = here_x.wrote })
          (subst (λ (k : IResult). Stands 0 s k) on x.stands)

      pub entry_refused : b ≡ false → Goes 0 entry_name s c (Err failure.Refused) t t'
      unfolding fill_with entry_name
      entry_refused q =
          from going stands (record { read = ap (behind at.nodes) (sym (decided q)); wrote = here_x.wrote })
          (stands_stopped s (Err failure.Refused) stands.small tt)

-- what `search` is to know
pub ruleset contents = (spelled_here, spelled_on, spelled_inside, quoted_low, quoted_some, quoted_high, header_ok, literal_low, content_quoted, content_literal, content_atom, content_checked, rules)

pub ruleset entries = (entry_stops, entry_room, entry_spelled, entry_taken, entry_refused, went_on, came_back, handed_back, rules)
