-- One number, or two with a colon between them; and a member of a set, which they are.
use Prim.Native.Char.{code}
use Rattle.std.proofs.Common.{rules, Option, Some, None, Result, Ok, Err, ℕ, ◌+◌, ◌/◌, ◌%◌, ◌≤◌, ◌<◌}
use mathlib.Core.Path.{◌≡◌, refl, sym, ap, subst, ◌∙◌}
use mathlib.Core.List.{List}
use native.Mathlib.Omega.{arith}
use native.Mathlib.Numerals.{add-one}
use lib.Dec.{T}
use lib.ListN.{length, get_or}
use Rattle.std.specs.Option.{unwrap_or}
use borrow.Author.Tests.{ne_eqb}
use Rattle.grammar.specs.Kinds.{kind_number, kind_range}
use Rattle.grammar.specs.Text.{ascii}
use Rattle.grammar.specs.Forest.{Forest, none, node_of, beside}
use Rattle.grammar.specs.Out.{Out, took, more, refused, deep, followed_by}
use Rattle.grammar.specs.Scan.{tag, digits, leaf_at, leaf_move, first_state, leaf_fits, leaf_nodes, two_32, largest_32}
use Rattle.grammar.specs.Grammar.{G, Act, alt, does, range, act, run}
use Rattle.grammar.specs.Notation.{exact}
use Rattle.grammar.specs.Core.{number, number_pair}
use Rattle.grammar.specs.Reading.{length_limit}
use Rattle.grammar.proofs.Closed.{every}
use Rattle.grammar.proofs.On.{at_took}
use Rattle.grammar.proofs.Scans.{scan_step}
use Rattle.grammar.proofs.Size.{pays, cost_of, grammar_paid}
use Rattle.table.specs.declared.Cursor.{Cursor}
use Rattle.table.specs.declared.Failure.{Failure}
use Rattle.table.specs.declared.Failure.TheVariants as failure
use Rattle.table.specs.Cursor.{IResult, find}
use Rattle.table.specs.Table.{lay}
use Rattle.table.specs.Fill.{fill_with, act_table}
use Rattle.table.specs.Promise.{Stands, Room, Goes, Leafed}
use Rattle.table.proofs.Going.{Still, Lays, wants, refuses, deepens, leaves}
use Rattle.table.proofs.Cursors.{went_on, came_back, handed_back}
use Rattle.table.proofs.Bounds.{room}
use Rattle.table.proofs.Opens.{opens, ruled_out}
use Rattle.table.proofs.Search.{reads}
use Rattle.parser_core.specs.Scanned.{Counts}
use Rattle.lists.specs.Ranges.{numbers, numbers_of, Ranges}
use Rattle.parser_core.proofs.Numbers.{numbered, uncounted}

abbrev pub numeral : List ℕ → ℕ → Out
numeral s at = leaf_at (digits largest_32) s at

abbrev pub a_number : ℕ → Forest
a_number v = numbers v None

abbrev pub two_numbers : ℕ → ℕ → Forest
two_numbers v w = numbers v (Some w)

-- as the definition finds them ---------------------------------------------------------------------------------------------------

module _ (s : List ℕ) (at : ℕ) where
  colon_found : at < length s → get_or s at 0 ≡ code ":" → find 0 (exact ":") s at ≡ took (at + 1) none
  unfolding run leaf_at leaf_move first_state leaf_fits leaf_nodes
  colon_found l p = rw (scan_step (leaf_move (tag (ascii ":"))) s 0 0 at l, p, add-one)

  colon_none : at < length s → (get_or s at 0 ≡ code ":" → ⊥) → find 0 (exact ":") s at ≡ refused
  unfolding opens
  colon_none l n = (ruled_out {d = 0} (exact ":") {s = s} {at = at} l (rw (ne_eqb (get_or s at 0) (code ":") n))).read

  pair_more : numeral s at ≡ more 0 → find 0 (alt number_pair number) s at ≡ more 0
  unfolding run number number_pair
  pair_more p = rw p

  pair_refused : numeral s at ≡ refused → find 0 (alt number_pair number) s at ≡ refused
  unfolding run number number_pair
  pair_refused p = rw p

  module _ {e v : ℕ} (p : numeral s at ≡ took e (a_number v)) where
    pair_one : find 0 (exact ":") s e ≡ refused → find 0 (alt number_pair number) s at ≡ took e (a_number v)
    unfolding run number number_pair
    pair_one q = rw (p, q)

    module _ (q : find 0 (exact ":") s e ≡ took (e + 1) none) where
      pair_two : {e' w : ℕ} → numeral s (e + 1) ≡ took e' (a_number w) → find 0 (alt number_pair number) s at ≡ took e' (two_numbers v w)
      unfolding run number number_pair beside
      pair_two r = rw (p, q, r)

      pair_short : numeral s (e + 1) ≡ more 0 → find 0 (alt number_pair number) s at ≡ more 0
      unfolding run number number_pair
      pair_short r = rw (p, q, r)

      pair_alone : numeral s (e + 1) ≡ refused → find 0 (alt number_pair number) s at ≡ took e (a_number v)
      unfolding run number number_pair
      pair_alone r = rw (p, q, r)

-- so of their scan ---------------------------------------------------------------------------------------------------------------

-- as its leaf finds it
number_found : {s : List ℕ} {at e v : ℕ} {d : Result (ℕ × ℕ) Failure} → Room s at → Counts largest_32 s at d → d ≡ Ok (e, v) → numeral s at ≡ took e (a_number v)
number_found {e = e} {v = v} here did p =
    let x = numbered here did p in
    let l = x.fits in
    let low : v % two_32 ≡ v = omega arith in
    let high : v / two_32 ≡ 0 = omega arith in
    x.took ∙ ap (λ (k : ℕ). took e (node_of kind_number k (v / two_32))) low ∙ ap (λ (k : ℕ). took e (node_of kind_number v k)) high

module _ {s : List ℕ} {at : ℕ} (here : Room s at) {d : Result (ℕ × ℕ) Failure} (did : Counts largest_32 s at d) where
  -- no number
  pub range_stops : {q : Result (ℕ × ℕ × Option ℕ) Failure} {f : Failure} → d ≡ Err f → q ≡ Err f → Ranges s at q
  range_stops e back =
      uncounted here did e
      (λ p w. subst (Ranges s at) (sym (back ∙ ap Err w)) (record { is = pair_more s at p }))
      (λ p w. subst (Ranges s at) (sym (back ∙ ap Err w)) (record { is = pair_refused s at p }))

  module _ {next v : ℕ} (p : d ≡ Ok (next, v)) where
    -- a number ends within the limit, and a byte stands there
    pub number_inside : next < length s
    number_inside = (numbered here did p).past.high

    pub number_few : next ≤ length_limit
    number_few = let k = number_inside in omega (arith, here.small)

    pub second_room : Room s (next + 1)
    second_room = record { inside = let k = number_inside in omega arith; small = here.small }

    first_found : numeral s at ≡ took next (a_number v)
    first_found = number_found here did p

    -- one number
    pub range_one : (get_or s next 0 ≡ code ":" → ⊥) → Ranges s at (Ok (next, v, None))
    range_one n = record { is = pair_one s at first_found (colon_none s next number_inside n) }

    module _ (colon : get_or s next 0 ≡ code ":") {e : Result (ℕ × ℕ) Failure} (did' : Counts largest_32 s (next + 1) e) where
      colon_here : find 0 (exact ":") s next ≡ took (next + 1) none
      colon_here = colon_found s next number_inside colon

      -- the second is none: the first stands alone, before the colon
      pub range_alone : {f : Failure} → e ≡ Err f → f ≡ failure.Refused → Ranges s at (Ok (next, v, None))
      range_alone r absent =
          uncounted second_room did' r
          (λ u w. absurd (let y : ◌≡◌ {A = Failure} (failure.Unfinished 0) failure.Refused = sym w ∙ absent in cc))
          (λ u w. record { is = pair_alone s at first_found colon_here u })

      -- or it is unfinished
      pub range_short : {f : Failure} → e ≡ Err f → (f ≡ failure.Refused → ⊥) → Ranges s at (Err f)
      range_short r other =
          uncounted second_room did' r
          (λ u w. subst (λ (k : Failure). Ranges s at (Err k)) (sym w) (record { is = pair_short s at first_found colon_here u }))
          (λ u w. absurd (other w))

      -- two numbers
      pub range_two : {end v' : ℕ} → e ≡ Ok (end, v') → Ranges s at (Ok (end, v, Some v'))
      range_two r = record { is = pair_two s at first_found colon_here (number_found second_room did' r) }

-- what `search` is to know of `number_range`
pub ruleset scanned = (number_inside, number_few, second_room, range_stops, range_one, range_alone, range_short, range_two, went_on, came_back, handed_back, rules)

-- what becomes of them -----------------------------------------------------------------------------------------------------------

-- an act that makes one node, put once, of what was read without the table
pub record Flat (a : Act) : Type 0 where
  pub lays : (at : ℕ) (o : Out) (below : List ℕ → List ℕ) (t : List ℕ) → act_table a at o below t ≡ lay (followed_by o (λ end f. took end (act a at end f))) t

-- .. this node
pub record Makes (a : Act) (first : ℕ) (last : Option ℕ) (kind x y : ℕ) : Type 0 where
  pub makes : (at end : ℕ) → act a at end (numbers first last) ≡ node_of kind x y

abbrev pub member : Act → G
member a = does a (alt number_pair number)

module _ {a : Act} (flat : Flat a) {s : List ℕ} {at : ℕ} where
  member_more : {w : ℕ} → find 0 (alt number_pair number) s at ≡ more w → Still 0 (member a) s at (more w)
  unfolding run fill_with
  member_more p = record { read = rw p; wrote = λ t. flat.lays at _ _ t ∙ rw p }

  member_refused : find 0 (alt number_pair number) s at ≡ refused → Still 0 (member a) s at refused
  unfolding run fill_with
  member_refused p = record { read = rw p; wrote = λ t. flat.lays at _ _ t ∙ rw p }

  member_deep : find 0 (alt number_pair number) s at ≡ deep → Still 0 (member a) s at deep
  unfolding run fill_with
  member_deep p = record { read = rw p; wrote = λ t. flat.lays at _ _ t ∙ rw p }

  member_lays : {e kind x y : ℕ} {f : Forest} → find 0 (alt number_pair number) s at ≡ took e f → act a at e f ≡ node_of kind x y
      → Lays 0 (member a) s at e kind x y
  unfolding run fill_with
  member_lays p m = record { read = rw (p, m); wrote = λ t. flat.lays at _ _ t ∙ rw (p, m) }

-- they take a byte
pairs_pay : T (every pays (alt number_pair number))
unfolding every cost_of number number_pair
pairs_pay = tt

pairs_take : (cost_of (alt number_pair number)).fewest ≡ 1
unfolding cost_of number number_pair
pairs_take = refl

module _ {a : Act} (flat : Flat a) {s : List ℕ} {c : IResult} {at : Cursor} (going : c ≡ Ok at) (stands : Stands 0 s c)
    {d : Result (ℕ × ℕ × Option ℕ) Failure} (did : Ranges s at.place d) where
  -- none
  pub member_stops : {q : IResult} {f : Failure} {t : List ℕ} → d ≡ Err f → q ≡ Err f → Goes 0 (member a) s c q t t
  member_stops {q} {f} {t} e back = subst (λ (k : IResult). Goes 0 (member a) s c k t t) (sym back) (by f (did.is ∙ ap numbers_of e))
    where
      by : (f : Failure) → find 0 (alt number_pair number) s at.place ≡ numbers_of (Err f) → Goes 0 (member a) s c (Err f) t t
      by (failure.Unfinished w) p = wants going stands w (member_more flat p)
      by failure.Refused p = refuses going stands (member_refused flat p)
      by failure.TooDeep p = deepens going stands (member_deep flat p)

  -- one number, or two
  pub member_done : {next v kind x y : ℕ} {last : Option ℕ} {q : Cursor} {t t' : List ℕ} → d ≡ Ok (next, v, last) → Makes a v last kind x y
      → Leafed kind x y next at q t t' → Goes 0 (member a) s c (Ok q) t t'
  member_done {next} e m z =
      let p = did.is ∙ ap numbers_of e in
      let k = at_took (grammar_paid 0 (alt number_pair number) pairs_pay s at.place (room going stands).inside) p in
      let l = pairs_take in
      leaves going stands (member_lays flat p (m.makes at.place next)) (omega (arith, l, k.holds.bytes)) k.inside z

-- a sequence set's: as written ---------------------------------------------------------------------------------------------------

pub range_flat : Flat range
unfolding act_table
range_flat = record { lays = λ at o below t. refl }

pub range_made : {v x : ℕ} {last : Option ℕ} → x ≡ unwrap_or last v → Makes range v last kind_range v x
unfolding act
range_made {last = None} e = record { makes = λ at end. rw e refl }
range_made {last = Some w} e = record { makes = λ at end. rw e refl }

-- what `search` is to know of any member, and of one of a sequence set
pub ruleset members = (member_stops, member_done, reads)

pub ruleset ranges = (range_flat, range_made, members)
