-- The laws that `search` is to know at a reader's needs.
use Rattle.std.proofs.Common.{◌≡◌, Ok, Err, ℕ, ◌≤◌, ◌<◌}
use mathlib.Core.List.{List, []}
use lib.Dec.{T}
use lib.ListN.{length}
use Rattle.std.proofs.Common.{rules}
use Rattle.table.proofs.Cursors.{went_on, came_back, handed_back}
use Rattle.grammar.specs.Grammar.{G, seq}
use Rattle.table.specs.Promise.{Stands, Goes, Skims}
use Rattle.table.specs.declared.Cursor.{Cursor}
use Rattle.table.specs.declared.Failure.{Failure}
use Rattle.table.specs.declared.Failure.TheVariants as failure
use Rattle.table.specs.Cursor.{IResult}
use Rattle.table.proofs.Opens.{hungry, cut_off}
use Rattle.table.proofs.Going.{failed, failed_skims, ◌▸▸◌, and, and_skims, early, early_skims, or_first, or_next, short_of, skims_short, skims_first, skims_none}
use Rattle.table.proofs.Bounds.{room, ready, fits, start_stands, spares_none, leaves_of, hands_on, computed_paid}
use Rattle.table.proofs.Depth.{plain, at_depth}
use Rattle.table.proofs.Structure.{node_done, bare_done}
use Rattle.table.proofs.Listable.{listed_item}
use Rattle.table.proofs.Passed.{listed, followed, held, optional, by_clauses}
use Rattle.table.proofs.Lists.{list_begins, turns_more, list_less, list_stops, list_over}

-- a straight line, from its last link backwards: each link's cursor and table show the one before
pub after : {d : ℕ} {g h : G} {s : List ℕ} {c q r : IResult} {t t₁ t₂ : List ℕ} → Goes d h s q r t₁ t₂ → Goes d g s c q t t₁ → Goes d (seq g h) s c r t t₂
after y x = and x y

pub after_skims : {g h : G} {s : List ℕ} {c q r : IResult} {t t₁ : List ℕ} → Skims h s q r → Goes 0 g s c q t t₁ → Goes 0 (seq g h) s c r t t₁
after_skims y x = and_skims x y

-- where the last two links are one function
pub after_pair : {d : ℕ} {g h k : G} {s : List ℕ} {c q r : IResult} {t t₁ t₂ : List ℕ} → Goes d (seq h k) s q r t₁ t₂ → Goes d g s c q t t₁ → Goes d (seq (seq g h) k) s c r t t₂
after_pair y x = x ▸▸ y

pub first_skims : {g : G} {s : List ℕ} {c q : IResult} {t : List ℕ} → Skims g s c q → Goes 0 g s c q t t
first_skims x = x.on _

-- the buffer ends where g must have a byte
pub cut_short : {d : ℕ} {g : G} {s : List ℕ} {c : IResult} {at : Cursor} {t : List ℕ} → T (hungry g) → c ≡ Ok at → Stands 0 s c → length s ≤ at.place
    → Goes d g s c (Err (failure.Unfinished 0)) t t
cut_short m going stands l = short_of going stands (cut_off m l)

pub cut_skims : {g : G} {s : List ℕ} {c : IResult} {at : Cursor} → T (hungry g) → c ≡ Ok at → Stands 0 s c → length s ≤ at.place → Skims g s c (Err (failure.Unfinished 0))
cut_skims m going stands l = skims_short going stands (cut_off m l)

pub ruleset line = (after, after_skims, after_pair, first_skims, early, early_skims, went_on, came_back, handed_back, rules)

-- .. with levels, where links that go no level deeper stand between those that do
module _ {d : ℕ} {g h : G} {s : List ℕ} {c q r : IResult} {t t₁ t₂ : List ℕ} where
  pub after_plain : T (plain h) → Goes 0 h s q r t₁ t₂ → Goes d g s c q t t₁ → Goes d (seq g h) s c r t t₂
  after_plain m y x = and x (at_depth d m y)

  pub after_plain_pair : {k : G} → T (plain (seq h k)) → Goes 0 (seq h k) s q r t₁ t₂ → Goes d g s c q t t₁ → Goes d (seq (seq g h) k) s c r t t₂
  after_plain_pair m y x = x ▸▸ at_depth d m y

pub after_plain_skims : {d : ℕ} {g h : G} {s : List ℕ} {c q r : IResult} {t t₁ : List ℕ} → T (plain h) → Skims h s q r → Goes d g s c q t t₁ → Goes d (seq g h) s c r t t₁
after_plain_skims {d} {t₁ = t₁} m y x = and x (at_depth d m (y.on t₁))

pub first_plain : {d : ℕ} {g : G} {s : List ℕ} {c q : IResult} {t t' : List ℕ} → T (plain g) → Goes 0 g s c q t t' → Goes d g s c q t t'
first_plain {d} m x = at_depth d m x

pub first_plain_skims : {d : ℕ} {g : G} {s : List ℕ} {c q : IResult} {t : List ℕ} → T (plain g) → Skims g s c q → Goes d g s c q t t
first_plain_skims {d} {t = t} m x = at_depth d m (x.on t)

pub early_plain_skims : {d : ℕ} {g h : G} {s : List ℕ} {c q : IResult} {f : Failure} {t : List ℕ} → T (plain g) → Skims g s c q → q ≡ Err f → Goes d (seq g h) s c (Err f) t t
early_plain_skims {d} {t = t} m x fails = early (at_depth d m (x.on t)) fails

pub ruleset levels_line = (after, after_pair, after_plain, after_plain_pair, after_plain_skims, first_plain, first_plain_skims, early, early_plain_skims, failed, went_on, came_back, handed_back, rules)

-- room for marks behind what was read
pub spare_after : {spare d : ℕ} {g : G} {s : List ℕ} {c q : IResult} {t t' : List ℕ} → Goes d g s c q t t' → Stands 0 s c → T (leaves_of 0 spare g) → Stands spare s q
spare_after {spare} x stands m = hands_on 0 spare m stands x

pub spare_skims : {spare : ℕ} {g : G} {s : List ℕ} {c q : IResult} → Skims g s c q → Stands 0 s c → T (leaves_of 0 spare g) → Stands spare s q
spare_skims {spare} x stands m = hands_on 0 spare m stands (x.on [])

pub ruleset spare = (spare_after, spare_skims, went_on, came_back, handed_back, rules)

-- of a reader that tests its cursor first
pub ruleset reads = (failed, failed_skims, cut_short, cut_skims, room, start_stands, ready, fits, went_on, came_back, handed_back, rules)

-- of alternatives that are tried, the last with a mark for what is not there
pub ruleset either = (failed, or_first, or_next, skims_first, skims_none, spares_none, went_on, came_back, handed_back, rules)

-- .. with levels
pub ruleset levels_either = (failed, or_first, or_next, first_plain, spares_none, went_on, came_back, handed_back, rules)

-- of a structure
pub ruleset structure = (failed, start_stands, ready, fits, node_done, bare_done, computed_paid, went_on, came_back, handed_back, rules)

-- of a list
pub ruleset list = (failed, start_stands, ready, fits, list_begins, turns_more, list_less, list_stops, list_over, listed_item, went_on, came_back, handed_back, rules)

-- of readers that were passed
pub ruleset passed = (listed, followed, held, optional, by_clauses, listed_item, computed_paid, rules)
