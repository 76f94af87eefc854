-- Lines of links where `?` stands behind the first: it ends the reading, or the others go on from its cursor.
use Rattle.std.proofs.Common.{Ok, Err, ℕ}
use mathlib.Core.Path.{◌≡◌, refl, sym, subst}
use mathlib.Core.List.{List}
use lib.Dec.{T}
use Rattle.grammar.specs.Grammar.{G, leaf, literal, nothing, mark, seq, alt, star, does, entry, ref}
use Rattle.table.specs.declared.Cursor.{Cursor}
use Rattle.table.specs.declared.Failure.{Failure}
use Rattle.table.specs.Cursor.{IResult}
use Rattle.table.specs.Promise.{Stands, Goes, Skims}
use Rattle.table.proofs.Going.{and, early}
use Rattle.table.proofs.Depth.{plain, at_depth}
use Rattle.table.proofs.Search.{line, levels_line}

-- the first link of a line
unfoldable pub first_link : G → G
first_link (leaf l) = leaf l
first_link literal = literal
first_link nothing = nothing
first_link (mark kind a) = mark kind a
first_link (seq g h) = first_link g
first_link (alt g h) = alt g h
first_link (star g) = star g
first_link (does a g) = does a g
first_link (entry g) = entry g
first_link (ref n) = ref n

-- an answer under another name
pub named : {d : ℕ} {g : G} {s : List ℕ} {c q r : IResult} {t t' : List ℕ} → r ≡ q → Goes d g s c q t t' → Goes d g s c r t t'
named {d} {g} {s} {c} {t = t} {t' = t'} e x = subst (λ (k : IResult). Goes d g s c k t t') (sym e) x

pub named_skims : {g : G} {s : List ℕ} {c q r : IResult} → r ≡ q → Skims g s c q → Skims g s c r
named_skims {g} {s} {c} e x = subst (λ (k : IResult). Skims g s c k) (sym e) x

pub named_stands : {spare : ℕ} {s : List ℕ} {q : IResult} {at : Cursor} → q ≡ Ok at → Stands spare s q → Stands spare s (Ok at)
named_stands {spare} {s} e x = subst (λ (k : IResult). Stands spare s k) e x

-- it ended the reading, so the others did nothing
pub ended : {d : ℕ} (g : G) {s : List ℕ} {c q r : IResult} {f : Failure} {t t' : List ℕ} → Goes d (first_link g) s c q t t' → q ≡ Err f → r ≡ Err f → Goes d g s c r t t'
unfolding first_link
ended {d} g {s} {c} {q} {r} {f} {t} {t'} x fails back = named back (go g x)
  where
    go : (g : G) → Goes d (first_link g) s c q t t' → Goes d g s c (Err f) t t'
    go (leaf l) x = named (sym fails) x
    go literal x = named (sym fails) x
    go nothing x = named (sym fails) x
    go (mark kind a) x = named (sym fails) x
    go (seq g h) x = early (go g x) refl
    go (alt g h) x = named (sym fails) x
    go (star g) x = named (sym fails) x
    go (does a g) x = named (sym fails) x
    go (entry g) x = named (sym fails) x
    go (ref n) x = named (sym fails) x

pub ended_skims : {d : ℕ} (g : G) {s : List ℕ} {c q r : IResult} {f : Failure} {t : List ℕ} → T (plain (first_link g)) → Skims (first_link g) s c q → q ≡ Err f → r ≡ Err f
    → Goes d g s c r t t
ended_skims {d} g {t = t} m x fails back = ended g (at_depth d m (x.on t)) fails back

-- a cursor that a function is handed as it is
pub itself : (r : IResult) → r ≡ r
itself r = refl

-- where the first link is not a single one
pub early_back : {d : ℕ} {g h : G} {s : List ℕ} {c q r : IResult} {f : Failure} {t t₁ : List ℕ} → Goes d g s c q t t₁ → q ≡ Err f → r ≡ Err f → Goes d (seq g h) s c r t t₁
early_back x fails back = named back (early x fails)

-- it did not: the next goes on from the cursor itself
pub from_cursor : {d : ℕ} {g : G} {s : List ℕ} {c q : IResult} {at : Cursor} {t t' : List ℕ} → c ≡ Ok at → Goes d g s (Ok at) q t t' → Goes d g s c q t t'
from_cursor {d} {g} {s} {c} {q} {at} {t} {t'} e x = subst (λ (k : IResult). Goes d g s k q t t') (sym e) x

pub skims_from_cursor : {g : G} {s : List ℕ} {c q : IResult} {at : Cursor} → c ≡ Ok at → Skims g s (Ok at) q → Skims g s c q
skims_from_cursor {g} {s} {c} {q} {at} e x = subst (λ (k : IResult). Skims g s k q) (sym e) x

pub after_ok : {d : ℕ} {g h : G} {s : List ℕ} {c q r : IResult} {k : Cursor} {t t₁ t₂ : List ℕ} → Goes d h s (Ok k) r t₁ t₂ → q ≡ Ok k → Goes d g s c q t t₁ → Goes d (seq g h) s c r t t₂
after_ok y on x = and x (from_cursor on y)

pub after_ok_skims : {d : ℕ} {g h : G} {s : List ℕ} {c q r : IResult} {k : Cursor} {t t₁ : List ℕ} → Goes d h s (Ok k) r t t₁ → q ≡ Ok k → T (plain g) → Skims g s c q → Goes d (seq g h) s c r t t₁
after_ok_skims {d} {t = t} y on m x = and (at_depth d m (x.on t)) (from_cursor on y)

pub ruleset lines = (after_ok, after_ok_skims, early_back, line)

pub ruleset levels_lines = (after_ok, after_ok_skims, early_back, levels_line)
