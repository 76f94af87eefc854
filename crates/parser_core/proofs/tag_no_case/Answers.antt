use Prim.Native.Nat.{ℕ, ◌<◌, min}
use mathlib.Core.Path.{◌≡◌, subst, sym, ◌∙◌}
use native.Mathlib.Omega.{arith}
use lib.ListN.{length, get_or, length-append}
use Rattle.std.proofs.Common.{rules}
use Rattle.std.proofs.lemmas.Slice.Zip.{zip_turn, zip_end}
use Rattle.table.proofs.Bounds.{room}
use Rattle.table.proofs.Cursors.{went_on}
use Rattle.parser_core.proofs.Scanning.{rest_of, rest_byte, rest_long}
use Rattle.parser_core.proofs.Tags.{Tagging, word, tag_agrees, tag_differs, tag_short, tag_done}
use Rattle.parser_core.proofs.tag_no_case.Goals.{In-Some, In-None}
use Rattle.parser_core.proofs.tag_no_case.Goals as goal

pub slice_bounds-rest-count : goal.slice_bounds-rest-count
slice_bounds-rest-count c = (room (went_on c.branch-c.ensures c.in_ok-c.is) c.requires.stands).inside

pub slice_bounds-rest-start : goal.slice_bounds-rest-start
slice_bounds-rest-start c = let inside = (room (went_on c.branch-c.ensures c.in_ok-c.is) c.requires.stands).inside in search rules

pub loop-a-init : goal.loop-a-init
loop-a-init c = search word

turn : (c : In-Some) → (length c.loop-a.yielded < length (rest_of c.args.s.now c.in_ok-c.c.place)) × (length c.loop-a.yielded < length c.args.word.now)
    × ((d : ℕ) → c.in-Some.a.now ≡ get_or (rest_of c.args.s.now c.in_ok-c.c.place) (length c.loop-a.yielded) d) × ((d : ℕ) → c.in-Some.b.now ≡ get_or c.args.word.now (length c.loop-a.yielded) d)
turn c = zip_turn (rest_of c.args.s.now c.in_ok-c.c.place) c.args.word.now c.loop-a.yielded _ c.loop-a.a-iterator c.next.new.self _ (search rules) (search rules) c.loop-a.yielded_by _ c.in-Some.is c.next.ensures.steps

turns : (c : In-None) → length c.loop-a.yielded ≡ min (length (rest_of c.args.s.now c.in_ok-c.c.place)) (length c.args.word.now)
turns c = zip_end (rest_of c.args.s.now c.in_ok-c.c.place) c.args.word.now c.loop-a.yielded _ c.loop-a.a-iterator c.next.new.self _ (search rules) (search rules) c.loop-a.yielded_by c.in-None.is c.next.ensures.steps

pub returns-then-not-same_letter : goal.returns-then-not-same_letter
returns-then-not-same_letter c =
    let t = turn (goal.at.returns-then-not-same_letter c).In-Some in
    tag_differs (went_on c.branch-c.ensures c.in_ok-c.is) c.requires.stands c.loop-a.invariant t.1 (omega (arith, t.0, rest_long c.args.s.now c.in_ok-c.c.place))
    (rw (sym (t.2 0 ∙ rest_byte c.args.s.now c.in_ok-c.c.place (length c.loop-a.yielded)), sym (t.3 0)) c.same_letter.ensures)
    c.if-not-same_letter.true

pub loop-a-preserved : goal.loop-a-preserved
loop-a-preserved c =
    let t = turn (goal.at.loop-a-preserved c).In-Some in
    subst (Tagging c.args.word.now c.args.s.now c.in_ok-c.c.place) (sym (length-append c.loop-a.yielded _))
    (tag_agrees c.loop-a.invariant t.1 (omega (arith, t.0, rest_long c.args.s.now c.in_ok-c.c.place))
    (rw (sym (t.2 0 ∙ rest_byte c.args.s.now c.in_ok-c.c.place (length c.loop-a.yielded)), sym (t.3 0)) c.same_letter.ensures)
    c.if-not-same_letter.false)

pub returns-then-rest-word : goal.returns-then-rest-word
returns-then-rest-word c =
    let t = turns (goal.at.returns-then-rest-word c).In-None in
    let short = c.if-rest-word.true in
    tag_short (went_on c.branch-c.ensures c.in_ok-c.is) c.requires.stands c.loop-a.invariant (omega (arith, t, short))
    (omega (arith, t, short, rest_long c.args.s.now c.in_ok-c.c.place))

pub returns : goal.returns
returns c =
    let t = turns (goal.at.returns c).In-None in
    tag_done (went_on c.branch-c.ensures c.in_ok-c.is) c.requires.stands c.loop-a.invariant (omega (arith, t, c.if-rest-word.false)) c.moved.ensures
