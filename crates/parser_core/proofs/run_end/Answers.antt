use Prim.Native.Nat.{◌<◌}
use mathlib.Core.Path.{◌≡◌, sym, ◌∙◌}
use mathlib.Core.Bool.{not}
use lib.ListN.{length, drop}
use borrow.Author.Rules.{rules}
use Rattle.std.specs.List.{position}
use Rattle.std.specs.Option.{IfSome}
use Rattle.std.proofs.lemmas.Iterator.{IsFirst-from_position, YieldsList-from_slice}
use Rattle.grammar.specs.Scan.{Class, in_class}
use Rattle.parser_core.specs.Scanned.{Tests}
use Rattle.parser_core.proofs.Runs.{Inside, Outside, first_found, run_ends, run_short}
use Rattle.parser_core.proofs.Scanning.{rest_is, rest_small, rest_room}
use Rattle.parser_core.proofs.run_end.Given as given
use Rattle.parser_core.proofs.run_end.Goals.{After-position}
use Rattle.parser_core.proofs.run_end.Goals as goal

pub overflow_add-result : goal.overflow_add-result
overflow_add-result g c =
    let x : IfSome c.position.result (λ i. i < length c.iter.result.rest.now) = c.position.ensures.bound in
    let y = rw c.in-Some.is at x in
    rest_room c.args.s.now c.args.at c.requires.room (rw (sym c.iter.ensures.rest) y)

found : (g : given.Over) (c : After-position g) (class : Class) → Tests (given.F-post g c.args.is_in) (in_class class)
    → c.position.result ≡ position (λ b. not (in_class class b)) (drop c.args.at c.args.s.now)
found g c class tests =
    let t = tests.is in
    let s = c.args.s.now in
    first_found (in_class class) (drop c.args.at s) (rest_small s c.args.at c.type_inv.s) c.position.result
    (IsFirst-from_position _ _ _ (Outside (in_class class)) (Inside (in_class class)) c.position.ensures.ran (YieldsList-from_slice (drop c.args.at s) (c.iter.ensures.rest ∙ rest_is s c.args.at))
    (λ x q k l. search (t, rules)) (λ x q k. (search rules, λ l. search (t, rules))))

pub returns-in-Some : goal.returns-in-Some
returns-in-Some g c class tests = run_ends class (found g (goal.at.returns-in-Some g c).After-position class tests) c.in-Some.is

pub returns : goal.returns
returns g c class tests = run_short class (found g (goal.at.returns g c).After-position class tests) c.in-None.is
