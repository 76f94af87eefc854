-- Which grammars a list may have for its items, computed of the grammar.
use Prim.Native.Nat.{ℕ, ◌+◌}
use mathlib.Core.Bool.{Bool, ◌&&◌}
use native.Mathlib.Omega.{arith}
use lib.Dec.{T, leb, leb→le}
use Rattle.grammar.specs.Grammar.{G}
use Rattle.grammar.proofs.Tests.{T_left, T_right}
use Rattle.grammar.proofs.On.{at_took}
use Rattle.grammar.proofs.Closed.{every}
use Rattle.grammar.proofs.Size.{pays, cost_of, grammar_paid}
use Rattle.table.specs.Lists.{Item}
use Rattle.table.proofs.Trees.{lone, one_tree}

unfoldable pub listable : G → Bool
unfolding every cost_of lone
listable g = lone g && (every pays g && (leb ((cost_of g).extra + 1) (cost_of g).less && leb 1 (cost_of g).fewest))

pub listed_item : {d : ℕ} {g : G} → T (listable g) → Item d g
unfolding listable
listed_item {d} {g} m =
    let c = cost_of g in
    let rest = T_right (lone g) (every pays g && (leb (c.extra + 1) c.less && leb 1 c.fewest)) m in
    let y = T_right (every pays g) (leb (c.extra + 1) c.less && leb 1 c.fewest) rest in
    let l = leb→le (c.extra + 1) c.less (T_left (leb (c.extra + 1) c.less) (leb 1 c.fewest) y) in
    let k = leb→le 1 c.fewest (T_right (leb (c.extra + 1) c.less) (leb 1 c.fewest) y) in
    record {
      taken = λ s at end f inside p.
          let x = at_took (grammar_paid d g (T_left (every pays g) (leb (c.extra + 1) c.less && leb 1 c.fewest) rest) s at inside) p in
          record {
            forward = omega (arith, x.holds.bytes);
            inside = x.inside;
            pays = omega (arith, x.holds.nodes);
            alone = one_tree d g s at end f (T_left (lone g) (every pays g && (leb (c.extra + 1) c.less && leb 1 c.fewest)) m) inside p;
          };
    }
