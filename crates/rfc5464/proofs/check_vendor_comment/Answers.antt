use mathlib.Core.Path.{refl}
use mathlib.Core.Bool.{Bool, false}
use Rattle.grammar.specs.Text.{ascii}
use Rattle.grammar.specs.EntryName.{check_path, check_vendor, check_vendor_comment, after_word}
use Rattle.rfc5464.proofs.Names.{behind, without}
use Rattle.rfc5464.proofs.check_vendor_comment.Goals as goal

pub returns-in-Some : goal.returns-in-Some
unfolding check_vendor_comment
returns-in-Some c = let found = c.in-Some.ensures.cases in behind (ascii "/comment") c.args.name.now (check_path false) _ found.0 found.1 c.check_path.ensures

pub returns-in-Some-strip_prefix : goal.returns-in-Some-strip_prefix
unfolding check_vendor_comment
returns-in-Some-strip_prefix c =
    let found = c.in-Some-strip_prefix.ensures.cases in
    let other : Unit {0} → Bool = λ u. after_word (ascii "/vendor") c.args.name.now check_vendor (λ u. false) in
    without (ascii "/comment") c.args.name.now (check_path false) other c.in_default.ensures.cases
    (behind (ascii "/vendor") c.args.name.now check_vendor (λ u. false) found.0 found.1 c.check_vendor.ensures)

pub returns-in-None : goal.returns-in-None
unfolding check_vendor_comment
returns-in-None c =
    let other : Unit {0} → Bool = λ u. after_word (ascii "/vendor") c.args.name.now check_vendor (λ u. false) in
    without (ascii "/comment") c.args.name.now (check_path false) other c.in_default.ensures.cases
    (without (ascii "/vendor") c.args.name.now check_vendor (λ u. false) c.in-None.ensures.cases refl)
