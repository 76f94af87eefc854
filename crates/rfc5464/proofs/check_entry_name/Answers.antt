use mathlib.Core.Path.{refl}
use mathlib.Core.Bool.{Bool, false}
use Rattle.grammar.specs.Text.{ascii}
use Rattle.grammar.specs.EntryName.{check_vendor_comment, check_admin, check_entry_name, after_word}
use Rattle.rfc5464.proofs.Names.{behind, without}
use Rattle.rfc5464.proofs.check_entry_name.Goals as goal

pub returns-in-Some : goal.returns-in-Some
unfolding check_entry_name
returns-in-Some c = let found = c.in-Some.ensures.cases in behind (ascii "/private") c.args.name.now check_vendor_comment _ found.0 found.1 c.check_vendor_comment.ensures

pub returns-in-Some-strip_prefix : goal.returns-in-Some-strip_prefix
unfolding check_entry_name
returns-in-Some-strip_prefix c =
    let found = c.in-Some-strip_prefix.ensures.cases in
    let other : Unit {0} → Bool = λ u. after_word (ascii "/shared") c.args.name.now check_admin (λ u. false) in
    without (ascii "/private") c.args.name.now check_vendor_comment other c.in_default.ensures.cases
    (behind (ascii "/shared") c.args.name.now check_admin (λ u. false) found.0 found.1 c.check_admin.ensures)

pub returns-in-None : goal.returns-in-None
unfolding check_entry_name
returns-in-None c =
    let other : Unit {0} → Bool = λ u. after_word (ascii "/shared") c.args.name.now check_admin (λ u. false) in
    without (ascii "/private") c.args.name.now check_vendor_comment other c.in_default.ensures.cases
    (without (ascii "/shared") c.args.name.now check_admin (λ u. false) c.in-None.ensures.cases refl)
