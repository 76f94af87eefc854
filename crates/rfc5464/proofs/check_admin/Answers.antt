use mathlib.Core.Bool.{false}
use Rattle.grammar.specs.Text.{ascii}
use Rattle.grammar.specs.EntryName.{check_path, check_vendor_comment, check_admin}
use Rattle.rfc5464.proofs.Names.{behind, without}
use Rattle.rfc5464.proofs.check_admin.Goals as goal

pub returns-in-Some : goal.returns-in-Some
unfolding check_admin
returns-in-Some c = let found = c.in-Some.ensures.cases in behind (ascii "/admin") c.args.name.now (check_path false) _ found.0 found.1 c.check_path.ensures

pub returns-in-None : goal.returns-in-None
unfolding check_admin
returns-in-None c = without (ascii "/admin") c.args.name.now (check_path false) (λ u. check_vendor_comment c.args.name.now) c.in-None.ensures.cases c.check_vendor_comment.ensures
