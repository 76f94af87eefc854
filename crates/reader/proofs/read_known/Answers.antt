use borrow.Author.Rules.{rules}
use Rattle.reader.proofs.Passes.{too_long}
use Rattle.reader.proofs.read_known.Goals as goal

pub returns-then-s-gt-LENGTH_LIMIT : goal.returns-then-s-gt-LENGTH_LIMIT
returns-then-s-gt-LENGTH_LIMIT c = search (too_long, rules)
