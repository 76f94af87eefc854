use Rattle.grammar.specs.Notation.{◌⋯◌, sp, skip_opt, many1}
use Rattle.grammar.specs.Envelope.{address}
use Rattle.table.proofs.Listable.{listable}
use Rattle.table.proofs.Search.{passed}
use Rattle.rfc3501_envelope.proofs.addresses.Goals as goal

pub items-requires-clause-lists : goal.items-requires-clause-lists
unfolding listable address sp skip_opt
items-requires-clause-lists c = (0, (address ⋯ skip_opt sp, address ⋯ skip_opt sp), search passed)

pub returns : goal.returns
unfolding listable many1 address sp skip_opt
returns c = search passed
