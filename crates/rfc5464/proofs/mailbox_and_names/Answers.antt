use Rattle.table.proofs.Bounds.{leaves_of}
use Rattle.grammar.specs.Rfc5464.{metadata_common}
use Rattle.table.proofs.Search.{line, spare}
use Rattle.rfc5464.proofs.mailbox_and_names.Goals as goal

pub entry_list-requires : goal.entry_list-requires
unfolding leaves_of metadata_common
entry_list-requires c = search spare

pub returns : goal.returns
returns c = search line
