-- The laws that `search` is to know at the needs of parser_core's readers.
use Rattle.table.proofs.Lines.{from_cursor}
use Rattle.table.proofs.Search.{reads}
use Rattle.parser_core.proofs.Leaves.{leaf_skims_fails, run1_skims_fails, run1_node_fails, run0_skims, run1_skims, run1_skims_none, run1_node, run1_node_none, run_few, run_word}
use Rattle.parser_core.proofs.Quoting.{going_here}
use Rattle.parser_core.proofs.Dispatch.{opened, string_quoted, string_literal, nstring_quoted, nstring_literal, nstring_nil, quoted_other}

-- of a run of bytes
pub ruleset runs = (leaf_skims_fails, run1_skims_fails, run1_node_fails, run0_skims, run1_skims, run1_skims_none, run1_node, run1_node_none, run_few, run_word, reads)

-- of a first byte
pub ruleset firsts = (opened, string_quoted, string_literal, nstring_quoted, nstring_literal, nstring_nil, quoted_other, from_cursor, going_here, reads)
