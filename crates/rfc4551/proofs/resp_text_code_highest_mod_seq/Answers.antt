use Rattle.grammar.specs.Rfc4551.{resp_text_code_highest_mod_seq}
use Rattle.table.proofs.Search.{line}
use Rattle.rfc4551.proofs.resp_text_code_highest_mod_seq.Goals as goal

pub returns : goal.returns
unfolding resp_text_code_highest_mod_seq
returns c = search line
