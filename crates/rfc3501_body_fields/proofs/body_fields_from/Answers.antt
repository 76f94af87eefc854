use Rattle.grammar.specs.BodyStructure.{body_fields}
use Rattle.table.proofs.Going.{◌▸◌, ◌▹◌, ◌▸▸◌}
use Rattle.rfc3501_body_fields.proofs.body_fields_from.Goals as goal

pub returns : goal.returns
unfolding body_fields
returns c = c.body_param-r.ensures ▸▸ c.sp_nstring-r.ensures ▸▸ c.sp_nstring-r-2.ensures
    ▹ c.char-r.ensures ▸ c.body_encoding-r.ensures ▹ c.char-r-2.ensures ▸ c.number.ensures
