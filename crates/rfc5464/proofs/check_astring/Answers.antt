use Rattle.rfc5464.proofs.Contents.{contents}
use Rattle.rfc5464.proofs.check_astring.Goals as goal

pub bounds-s-at : goal.bounds-s-at
bounds-s-at c = search contents

pub overflow_sub-next : goal.overflow_sub-next
overflow_sub-next c = search contents

pub slice_bounds-check_entry_name-count : goal.slice_bounds-check_entry_name-count
slice_bounds-check_entry_name-count c = search contents

pub slice_bounds-check_entry_name-start : goal.slice_bounds-check_entry_name-start
slice_bounds-check_entry_name-start c = search contents

pub slice_bounds-check_entry_name-end : goal.slice_bounds-check_entry_name-end
slice_bounds-check_entry_name-end c = search contents

pub returns-then-b-eq34 : goal.returns-then-b-eq34
returns-then-b-eq34 c = search contents

pub unwrap-start-requires : goal.unwrap-start-requires
unwrap-start-requires c = search contents

pub slice_bounds-check_entry_name-count-then-b-eq123 : goal.slice_bounds-check_entry_name-count-then-b-eq123
slice_bounds-check_entry_name-count-then-b-eq123 c = search contents

pub slice_bounds-check_entry_name-start-then-b-eq123 : goal.slice_bounds-check_entry_name-start-then-b-eq123
slice_bounds-check_entry_name-start-then-b-eq123 c = search contents

pub slice_bounds-check_entry_name-end-then-b-eq123 : goal.slice_bounds-check_entry_name-end-then-b-eq123
slice_bounds-check_entry_name-end-then-b-eq123 c = search contents

pub returns-then-b-eq123 : goal.returns-then-b-eq123
returns-then-b-eq123 c = search contents

pub slice_bounds-check_entry_name-count-2 : goal.slice_bounds-check_entry_name-count-2
slice_bounds-check_entry_name-count-2 c = search contents

pub slice_bounds-check_entry_name-start-2 : goal.slice_bounds-check_entry_name-start-2
slice_bounds-check_entry_name-start-2 c = search contents

pub slice_bounds-check_entry_name-end-2 : goal.slice_bounds-check_entry_name-end-2
slice_bounds-check_entry_name-end-2 c = search contents

pub returns : goal.returns
returns c = search contents
