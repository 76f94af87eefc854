use Rattle.parser_core.proofs.Quoting.{quoting, closing, quotes_wrong}
use Rattle.parser_core.proofs.quoted_end.Goals as goal
use Rattle.parser_core.proofs.quoted_end.Goals.{then-b-eq34, else-b-eq34+else-b-eq92+else-is_text_char, else-b-eq34+then-b-eq92+else-s-j+else-is_quoted_specials}

pub overflow_add-i : goal.overflow_add-i
overflow_add-i c = search quoting

pub scan-init : goal.scan-init
scan-init c = search quoting

pub loop-i-init : goal.loop-i-init
loop-i-init c = search quoting

pub returns-then-s-i : goal.returns-then-s-i
returns-then-s-i c = search quoting

pub bounds-s-i : goal.bounds-s-i
bounds-s-i c = search quoting

pub is_text_char-requires : goal.is_text_char-requires
is_text_char-requires c = search quoting

pub overflow_add-i-then-is_text_char : goal.overflow_add-i-then-is_text_char
overflow_add-i-then-is_text_char c = search quoting

pub loop-i-smaller : goal.loop-i-smaller
loop-i-smaller c = search quoting

pub loop-i-preserved : goal.loop-i-preserved
loop-i-preserved c = search quoting

pub overflow_add-j : goal.overflow_add-j
overflow_add-j c = search quoting

pub returns-then-s-j : goal.returns-then-s-j
returns-then-s-j c = search quoting

pub bounds-s-j : goal.bounds-s-j
bounds-s-j c = search quoting

pub is_quoted_specials-requires : goal.is_quoted_specials-requires
is_quoted_specials-requires c = search quoting

pub overflow_add-i-then-is_quoted_specials : goal.overflow_add-i-then-is_quoted_specials
overflow_add-i-then-is_quoted_specials c = search quoting

pub scan-smaller : goal.scan-smaller
scan-smaller c = search quoting

pub scan-preserved : goal.scan-preserved
scan-preserved c = search quoting

pub bounds-s-i-2 : goal.bounds-s-i-2
bounds-s-i-2 c = search quoting

pub overflow_add-result : goal.overflow_add-result
overflow_add-result c = search quoting

pub returns-then-s-i-eq34 : goal.returns-then-s-i-eq34
returns-then-s-i-eq34 c =
    elim c.if-b-eq34.branch [
      | then-b-eq34 w ↦ search closing
      | else-b-eq34+else-b-eq92+else-is_text_char w ↦ search closing
      | else-b-eq34+then-b-eq92+else-s-j+else-is_quoted_specials w ↦ search closing
    ]

pub returns-else-s-i-eq34 : goal.returns-else-s-i-eq34
returns-else-s-i-eq34 c =
    quotes_wrong c.if-s-i-eq34.false
    (elim c.if-b-eq34.branch [
      | then-b-eq34 w ↦ search closing
      | else-b-eq34+else-b-eq92+else-is_text_char w ↦ search closing
      | else-b-eq34+then-b-eq92+else-s-j+else-is_quoted_specials w ↦ search closing
    ])
