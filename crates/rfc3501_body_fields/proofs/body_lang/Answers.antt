use Rattle.std.proofs.Common.{rules, Err, ◌≡◌}
use Rattle.table.specs.declared.Failure.TheVariants.{Refused}
use Rattle.grammar.specs.Core.{string}
use Rattle.grammar.specs.BodyStructure.{body_lang}
use Rattle.table.proofs.Listable.{listable}
use Rattle.table.proofs.Search.{either}
use Rattle.lists.proofs.Lists.{in_parentheses}
use Rattle.rfc3501_body_fields.proofs.body_lang.Goals as goal

pub parenthesized_nonempty_list-requires-clause-items : goal.parenthesized_nonempty_list-requires-clause-items
unfolding listable string
parenthesized_nonempty_list-requires-clause-items c = (0, string, search in_parentheses)

pub returns-in_default : goal.returns-in_default
unfolding body_lang
returns-in_default c = let other : c.nil-r.result ≡ Err Refused → ⊥ = (λ e. grind rules) in search either

pub returns-in_default-2 : goal.returns-in_default-2
unfolding body_lang
returns-in_default-2 c = let other : c.nil-r.result ≡ Err Refused → ⊥ = (λ e. grind rules) in search either

pub returns-in_default-r : goal.returns-in_default-r
unfolding body_lang
returns-in_default-r c =
    let refused : c.nil-r.result ≡ Err Refused = grind rules in
    let other : c.one_string-r.result ≡ Err Refused → ⊥ = (λ e. grind rules) in search either

pub returns-in_default-r-2 : goal.returns-in_default-r-2
unfolding body_lang
returns-in_default-r-2 c =
    let refused : c.nil-r.result ≡ Err Refused = grind rules in
    let other : c.one_string-r.result ≡ Err Refused → ⊥ = (λ e. grind rules) in search either

pub returns : goal.returns
unfolding body_lang listable string
returns c =
    let refused : c.nil-r.result ≡ Err Refused = grind rules in
    let too : c.one_string-r.result ≡ Err Refused = grind rules in
    let x = c.parenthesized_nonempty_list.ensures.goes 0 string (search in_parentheses) in search either
