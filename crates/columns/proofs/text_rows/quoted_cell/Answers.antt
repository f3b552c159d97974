use Rattle.std.proofs.Common.{◌≡◌, ◌<◌, ◌+◌, ◌-◌, Some, arith, drop, length, rules, take, true}
use Rattle.std.specs.List.{list_all}
use Rattle.columns.specs.Number.{number_of}
use Rattle.columns.specs.TextRows.{is_bare_byte}
use Rattle.columns.proofs.NumberLemmas.{both_some, filled_number, passed}
use Rattle.columns.proofs.TextNumbers.{quoted_number, short_no_quote}
use Rattle.columns.proofs.text_rows.quoted_cell.Goals as goal

pub returns-then-text-end-eq34-clause-read : goal.returns-then-text-end-eq34-clause-read
returns-then-text-end-eq34-clause-read c =
    let text = c.args.text.now in
    let at = c.args.at in
    let end = c.in-Some.end in
    let cell = c.cell_before.ensures in
    let within : end < length text = search rules in
    let number : number_of (take (end - (at + 1)) (drop (at + 1) text)) ≡ Some c.in-Some.value =
    rw (c.in-Some.value-is, c.in-Some.end-is) c.in-Some.ensures.number in
    let bare : list_all is_bare_byte (take (end - (at + 1)) (drop (at + 1) text)) ≡ true =
    rw c.in-Some.end-is c.in-Some.ensures.bare in
    both_some _ _ _ c.cell_before.result cell.value cell.after (λ x value after.
    quoted_number c.args.separator c.args.blank text at end x.value x.is_last _ c.requires.separator c.requires.within
    c.requires.quote (search rules) within (search rules)
    (short_no_quote text (at + 1) end (search rules) (omega (arith, within)) bare)
    (filled_number c.args.blank _ x.value (passed _ _ x.value number value)) after)
