use Rattle.std.proofs.Common.{◌≡◌, ◌-◌, Some, drop, rules, sym, take, true}
use Rattle.std.specs.List.{list_all}
use Rattle.columns.specs.Number.{number_of}
use Rattle.columns.specs.TextRows.{is_bare_byte}
use Rattle.columns.proofs.NumberLemmas.{both_some, passed}
use Rattle.columns.proofs.TextNumbers.{short_there}
use Rattle.columns.proofs.text_rows.number_cell.Goals as goal

pub returns-then-is_some-clause-read : goal.returns-then-is_some-clause-read
returns-then-is_some-clause-read c =
    let text = c.args.text.now in
    let at = c.args.at in
    let end = c.in-Some.end in
    let cell = c.cell_before-cell.ensures in
    let number : number_of (take (end - at) (drop at text)) ≡ Some c.in-Some.value =
    rw (c.in-Some.value-is, c.in-Some.end-is) c.in-Some.ensures.number in
    let bare : list_all is_bare_byte (take (end - at) (drop at text)) ≡ true =
    rw c.in-Some.end-is c.in-Some.ensures.bare in
    both_some _ _ _ c.cell_before-cell.result cell.value cell.after (λ x value after.
    short_there c.args.separator c.args.blank text at end x.value x.is_last _ c.requires.separator (search rules)
    (passed _ _ x.value number value) bare after)

pub other_cell-requires-clause-bare : goal.other_cell-requires-clause-bare
other_cell-requires-clause-bare c = sym c.if-has_quote.ensures.quote
