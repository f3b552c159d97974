use Rattle.std.proofs.Common.{◌≡◌, ◌∙◌, ◌-◌, Some, arith, drop, sym, take}
use Rattle.columns.specs.Number.{number_of}
use Rattle.columns.specs.TableForms.{filled}
use Rattle.columns.specs.TextRows.{ends_cell}
use Rattle.columns.proofs.NumberLemmas.{both_some, passed}
use Rattle.columns.proofs.TextLemmas.{none_between}
use Rattle.columns.proofs.TextNumbers.{bare_number}
use Rattle.columns.proofs.text_rows.other_cell.Goals as goal

pub returns-clause-read : goal.returns-clause-read
returns-clause-read c =
    let s = c.args.separator in
    let text = c.args.text.now in
    let at = c.args.at in
    let end = c.in_ok-end.end in
    let found = c.in_ok-end.ensures in
    let cell = c.cell_before.ensures in
    let number : number_of (filled c.args.blank (take (end - at) (drop at text))) ≡ Some c.in_ok-value.value =
    sym c.read_filled.ensures ∙ c.in_ok-value.was in
    let plain = none_between (ends_cell s) text at end found.within.0 (omega (arith, found.within.1)) found.none in
    both_some _ _ _ c.cell_before.result cell.value cell.after (λ x value after.
    bare_number s c.args.blank text at end x.value x.is_last _ c.requires.separator found.within.0
    (passed _ _ x.value number value) plain c.requires.bare after)
