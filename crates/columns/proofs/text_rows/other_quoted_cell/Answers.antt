use Rattle.std.proofs.Common.{◌≡◌, ◌∙◌, ◌+◌, ◌-◌, Some, drop, sym, take}
use Rattle.columns.specs.Number.{number_of}
use Rattle.columns.specs.TableForms.{filled}
use Rattle.columns.proofs.NumberLemmas.{both_some, passed}
use Rattle.columns.proofs.TextNumbers.{quoted_number}
use Rattle.columns.proofs.text_rows.other_quoted_cell.Goals as goal

pub returns-clause-read : goal.returns-clause-read
returns-clause-read c =
    let text = c.args.text.now in
    let at = c.args.at in
    let end = c.in_ok-end.end in
    let found = c.in_ok-end.ensures in
    let cell = c.cell_before.ensures in
    let number : number_of (filled c.args.blank (take (end - (at + 1)) (drop (at + 1) text)))
    ≡ Some c.in_ok-value.value = sym c.read_filled.ensures ∙ c.in_ok-value.was in
    both_some _ _ _ c.cell_before.result cell.value cell.after (λ x value after.
    quoted_number c.args.separator c.args.blank text at end x.value x.is_last _ c.requires.separator c.requires.within
    c.requires.quote found.within.0 found.within.1 found.quote found.none
    (passed _ _ x.value number value) after)
