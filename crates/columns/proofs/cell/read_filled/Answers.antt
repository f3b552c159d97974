use Rattle.std.proofs.Common.{◌≡◌, ◌∙◌, FitsSigned, Some, ap, rules, sym, true, w64}
use Rattle.std.proofs.lemmas.Int.{to_z-of_z}
use Rattle.std.specs.List.{list_all}
use Rattle.columns.specs.Cell.{is_blank}
use Rattle.columns.proofs.NumberLemmas.{number_written}
use Rattle.columns.proofs.cell.read_filled.Goals as goal

pub returns-in-Some : goal.returns-in-Some
returns-in-Some c =
    let n = c.in-Some.number in
    let fits : FitsSigned w64 n = search rules in
    let blank : list_all is_blank c.args.cell.now ≡ true = search rules in
    rw (c.in-Some.is, blank) (ap Some (to_z-of_z w64 n fits) ∙ sym (number_written n fits))
