use Rattle.std.proofs.Common.{◌≡◌, ◌∙◌, ◌==◌, FitsSigned, None, ap, false, rules, sym, true, w64}
use Rattle.std.proofs.lemmas.Bool.Decides.{nat_tests}
use Rattle.std.proofs.lemmas.Int.{to_z-of_z}
use Rattle.std.specs.Fmt.{signed_decimal}
use Rattle.std.specs.List.{list_all}
use Rattle.columns.specs.Cell.{is_blank}
use Rattle.columns.specs.Decimals.{decimal_of}
use Rattle.columns.proofs.SpelledDecimals.{number_scaled}
use Rattle.columns.proofs.decimals.read_with.Goals.{in_default-via-in-Some+else-are_blanks, in_default-via-in_default}
use Rattle.columns.proofs.decimals.read_with.Goals as goal

pub returns-in-Some : goal.returns-in-Some
returns-in-Some c =
    let some : (c.args.places == 0) ≡ false = search (rules, nat_tests) in
    let blank : list_all is_blank c.args.cell.now ≡ true = search rules in
    let fits : FitsSigned w64 c.in-Some.number = search rules in
    rw (c.in-Some.is, blank) (c.with_zeros.ensures
    ∙ ap (λ k. decimal_of c.args.places (signed_decimal k)) (to_z-of_z w64 c.in-Some.number fits)
    ∙ sym (number_scaled c.args.places (signed_decimal c.in-Some.number) some))

pub returns-in_default : goal.returns-in_default
returns-in_default c =
    let some : (c.args.places == 0) ≡ false = search (rules, nat_tests) in
    let read = c.read_decimal.ensures.value ∙ sym (number_scaled c.args.places c.args.cell.now some) in
    elim c.in_default.branch [
      | in_default-via-in-Some+else-are_blanks w ↦
          let blank : list_all is_blank c.args.cell.now ≡ false = search rules in
          rw (w.in-Some.is, blank) read
      | in_default-via-in_default w ↦
          let none : c.args.blank ≡ None = search rules in
          rw none read
    ]
