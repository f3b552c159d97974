use Rattle.std.proofs.Common.{◌≡◌, take, true}
use Rattle.std.specs.List.{list_all}
use Rattle.std.specs.Char.{is_ascii_digit}
use Rattle.columns.specs.Cell.{digits_value}
use Rattle.columns.proofs.cell.magnitude.Given as goal

-- all so far are digits, and this is what they are worth
abbrev pub invariant-loop-digit : goal.invariant-loop-digit
invariant-loop-digit l =
    (list_all is_ascii_digit (take l.digit-index l.digits) ≡ true)
    × (l.value ≡ digits_value (take l.digit-index l.digits))
