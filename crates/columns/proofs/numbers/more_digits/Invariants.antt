use Rattle.std.proofs.Common.{◌≡◌, ◌<◌, ◌≤◌, ◌-◌, ◌^◌, take, drop, true}
use Rattle.std.specs.List.{list_all}
use Rattle.std.specs.Char.{is_ascii_digit}
use Rattle.columns.specs.Cell.{digits_value}
use Rattle.columns.proofs.numbers.more_digits.Given as goal

-- all bytes so far are digits, and this is what they are worth
abbrev pub invariant-loop-end : goal.invariant-loop-end
invariant-loop-end l =
    (l.at ≤ l.end)
    × (list_all is_ascii_digit (take (l.end - l.at) (drop l.at l.text)) ≡ true)
    × (l.value ≡ digits_value (take (l.end - l.at) (drop l.at l.text)))
    × (l.value < 2 ^ 63)
