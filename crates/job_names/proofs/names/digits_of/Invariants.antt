use Rattle.std.proofs.Common.{◌≡◌, ◌++◌, drop, take}
use Rattle.std.specs.Char.{is_ascii_digit}
use Rattle.std.specs.Prelude.{take_while}
use Rattle.job_names.proofs.names.digits_of.Given as goal

abbrev pub invariant-loop-at : goal.invariant-loop-at
invariant-loop-at l = take_while is_ascii_digit l.text
    ≡ take l.at l.text ++ take_while is_ascii_digit (drop l.at l.text)
