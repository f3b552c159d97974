use Rattle.std.proofs.Common.{◌≡◌, ◌*◌, ◌+◌, ◌-◌, fold, take, true}
use Rattle.std.specs.List.{list_all}
use Rattle.std.specs.Char.{is_ascii_digit}
use Rattle.columns.proofs.decimals.digits_after.Given as goal

-- all so far are digits, and this is what they are worth
abbrev pub invariant-loop-digit : goal.invariant-loop-digit
invariant-loop-digit l =
    (list_all is_ascii_digit (take l.digit-index l.digits) ≡ true)
    × (l.value ≡ fold (λ n d. 10 * n + (d - 48)) l.so_far (take l.digit-index l.digits))
