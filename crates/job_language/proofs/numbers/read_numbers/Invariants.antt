use Rattle.std.proofs.Common.{◌≡◌, ◌++◌, drop, length}
use Rattle.lambda_expr.specs.CodeWords.{words_in}
use Rattle.job_language.specs.Shapes.{call_in}
use Rattle.job_language.specs.Causes.{first_cause, number_causes, numbers_of}
use Rattle.job_language.proofs.numbers.read_numbers.Given as goal

abbrev pub invariant-loop-place : goal.invariant-loop-place
invariant-loop-place l =
    let xs = (call_in (words_in l.text) l.call).parts in
    let o = l.call.operation in
    (first_cause (number_causes o (length xs) 0 xs)
    ≡ first_cause (number_causes o (length xs) l.place (drop l.place xs)))
    × (numbers_of o (length xs) 0 xs ≡ l.numbers.items ++ numbers_of o (length xs) l.place (drop l.place xs))
