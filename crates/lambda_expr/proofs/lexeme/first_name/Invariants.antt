use Rattle.std.proofs.Common.{◌≡◌, drop, option_copied}
use Rattle.lambda_expr.specs.CodeWords.{words_in}
use Rattle.lambda_expr.specs.Lexemes.{first_name}
use Rattle.lambda_expr.proofs.lexeme.first_name.Given as goal

abbrev pub invariant-loop-at : goal.invariant-loop-at
invariant-loop-at l = first_name l.cells (option_copied l.taken) (words_in l.text)
    ≡ first_name l.cells (option_copied l.taken) (drop l.at (words_in l.text))
