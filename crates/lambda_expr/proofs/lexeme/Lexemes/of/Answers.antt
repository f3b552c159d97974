use Rattle.std.proofs.Common.{option_copied}
use Rattle.lambda_expr.proofs.LexemeLemmas.{whole_text}
use Rattle.lambda_expr.proofs.lexeme.Lexemes.of.Goals as goal

pub returns : goal.returns
returns c = whole_text c.args.cells (option_copied c.first_name-first.result) (option_copied c.first_name.result)
    c.args.text.now c.len.result c.first_name-first.ensures c.first_name.ensures c.len.ensures
