use Rattle.std.proofs.Common.{sym}
use Rattle.lambda_expr.proofs.LexemeLemmas.{length-part}
use Rattle.lambda_expr.proofs.lexeme.Lexemes.len.Goals as goal

pub returns : goal.returns
returns c = sym (length-part c.self.inside c.args.self.now c.self.invariant c.self.view_is)
