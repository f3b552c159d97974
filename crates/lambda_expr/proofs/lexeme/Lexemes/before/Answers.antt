use Rattle.std.proofs.Common.{arith}
use Rattle.lambda_expr.proofs.LexemeLemmas.{length-part}
use Rattle.lambda_expr.proofs.lexeme.Lexemes.before.Goals as goal

pub overflow_add-result : goal.overflow_add-result
overflow_add-result c =
    let fits = c.self.invariant.fits in
    let le = c.requires in
    omega (arith, length-part c.self.inside c.args.self.now c.self.invariant c.self.view_is)
