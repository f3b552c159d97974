use Rattle.std.proofs.Common.{arith}
use Rattle.lambda_expr.proofs.LexemeLemmas.{length-part, rest_part}
use Rattle.lambda_expr.proofs.lexeme.Lexemes.after.Goals as goal

pub overflow_add-result : goal.overflow_add-result
overflow_add-result c =
    let fits = c.self.invariant.fits in
    let le = c.requires in
    omega (arith, length-part c.self.inside c.args.self.now c.self.invariant c.self.view_is)

pub returns-clause-lexemes : goal.returns-clause-lexemes
returns-clause-lexemes c = rest_part c.self.inside c.args.self.now c.args.count c.self.invariant c.self.view_is
    c.requires

pub returns-clause-len : goal.returns-clause-len
returns-clause-len c =
    let fits = c.self.invariant.fits in
    omega (arith, length-part c.self.inside c.args.self.now c.self.invariant c.self.view_is)
