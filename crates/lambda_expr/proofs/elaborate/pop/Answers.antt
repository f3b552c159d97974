use Rattle.std.proofs.Common.{◌≡◌, [], ◌∷◌, ◌++◌, rules}
use Rattle.lambda_expr.proofs.ElaborateLemmas.{popped}
use Rattle.lambda_expr.proofs.elaborate.pop.Goals as goal

pub returns-in-Some : goal.returns-in-Some
returns-in-Some c = λ ts h.
    let is : c.args.stack.now.items ≡ c.pop.new.self.items ++ c.in-Some.operand ∷ [] = search rules in
    popped c.args.stack.now.items c.pop.new.self.items c.in-Some.operand ts is h
