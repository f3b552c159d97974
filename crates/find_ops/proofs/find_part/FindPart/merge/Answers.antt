use Rattle.std.proofs.Common.{refl}
use Rattle.find_ops.proofs.DecisionLemmas.{merged}
use Rattle.find_ops.proofs.find_part.FindPart.merge.Goals as goal

pub returns : goal.returns
returns c = record {
  stands = λ d n env a b p q. merged d n env c.args.self c.args.right
      (record { decision = c.or.result; otherwise = c.args.self.otherwise }) a b p q c.or.ensures refl;
}
