use Rattle.std.proofs.Common.{refl, ap, ◌∙◌}
use Rattle.std.specs.Option.{option_or}
use Rattle.find_ops.proofs.DecisionLemmas.{ended}
use Rattle.find_ops.proofs.find_part.FindPart.end_with.Goals as goal

pub returns : goal.returns
returns c = record {
  stands = λ d n env t s. ended d n env c.args.self
      (record { decision = c.or.result; otherwise = c.args.self.otherwise }) t c.args.end s
      (c.or.ensures ∙ ap (option_or c.args.self.decision) c.decision_at.ensures) refl;
}
