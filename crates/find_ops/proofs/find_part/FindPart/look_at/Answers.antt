use Rattle.std.proofs.Common.{refl, sym, ap, ◌∙◌}
use Rattle.find_ops.specs.Finds.{find_of, decision}
use Rattle.std.specs.Option.{option_or}
use Rattle.find_ops.proofs.DecisionLemmas.{looked}
use Rattle.find_ops.proofs.find_part.FindPart.look_at.Goals as goal

pub returns-in-Some : goal.returns-in-Some
returns-in-Some c =
    let d = find_of c.args.terminal.now in
    let n = c.args.stage in
    let env = c.args.env.now in
    let x = c.args.item in
    let same = c.in-Some.is ∙ sym (ap (λ o. option_or o (decision d n env x)) c.in-Some.is) in
    record { stands = λ t s. looked d n env c.args.self c.args.self t x s same refl }

pub returns-in-None : goal.returns-in-None
returns-in-None c =
    let d = find_of c.args.terminal.now in
    let n = c.args.stage in
    let env = c.args.env.now in
    let x = c.args.item in
    let same = c.decision.ensures ∙ sym (ap (λ o. option_or o (decision d n env x)) c.in-None.is) in
    record {
      stands = λ t s. looked d n env c.args.self
          (record { decision = c.decision.result; otherwise = c.args.self.otherwise }) t x s same refl;
    }
