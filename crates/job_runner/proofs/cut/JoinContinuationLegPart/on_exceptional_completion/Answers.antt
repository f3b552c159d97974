use Rattle.std.proofs.Common.{◌≡◌, None, refl, rules}
use Rattle.job_runner.proofs.CaughtLemmas.{caught_goes, leftmost_fault}
use Rattle.job_runner.proofs.cut.JoinContinuationLegPart.on_exceptional_completion.Goals as goal

pub returns : goal.returns
returns g c =
    let run = g.S.JobLegs.run in
    let j = c.args.self in
    let f = c.in-Fault.field-0 in
    let top : j.parent ≡ None = search rules in
    record {
      goes = caught_goes run (λ x. x.found) j.cut j.parent _ refl top
          (f, leftmost_fault run (λ x. x.found) j.cut c.args.failure f c.in-Fault.is c.requires.leftmost);
    }
