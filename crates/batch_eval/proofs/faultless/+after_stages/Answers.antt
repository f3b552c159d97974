use Rattle.std.proofs.Common.{◌≡◌, ◌∷◌, rules}
use Rattle.trace.specs.Stages.{stage_of, stages_of}
use Rattle.batch_eval.proofs.FaultlessLemmas.{more_faultless, when_some}
use Rattle.batch_eval.proofs.faultless.+after_stages.Goals as goal

pub returns-in_ok-left-in-Some : goal.returns-in_ok-left-in-Some
returns-in_ok-left-in-Some t c =
    let split : c.args.stages.now ≡ c.in-Some.stage.now ∷ c.in-Some.later.now = search rules in
    rw split (when_some c.after_stages.result
    (more_faultless c.args.names (stage_of c.in-Some.stage.now) (stages_of c.in-Some.later.now)
    c.in_ok-left-in-Some.ensures) c.after_stages.ensures)
