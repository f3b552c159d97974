use Rattle.std.proofs.Common.{Bool, sym, ap, ◌∙◌}
use Rattle.std.specs.Prelude.{◌&&◌}
use Rattle.job_language.specs.declared.job.JobStage.{JobStage}
use Rattle.job_language.specs.Jobs.{job_stage_of, terminal_of}
use Rattle.report_merge.specs.Possible.{stage_can, terminal_can}
use Rattle.report_merge.proofs.PossibleLemmas.{at_stage, equal_true, past, past_stages, unequal, within}
use Rattle.report_merge.proofs.stage_faults.later_can.Goals as goal

pub returns-in-Some : goal.returns-in-Some
returns-in-Some c =
    c.stage_can.ensures
    ∙ ap (λ (s : JobStage). stage_can (job_stage_of s) c.args.items c.args.fault) c.in-Some.ensures.lookup.1
    ∙ sym (at_stage c.args.stages.now (terminal_of c.args.terminal.now) c.args.items c.args.place c.args.fault _
    (within _ _ c.in-Some.ensures.lookup.0))

pub returns-then-place-stages : goal.returns-then-place-stages
returns-then-place-stages c =
    let d = terminal_of c.args.terminal.now in
    c.terminal_can.ensures
    ∙ sym (ap (λ (t : Bool). t && terminal_can d c.args.items c.args.fault) (equal_true _ _ c.if-place-stages.true))
    ∙ sym (past_stages c.args.stages.now d c.args.items c.args.place c.args.fault (past _ _ c.in-None.ensures.lookup.0))

pub returns-else-place-stages : goal.returns-else-place-stages
returns-else-place-stages c =
    let d = terminal_of c.args.terminal.now in
    unequal _ _ (terminal_can d c.args.items c.args.fault) c.if-place-stages.false
    ∙ sym (past_stages c.args.stages.now d c.args.items c.args.place c.args.fault (past _ _ c.in-None.ensures.lookup.0))
