use Rattle.std.proofs.Common.{◌≤◌, ◌∷◌, ◌++◌, [], length, sym, ap, subst, ◌∙◌}
use Rattle.std.specs.Prelude.{is_ok, option_map}
use Rattle.job_language.specs.Jobs.{sources_of, job_stage_of, job_stages_of, terminal_of}
use Rattle.job_language.specs.Verdicts.{added}
use Rattle.job_language.specs.Parts.{part_in, begun_of}
use Rattle.job_language.proofs.CallTurnLemmas.{few_pushed, sources_push, stages_push}
use Rattle.job_language.proofs.parts.add.Goals as goal

pub returns-in_ok-push-in-Source : goal.returns-in_ok-push-in-Source
returns-in_ok-push-in-Source c =
    let old = c.args.job.now in
    ap (λ v. record {
      name = old.name;
      sources = v;
      stages = job_stages_of old.stages.items;
      terminal = option_map terminal_of old.terminal;
      on_fault = old.on_fault;
    })
    (ap sources_of c.in_ok-push-in-Source.ensures.items ∙ sources_push old.sources.items (c.in-Source.source ∷ []))
    ∙ ap (λ p. added (begun_of old) (part_in p)) (sym c.in-Source.is)

pub returns-in_ok-push-in-Stage : goal.returns-in_ok-push-in-Stage
returns-in_ok-push-in-Stage c =
    let old = c.args.job.now in
    ap (λ v. record {
      name = old.name;
      sources = sources_of old.sources.items;
      stages = v;
      terminal = option_map terminal_of old.terminal;
      on_fault = old.on_fault;
    })
    (ap job_stages_of c.in_ok-push-in-Stage.ensures.items ∙ stages_push old.stages.items (c.in-Stage.stage ∷ []))
    ∙ ap (λ p. added (begun_of old) (part_in p)) (sym c.in-Stage.is)

pub invariant_of-job-in-Stage : goal.invariant_of-job-in-Stage
invariant_of-job-in-Stage c =
    let old = c.args.job.now in
    let fits : length (job_stages_of old.stages.items ++ job_stage_of c.in-Stage.stage ∷ []) ≤ 32 =
    subst (λ p. length (added (begun_of old) (part_in p)).stages ≤ 32) c.in-Stage.is c.requires in
    record {
      few = few_pushed (is_ok c.push-in-Stage.result) old.stages.items c.push-in-Stage.new.self.items
          c.in-Stage.stage c.push-in-Stage.ensures.items fits old.few;
    }
