use Rattle.std.proofs.Common.{suc, refl, sym, ap, ◌∙◌}
use Rattle.job_language.specs.Jobs.{job_stages_of, terminal_of}
use Rattle.job_meaning.specs.Walks.{after_stages, answer_of, source_walk}
use Rattle.job_plan.proofs.MeaningLemmas.{length_job_stages}
use Rattle.job_plan.proofs.plan.JobPlan.of.Goals as goal

pub returns : goal.returns
returns c =
    let job = c.args.job in
    let stages = job.stages.items in
    record {
      ok = record {
        name = refl;
        named = c.in_ok-named.ensures;
        sources = refl;
        fallback = c.fallback_of-fallback.ensures;
        table = refl;
        answers = λ env ss.
            c.in_ok-search.ensures.answer env ss
            ∙ sym (ap (λ n. answer_of (suc n) env (terminal_of job.terminal)
            (after_stages 1 (job_stages_of stages) env (source_walk ss))) (length_job_stages stages));
      };
    }
