use Rattle.std.proofs.Common.{◌≢◌, Ok, Err, sym, ap, subst, ◌∙◌, is_ok}
use Rattle.std.proofs.ResultArms.{chosen}
use Rattle.job_language.specs.declared.fault.Cause.{Cause}
use Rattle.job_language.specs.declared.fault.Cause.TheVariants.{NoMemory}
use Rattle.job_language.specs.Files.{IsNext}
use Rattle.job_language.specs.Jobs.{job_of, jobs_of}
use Rattle.job_language.proofs.FileLemmas.{jobs_push, text_same, names_after}
use Rattle.job_language.proofs.file.read_next.Goals as goal

pub returns-in_ok-push-in-Ok-clause-ok : goal.returns-in_ok-push-in-Ok-clause-ok
returns-in_ok-push-in-Ok-clause-ok c = record {
  job = job_of c.in-Ok.job;
  read = text_same c.args.version c.args.columns.now c.deref.result.now c.args.jobs.now.items c.as_slice.result.now
      c.args.text.now.text (Ok (job_of c.in-Ok.job)) c.deref.ensures.value c.as_slice.ensures c.in-Ok.ensures.ok;
  put = ap jobs_of (chosen _ _ _ _ c.push.ensures.items (ap is_ok c.in_ok-push-in-Ok.was))
      ∙ jobs_push c.args.jobs.now.items c.in-Ok.job;
}

pub returns-in_ok-push-in-Ok-clause-names : goal.returns-in_ok-push-in-Ok-clause-names
returns-in_ok-push-in-Ok-clause-names c =
    names_after c.args.jobs.now.items c.push.new.self.items c.in-Ok.job
    (chosen _ _ _ _ c.push.ensures.items (ap is_ok c.in_ok-push-in-Ok.was)) c.in-Ok.ensures.name

pub returns-in-Err-clause-refused : goal.returns-in-Err-clause-refused
returns-in-Err-clause-refused c = λ n.
    let memory : c.in-Err.cause ≢ NoMemory = λ e. n (c.at.ensures.cause ∙ e) in
    let read = text_same c.args.version c.args.columns.now c.deref.result.now c.args.jobs.now.items
    c.as_slice.result.now c.args.text.now.text (Err c.in-Err.cause) c.deref.ensures.value c.as_slice.ensures
    (c.in-Err.ensures.refused memory) in
    record {
      read = subst (λ (cause : Cause). IsNext c.args.version c.args.columns.now (jobs_of c.args.jobs.now.items)
          c.args.text.now.text (Err cause)) (sym c.at.ensures.cause) read;
      at = c.at.ensures.line memory;
    }
