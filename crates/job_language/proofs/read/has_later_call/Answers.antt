use Rattle.std.proofs.Common.{◌<◌, ◌≤◌, length, sym, ap, subst, ◌∙◌}
use Rattle.job_language.specs.Causes.{version_of_call}
use Rattle.job_language.proofs.JobCauseLemmas.{later_here, later_more}
use Rattle.job_language.proofs.read.has_later_call.Goals as goal

pub returns-then-version-version_of_call : goal.returns-then-version-version_of_call
returns-then-version-version_of_call c = λ ws.
    let call = c.call-item.result in
    let version = c.version_of_call.ensures
    ∙ ap (λ es. version_of_call call.operation (length es)) c.as_slice.ensures.value in
    let later = subst (λ n. c.args.version < n) version c.if-version-version_of_call.true in
    sym (c.loop-call.invariant ws ∙ later_here ws c.args.version c.args.calls.now c.loop-call.call-index call
    c.loop-call-test.true c.call-item.is later)

pub loop-call-preserved : goal.loop-call-preserved
loop-call-preserved c = λ ws.
    let call = c.call-item.result in
    let version = c.version_of_call.ensures
    ∙ ap (λ es. version_of_call call.operation (length es)) c.as_slice.ensures.value in
    let early = subst (λ n. n ≤ c.args.version) version c.if-version-version_of_call.false in
    c.loop-call.invariant ws ∙ later_more ws c.args.version c.args.calls.now c.loop-call.call-index call
    c.loop-call-test.true c.call-item.is early
