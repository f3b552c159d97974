use Rattle.std.proofs.Common.{◌≡◌, Err, rules}
use Rattle.stream_tokens.proofs.TextLemmas.{HasText-with_front, IfErr-all}
use Rattle.stream_tokens.proofs.job_text.job_texts.Goals as goal

pub returns-in_err-text-clause-memory : goal.returns-in_err-text-clause-memory
returns-in_err-text-clause-memory c =
    let answer : c.from_residual.result ≡ Err c.in_err-text.field-0.0 = search rules in
    rw answer (λ refused. rw c.loop-texts.invariant
    (HasText-with_front c.loop-texts.texts.items c.loop-texts.left (c.in_err-text.ensures.memory refused)))

pub returns-in_err-push-clause-memory : goal.returns-in_err-push-clause-memory
returns-in_err-push-clause-memory c =
    let given = rw c.in-Some.is at c.in_ok-text.ensures.gives in
    IfErr-all _ c.from_residual-in_err-push.result
    (λ fault refused. rw c.loop-texts.invariant
    (HasText-with_front c.loop-texts.texts.items c.loop-texts.left (c.in-Some.text, given.0, given.1)))
