use Rattle.std.proofs.Common.{rules}
use Rattle.stream_tokens.specs.JobTexts.{jobs_of_lines}
use Rattle.stream_tokens.specs.TextsLeft.{HasText, lines_at}
use Rattle.stream_tokens.proofs.TextLemmas.{HasText-begun, IfErr-all}
use Rattle.stream_tokens.proofs.job_text.JobTexts.next_text.Goals as goal

-- memory is taken for a job that was begun
pub returns-in_err-join_lines-in-Some-clause-memory :
    goal.returns-in_err-join_lines-in-Some-clause-memory
returns-in_err-join_lines-in-Some-clause-memory c =
    let begun = rw c.in-Some.is at c.in_ok-begun.ensures.some in
    let has : HasText c.args.self.now =
    HasText-begun c.args.self.now (jobs_of_lines (lines_at c.self.inside.lines)) c.in-Some.begun
    (lines_at c.next_begun.new.lines) (search rules) begun in
    IfErr-all _ c.from_residual-in_err-join_lines-in-Some.result (λ fault refused. has)
