use Rattle.std.proofs.Common.{◌∷◌, drop, ◌∙◌}
use Rattle.lambda_expr.specs.CodeWords.{words_in}
use Rattle.job_language.specs.Shapes.{begins_job}
use Rattle.job_language.proofs.WordLists.{begins_two}
use Rattle.job_language.proofs.shape.begins_job.Goals as goal

pub returns : goal.returns
returns c =
    let ws = words_in c.args.text.now in
    c.is_begin.ensures (drop 2 ws) ∙ (λ i. begins_job
    (c.word_at.ensures.word i ∷ c.word_at-2.ensures.word i ∷ drop 2 ws)) ∙ begins_two ws
