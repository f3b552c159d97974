use Rattle.std.proofs.Common.{◌≡◌, ◌≤◌, true, length, sym, subst, ◌∙◌, rules}
use Rattle.lambda_expr.specs.CodeWords.{words_in}
use Rattle.job_language.specs.Shapes.{begins_job}
use Rattle.lambda_expr.proofs.WordList.{count_words}
use Rattle.job_language.proofs.ShapeLemmas.{reads_all, no_end}
use Rattle.job_language.proofs.shape.read_calls.Goals as goal

pub returns-then-is_last : goal.returns-then-is_last
returns-then-is_last c =
    let ws = words_in c.args.text.now in
    let start : begins_job ws ≡ true = search rules in
    let far : length ws ≤ c.loop-reader.reader.at =
    subst (λ n. n ≤ c.loop-reader.reader.at) (count_words c.args.text.now _ c.len.ensures)
    c.loop-reader-test.false in (
      reads_all ws c.loop-reader.reader start c.loop-reader.invariant far (sym c.is_last.ensures ∙ c.if-is_last.true),
      c.loop-reader.invariant.stand,
    )

pub returns : goal.returns
returns c =
    let ws = words_in c.args.text.now in
    let far : length ws ≤ c.loop-reader.reader.at =
    subst (λ n. n ≤ c.loop-reader.reader.at) (count_words c.args.text.now _ c.len.ensures)
    c.loop-reader-test.false in
    no_end ws c.loop-reader.reader c.loop-reader.invariant far (sym c.is_last.ensures ∙ c.if-is_last.false)
