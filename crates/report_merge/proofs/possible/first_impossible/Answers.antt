use Rattle.std.proofs.Common.{◌≡◌, ◌<◌, ◌≤◌, drop, get_or, length, List, subst, sym, take, true, ◌∙◌}
use Rattle.std.proofs.lemmas.List.{drop_all}
use Rattle.job_language.specs.Jobs.{job_of, jobs_of}
use Rattle.job_meaning.specs.declared.answer.Answer.{Answer}
use Rattle.report_merge.specs.Possible.{can_answer, named_answers}
use Rattle.report_merge.proofs.PossibleLemmas.{next_answer, no_more_answers}
use Rattle.report_merge.proofs.possible.first_impossible.Goals as goal

pub returns-then-place-answers : goal.returns-then-place-answers
returns-then-place-answers c =
    let ls = c.args.part.now.answers.items in
    let n = c.loop-place.place in
    let over = subst (λ (bs : List Answer). length bs ≤ n) c.as_slice-answers.ensures.value c.if-place-answers.true in
    no_more_answers (jobs_of (drop n c.args.jobs.now)) n c.args.part.now.rows _ (drop n ls) _ (drop_all n ls over)
    c.loop-place.invariant

pub loop-place-preserved : goal.loop-place-preserved
loop-place-preserved c =
    let js = c.args.jobs.now in
    let ls = c.args.part.now.answers.items in
    let n = c.loop-place.place in
    let rows = c.args.part.now.rows in
    let job = c.index-jobs-place.result in
    let a = c.index-answers-place.result in
    let value = c.as_slice-answers.ensures.value in
    let there : n < length ls = subst (λ (bs : List Answer). n < length bs) value c.if-place-answers.false in
    let answer_is : a ≡ get_or ls n a = subst (λ (bs : List Answer). a ≡ get_or bs n a) value
    c.index-answers-place.is in
    let can : can_answer (named_answers (jobs_of (take n js)) (take n ls)) (job_of job) rows a ≡ true =
    subst (λ (bs : List Answer). can_answer (named_answers (jobs_of (take n js)) (take n bs)) (job_of job) rows a
    ≡ true) value (sym c.in_ok-can_answer.ensures ∙ c.if-not-branch.false) in
    next_answer js ls n rows job a c.loop-place-test.true there c.index-jobs-place.is answer_is _ can
    c.loop-place.invariant
