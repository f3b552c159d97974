use Rattle.std.proofs.Common.{◌≡◌, ℕ, List, ap, ◌∙◌, sym, false}
use Rattle.job_meaning.specs.Names.{same_name}
use Rattle.report_merge.proofs.PossibleLemmas.{other_job}
use Rattle.report_merge.proofs.possible.unusable_named.Goals as goal

pub loop-place-preserved : goal.loop-place-preserved
loop-place-preserved c =
    let job = c.index-jobs-place.result in
    let name = c.args.name.now in
    let here : c.as_slice.result.now ≡ job.name = c.as_slice.ensures ∙ sym (ap (λ j. j.name) c.index-jobs-place.is) in
    let other : false ≡ same_name job.name name =
    sym c.if-eq.false ∙ c.eq.ensures ∙ ap (λ (w : List ℕ). same_name w name) here in
    other_job c.args.jobs.now c.args.answers.now c.loop-place.place job name c.loop-place-test.true c.requires
    c.index-jobs-place.is _ other c.loop-place.invariant
