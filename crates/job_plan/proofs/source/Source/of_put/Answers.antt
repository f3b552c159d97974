use Rattle.std.proofs.Common.{ap, ◌∙◌}
use Rattle.job_language.specs.Jobs.{sources_of}
use Rattle.job_meaning.specs.Walks.{source_walk}
use Rattle.job_plan.proofs.LentLemmas.{long_walk, short_walk}
use Rattle.job_plan.proofs.source.Source.of_put.Goals as goal

pub returns-in-Some : goal.returns-in-Some
returns-in-Some c =
    let put = c.in-Some.put in
    c.all.ensures ∙ short_walk (sources_of put.sources.now) put.few
    ∙ ap (λ ss. source_walk (sources_of ss)) (rw c.in-Some.is at c.of.ensures.some)

pub returns-in-None : goal.returns-in-None
returns-in-None c = c.all-in-None.ensures
    ∙ long_walk (sources_of c.args.sources.now) (rw c.in-None.is at c.of.ensures.none)
