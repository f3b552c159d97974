use Rattle.std.proofs.Common.{◌≡◌, ◌-◌, FitsSigned, w64, unsigned_abs, Some, sym, ap, ◌∙◌, rules}
use Rattle.std.proofs.lemmas.Int.{to_z-of_z}
use Rattle.job_language.specs.Jobs.{sources_of}
use Rattle.job_meaning.specs.declared.answer.Answer.{Answer}
use Rattle.job_meaning.specs.declared.answer.Answer.TheVariants as answer
use Rattle.job_meaning.specs.Walks.{source_walk}
use Rattle.job_routes.specs.Legs.{leg_in, leg_walk, left_by_search, side_of}
use Rattle.job_plan.proofs.LentLemmas.{walk_below}
use Rattle.job_plan.proofs.given.Given.left.Goals as goal

pub returns-in-Optional-Some : goal.returns-in-Optional-Some
returns-in-Optional-Some c =
    let ss = sources_of c.args.sources.now in
    let w = c.args.leg.now.window in
    let place = c.in-Optional-Some.place in
    let there : c.args.answer ≡ answer.Optional (Some place) = search rules in
    let fits : FitsSigned w64 place = search rules in
    c.positions.ensures
    ∙ c.side_of.ensures (source_walk ss) (walk_below ss)
    ∙ ap (λ k. side_of c.args.side k (leg_walk (leg_in c.args.leg.now) (source_walk ss)))
    (c.saturating_sub-count.ensures
    ∙ ap (λ k. k - w.from) (c.unsigned_abs.ensures.value ∙ ap unsigned_abs (to_z-of_z w64 place fits)))
    ∙ sym (ap (λ (a : Answer). left_by_search c.args.side w.from a
    (leg_walk (leg_in c.args.leg.now) (source_walk ss))) there)
