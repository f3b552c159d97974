use Rattle.std.proofs.Common.{◌+◌, refl, sym, ◌∙◌, arith}
use Rattle.trace.specs.Trace.{Trace}
use Rattle.job_routes.specs.Legs.{number_after, walk_through}
use Rattle.job_routes.proofs.MapLemmas.{same_items}
use Rattle.job_routes.proofs.RouteLemmas.{length-stages_of}
use Rattle.job_routes.proofs.SearchedLegs.{on_ok}
use Rattle.job_routes.proofs.numbered_stages.NumberedStages.pass_over.Goals as goal

pub invariant_of-self : goal.invariant_of-self
invariant_of-self c =
    let same = length-stages_of c.args.self.now.list.items in
    record { numbered = omega (arith, same, c.requires.few) }

pub returns-then-are_faultless-clause-walk : goal.returns-then-are_faultless-clause-walk
returns-then-are_faultless-clause-walk c = λ env t.
    let s = c.args.self.now in
    let calm = rw c.deref.ensures.value at (c.are_faultless.ensures c.if-are_faultless.true) in
    (calm env).0 (s.first + 1) env refl t.items t.ending ∙ sym ((calm env).0 s.first env refl t.items t.ending)

pub returns-clause-walk : goal.returns-clause-walk
returns-clause-walk c = on_ok c.push.result c.push.ensures.walk (λ h env t.
    let s = c.args.self.now in
    let u : Trace = walk_through s env t in
    h env t ∙ same_items (number_after s) env u.items u.ending)
