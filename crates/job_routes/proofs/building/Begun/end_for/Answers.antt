use Rattle.std.proofs.Common.{◌≡◌, length, true, refl, sym, ap, ◌∙◌, rules}
use Rattle.trace.specs.Stages.{stages_of}
use Rattle.batch_eval.specs.Faultless.{AreFaultless}
use Rattle.job_routes.specs.Building.{begun_walk}
use Rattle.job_routes.specs.Legs.{AbstractEnd, ended}
use Rattle.job_routes.proofs.BuiltLemmas.{first_found}
use Rattle.job_routes.proofs.RouteLemmas.{no_items}
use Rattle.job_routes.proofs.building.Begun.end_for.Goals as goal

pub returns-then-is_clean : goal.returns-then-is_clean
returns-then-is_clean c = λ n env ss.
    let b = c.args.self.now in
    let none : length b.links.items ≡ 0 = search rules in
    let calm : AreFaultless true (stages_of b.stages.list.items) =
    rw c.deref.ensures.value at (c.if-are_faultless.ensures refl) in
    let first : c.keeps_first.result ≡ true = search rules in
    first_found b (no_items b.links.items none) calm (c.is_clean.ensures c.if-is_clean.true) n env ss
    ∙ ap (λ (e : AbstractEnd). ended e n env (begun_walk b env ss)) (sym (c.keeps_first.ensures first))
