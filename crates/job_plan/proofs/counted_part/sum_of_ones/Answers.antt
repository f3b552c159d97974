use Rattle.std.proofs.Common.{◌≡◌, ◌≤◌, pos, Some, ap, ◌∙◌, arith, rules}
use Rattle.job_plan.proofs.CountLemmas.{ones_stand}
use Rattle.job_plan.proofs.counted_part.sum_of_ones.Goals as goal

pub returns-clause-stands : goal.returns-clause-stands
returns-clause-stands c = λ xs is.
    let some : 1 ≤ c.args.count = omega (arith, c.if-count-eq0.false) in
    let value : c.of.result.value ≡ Some (pos c.args.count) = c.of.ensures.stands.value ∙ ap Some (search rules) in
    ones_stand c.of.result c.args.count xs c.requires.few some c.of.ensures.op value c.of.ensures.stands.ending is
