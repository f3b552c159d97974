use Rattle.std.proofs.Common.{subst, sym, arith, true, length, ◌≤◌}
use Rattle.batch_eval.specs.Batches.{laid_items}
use Rattle.batch_eval.proofs.LaneLemmas.{length_laid}
use Rattle.lambda_values.specs.Term.{truth_of}
use Rattle.slice_ops.specs.declared.rest.SliceRest.{SliceRest}
use Rattle.slice_ops.specs.Rests.{IsTested, rest_of}
use Rattle.job_plan.proofs.FrontLemmas.{is_front, laid_pass, laid_stop}
use Rattle.job_plan.proofs.fronts.tested.Goals as goal

pub returns-in-TakeWhile : goal.returns-in-TakeWhile
returns-in-TakeWhile c = λ stage.
    let l = c.args.lanes in
    let xs = laid_items l.start l.places.now l.values.now in
    let p = truth_of c.in-TakeWhile.test.now in
    let env = c.args.env.now in
    let count = c.count_passing in
    let k = count.result in
    let size = length_laid l.start l.places.now l.values.now in
    let few : k ≤ length l.values.now = count.ensures.within in
    subst (λ (r : SliceRest). IsTested (rest_of r) stage env xs k) (sym c.in-TakeWhile.is)
    (is_front p stage env xs k (omega (arith, few, size))
    (laid_pass l.start l.places.now l.values.now p env true k few count.ensures.passed)
    (λ below. laid_stop l.start l.places.now l.values.now p env k count.ensures.stop (omega (arith, below, size))))

pub returns-in-DropWhile : goal.returns-in-DropWhile
returns-in-DropWhile c = λ stage.
    let l = c.args.lanes in
    let xs = laid_items l.start l.places.now l.values.now in
    let p = truth_of c.in-DropWhile.test.now in
    let env = c.args.env.now in
    let count = c.count_passing-in-DropWhile in
    let k = count.result in
    let size = length_laid l.start l.places.now l.values.now in
    let few : k ≤ length l.values.now = count.ensures.within in
    subst (λ (r : SliceRest). IsTested (rest_of r) stage env xs k) (sym c.in-DropWhile.is)
    (is_front p stage env xs k (omega (arith, few, size))
    (laid_pass l.start l.places.now l.values.now p env true k few count.ensures.passed)
    (λ below. laid_stop l.start l.places.now l.values.now p env k count.ensures.stop (omega (arith, below, size))))
