use Rattle.std.proofs.Common.{ap}
use Rattle.job_meaning.specs.declared.answer.Answer.TheVariants as answer
use Rattle.merge_run.proofs.ObjectLemmas.{none_said}
use Rattle.merge_run.proofs.objects.take_optional.Goals as goal

pub returns-in-Some-clause-complete : goal.returns-in-Some-clause-complete
returns-in-Some-clause-complete c = λ o rest fits same.
    let left = none_said o rest c.in-Some.rest.now c.args.bytes.now fits c.in-Some.ensures same in
    (ap answer.Optional left.0, left.1)
