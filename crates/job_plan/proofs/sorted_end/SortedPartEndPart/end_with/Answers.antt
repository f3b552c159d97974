use Rattle.std.proofs.Common.{[]}
use Rattle.trace.specs.Trace.{trace}
use Rattle.sort_ops.proofs.ValueLemmas.{with_none}
use Rattle.job_plan.proofs.KeptLemmas.{sort_goes_on}
use Rattle.job_plan.proofs.sorted_end.SortedPartEndPart.end_with.Goals as goal

pub returns-clause-stands : goal.returns-clause-stands
returns-clause-stands c = λ e.
    let none = trace [] c.args.ending in
    sort_goes_on c.args.self.now c.end_with.new.self none none c.end_with.ensures e
    (λ m places is. with_none places c.args.ending)
