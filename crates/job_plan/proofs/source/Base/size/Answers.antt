use Rattle.std.proofs.Common.{arith}
use Rattle.trace.proofs.Sources.{length-placed}
use Rattle.job_language.specs.Jobs.{sources_of}
use Rattle.job_meaning.specs.Walks.{values_of}
use Rattle.job_plan.proofs.source.Base.size.Goals as goal

pub returns-in-Plain : goal.returns-in-Plain
returns-in-Plain c =
    let p = c.in-Plain.plain in
    let l = length-placed 0 (values_of (sources_of p.sources.now)) in
    rw c.in-Plain.is (omega (arith, l, p.measured))

pub returns-in-Put : goal.returns-in-Put
returns-in-Put c =
    let p = c.in-Put.put in
    let l = length-placed 0 (values_of (sources_of p.sources.now)) in
    rw c.in-Put.is (omega (arith, l, p.measured))
