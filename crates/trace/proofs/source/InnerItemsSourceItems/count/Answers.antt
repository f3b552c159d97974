use Rattle.std.proofs.Common.{length, sym, ap, ◌∙◌}
use Rattle.lambda_values.specs.Streams.{run_or_listed}
use Rattle.trace.proofs.Sources.{length-counted}
use Rattle.trace.proofs.Ranges.{length-at_place}
use Rattle.trace.proofs.source.InnerItemsSourceItems.count.Goals as goal

pub returns-in-Some : goal.returns-in-Some
returns-in-Some c =
    let self = c.args.self.now in
    sym (length-at_place self.origin (run_or_listed self.run self.listed.now)
    ∙ ap (λ run. length (run_or_listed run self.listed.now)) c.in-Some.is
    ∙ length-counted c.in-Some.run'.first c.in-Some.run'.count)

pub returns-in-None : goal.returns-in-None
returns-in-None c =
    let self = c.args.self.now in
    sym (length-at_place self.origin (run_or_listed self.run self.listed.now)
    ∙ ap (λ run. length (run_or_listed run self.listed.now)) c.in-None.is)
