use Rattle.std.proofs.Common.{◌≡◌, ap, subst, sym}
use Rattle.std.proofs.Math.Bool.{Bool-set}
use Rattle.trace.specs.Trace.{Trace}
use Rattle.job_routes.specs.Legs.{end_in}
use Rattle.job_plan.specs.Parts.{keeps_items}
use Rattle.job_plan.specs.declared.part.Part.{Part}
use Rattle.job_plan.specs.declared.part_sink.PartSink.{PartSink}
use Rattle.job_plan.proofs.WalkLemmas.{taken_on}
use Rattle.job_plan.proofs.part_sink.PartSinkBatchSink.accept_run.Goals as goal

pub returns-clause-taken : goal.returns-clause-taken
returns-clause-taken g c = λ yes xs ys same took.
    let e = end_in g.K.EndBrand.last in (
      took.0,
      took.1,
      took.2,
      taken_on e g.K.EndBrand.stage g.K.EndBrand.env g.K.EndBrand.begun c.args.self.now.part c.push_run.new.self xs ys
          took.3
          (λ (t : Trace) h. c.push_run.ensures.taken yes e g.K.EndBrand.stage g.K.EndBrand.env t ys same h)
          c.push_run.ensures.kind,
    )

pub returns-clause-other : goal.returns-clause-other
returns-clause-other g c = λ left.
    let self = c.args.self.now in
    let begun = keeps_items g.K.EndBrand.begun in
    let here : (k : keeps_items self.part ≡ begun) → ◌≡◌ {A = PartSink g.row.K.Denot g.K.EndBrand}
    (record { part = self.part; last = self.last; of = self.of; kind = k }) self =
    λ k. ap (λ (j : keeps_items self.part ≡ begun).
    record { part = self.part; last = self.last; of = self.of; kind = j })
    (Bool-set (keeps_items self.part) begun k self.kind) in
    subst (λ (q : Part). (k : keeps_items q ≡ begun) → ◌≡◌ {A = PartSink g.row.K.Denot g.K.EndBrand}
    (record { part = q; last = self.last; of = self.of; kind = k }) self)
    (sym (c.push_run.ensures.other left)) here _
