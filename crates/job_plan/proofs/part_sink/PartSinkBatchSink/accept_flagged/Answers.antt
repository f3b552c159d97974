use Rattle.std.proofs.Common.{refl, subst, sym}
use Rattle.trace.specs.Trace.{Trace}
use Rattle.batch_eval.specs.Batches.{holds}
use Rattle.batch_eval.specs.BatchItems.{set_in}
use Rattle.batch_eval.specs.LaneValues.{value_at}
use Rattle.batch_eval.proofs.FlaggedLemmas.{values_flagged}
use Rattle.job_plan.specs.declared.part.Part.{Part}
use Rattle.job_plan.specs.Parts.{HasTaken}
use Rattle.job_routes.specs.Legs.{end_in}
use Rattle.job_plan.proofs.WalkLemmas.{taken_on}
use Rattle.job_plan.proofs.part_sink.PartSinkBatchSink.accept_flagged.Goals as goal

pub returns-then-push_flagged-clause-fed : goal.returns-then-push_flagged-clause-fed
returns-then-push_flagged-clause-fed g c = λ xs took.
    let l = c.args.lanes in
    let e = end_in g.K.EndBrand.last in
    let items = set_in l in
    let same = values_flagged (holds l.set) l.start l.origins.now (value_at l.values) l.flags.now in (
      (
        took.0,
        took.1,
        took.2,
        taken_on e g.K.EndBrand.stage g.K.EndBrand.env g.K.EndBrand.begun c.args.self.now.part c.push_flagged.new.self
            xs items took.3
            (λ (t : Trace) h. c.push_flagged.ensures.taken c.if-push_flagged.true e g.K.EndBrand.stage g.K.EndBrand.env
            t items same h) c.push_flagged.ensures.kind,
      ),
      refl,
    )

pub returns-clause-fed : goal.returns-clause-fed
returns-clause-fed g c = λ xs took.
    let same = c.push_flagged.ensures.other c.if-push_flagged.false in
    c.accept_each_flagged.ensures.fed xs (
      took.0,
      took.1,
      took.2,
      subst (λ (p : Part). HasTaken (end_in g.K.EndBrand.last) g.K.EndBrand.stage
          g.K.EndBrand.env g.K.EndBrand.begun p xs) (sym same) took.3,
    )
