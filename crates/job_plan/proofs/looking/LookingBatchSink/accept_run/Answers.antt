use Rattle.std.proofs.Common.{true≢false, sym, ◌∙◌}
use Rattle.job_plan.proofs.LookLemmas.{inner_flow, inner_wants, not_left, still_taken, unless_left}
use Rattle.job_plan.proofs.looking.LookingBatchSink.accept_run.Goals as goal

pub accept_run-requires : goal.accept_run-requires
accept_run-requires g c = record {
  wants =
      inner_wants c.args.self.now.has_left (g.S.LongSink.flow c.args.self.now.inner) c.requires.wants;
}

pub returns-clause-taken : goal.returns-clause-taken
returns-clause-taken g c = λ yes xs ys same looked.
    let h = g.S.LongSink.has_taken in
    let decides = g.P.StartBrand.decides in
    let from = g.P.StartBrand.from in
    let self = c.args.self.now in
    let stays = not_left self.has_left (g.S.LongSink.flow self.inner) c.requires.wants in
    let took = c.accept_run.ensures.taken yes xs ys same
    (still_taken decides from (h self.inner xs) self.has_left stays looked.2) in (
      looked.0,
      looked.1,
      unless_left decides from (h c.accept_run.new.self _) self.has_left
          (λ e. absurd (true≢false (sym e ∙ stays))) took,
    )

pub returns-clause-flow : goal.returns-clause-flow
returns-clause-flow g c =
    let self = c.args.self.now in
    inner_flow self.has_left (g.S.LongSink.flow c.accept_run.new.self)
    (not_left self.has_left (g.S.LongSink.flow self.inner) c.requires.wants) ∙ c.accept_run.ensures.flow
