use Rattle.std.proofs.Common.{[], subst, sym, ◌∙◌}
use Rattle.trace.specs.declared.item.End.TheVariants as end
use Rattle.trace.specs.Trace.{trace, append}
use Rattle.trace.proofs.JoinLemmas.{append_grouped}
use Rattle.job_plan.specs.Parts.{EndsFor}
use Rattle.job_routes.specs.Legs.{end_in}
use Rattle.job_plan.proofs.PartLemmas.{settled}
use Rattle.job_plan.proofs.closing.PartSinkClosing.close.Goals as goal

pub returns-then-is_settled-clause-closed : goal.returns-then-is_settled-clause-closed
returns-then-is_settled-clause-closed g c = λ xs took.
    let e = end_in g.K.EndBrand.last in
    let n = g.K.EndBrand.stage in
    let env = g.K.EndBrand.env in
    let p = c.args.self.part in
    let later = trace [] c.args.ending in
    let is = sym c.is_settled.ensures ∙ c.if-is_settled.true in (
      λ t h. subst (EndsFor e n env p) (append_grouped t (trace xs end.Done) later)
          (settled e n env p (append t (trace xs end.Done)) later is (took.3.0 t h)),
      took.3.1,
    )

pub returns-then-is_settled-clause-enough : goal.returns-then-is_settled-clause-enough
returns-then-is_settled-clause-enough g c = λ enough xs later took.
    let e = end_in g.K.EndBrand.last in
    let n = g.K.EndBrand.stage in
    let env = g.K.EndBrand.env in
    let p = c.args.self.part in
    let is = sym c.is_settled.ensures ∙ c.if-is_settled.true in (
      λ t h. subst (EndsFor e n env p) (append_grouped t (trace xs end.Done) later)
          (settled e n env p (append t (trace xs end.Done)) later is (took.3.0 t h)),
      took.3.1,
    )
