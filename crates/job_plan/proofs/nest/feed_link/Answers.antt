use Rattle.std.proofs.Common.{[], ap, sym, subst, ◌∙◌, ℕ}
use Rattle.slice_ops.specs.Rests.{rest_of}
use Rattle.job_plan.specs.Passages.{junction_of}
use Rattle.job_plan.proofs.PassageLemmas.{begun_as, passed_first}
use Rattle.job_plan.proofs.nest.feed_link.Goals as goal

pub feed-requires-clause-begun : goal.feed-requires-clause-begun
feed-requires-clause-begun g c =
    let k = g.K.LinkBrand in
    let h = g.S.LongSink.has_taken in
    let f = g.S.LongSink.flow in
    let rest = c.of-rest.ensures ∙ c.requires.slice in
    let b = c.in_ok-new.field-0.value in
    let begun = subst (λ (s : g.row.S.Denot). h s []) (sym c.in_ok-new.ensures.ok) c.requires.begun in
    let d = rest_of c.of-rest.result in (
      ap (λ (m : ℕ). junction_of m c.args.last.next) c.next.ensures ∙ c.requires.junction,
      begun_as h f d k.begun k.junction c.of.result b rest
          (passed_first h f d k.junction c.of.result b begun c.of.ensures),
    )
