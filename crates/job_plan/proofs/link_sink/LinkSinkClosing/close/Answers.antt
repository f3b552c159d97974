use Rattle.std.proofs.Common.{◌≡◌, sym, subst}
use Rattle.trace.specs.declared.sink.Flow.TheVariants as flow
use Rattle.slice_ops.specs.Rests.{rest_of}
use Rattle.job_plan.specs.Passages.{HasPassedTo, passage_flow}
use Rattle.job_plan.proofs.PassageLemmas.{closed_as, enough_as, if_ok_both}
use Rattle.job_plan.proofs.link_sink.LinkSinkClosing.close.Goals as goal

pub returns-in-Some-clause-closed : goal.returns-in-Some-clause-closed
returns-in-Some-clause-closed g c =
    let k = g.K.LinkBrand in
    let p = c.args.self.passing in
    let i = c.into_inner.result in
    let h = g.S.LongSink.has_taken in
    let f = g.S.LongSink.flow in
    let ends = rw c.in-Some.is at c.end_after.ensures in
    if_ok_both _ _ _ c.close.result
    (λ made last enough xs took.
    let here = subst (λ (s : g.row.S.Denot). HasPassedTo h f k.begun k.junction (rest_of p.rest) p.passage s xs)
    (sym c.into_inner.ensures) took.1 in
    closed_as h f k.begun k.junction (g.S.Closing.stands made) (rest_of p.rest) i xs p.passage c.args.ending
    c.in-Some.end ends here last enough)
    c.close.ensures.closed c.close.ensures.enough

pub returns-in-Some-clause-enough : goal.returns-in-Some-clause-enough
returns-in-Some-clause-enough g c =
    let k = g.K.LinkBrand in
    let p = c.args.self.passing in
    let i = c.into_inner.result in
    let h = g.S.LongSink.has_taken in
    let f = g.S.LongSink.flow in
    let ends = rw c.in-Some.is at c.end_after.ensures in
    if_ok_both _ _ _ c.close.result
    (λ made last enough wants xs later took.
    let here = subst (λ (s : g.row.S.Denot). HasPassedTo h f k.begun k.junction (rest_of p.rest) p.passage s xs)
    (sym c.into_inner.ensures) took.1 in
    let want = subst (λ (s : g.row.S.Denot). passage_flow p.passage (f s) ≡ flow.Enough) (sym c.into_inner.ensures)
    wants in
    enough_as h f k.begun k.junction (g.S.Closing.stands made) (rest_of p.rest) i xs p.passage c.args.ending
    c.in-Some.end later ends want here last enough)
    c.close.ensures.closed c.close.ensures.enough
