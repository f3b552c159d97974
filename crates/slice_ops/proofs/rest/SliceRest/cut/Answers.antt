use Rattle.std.proofs.Common.{ap, ◌∙◌, arith}
use Rattle.trace.specs.declared.item.End.TheVariants as end
use Rattle.trace.specs.Trace.{trace, append}
use Rattle.slice_ops.specs.declared.rest.SliceRest.{SliceRest}
use Rattle.slice_ops.specs.Rests.{rest_of}
use Rattle.slice_ops.specs.Slices.{sliced}
use Rattle.slice_ops.proofs.CutLemmas.{limit_cut, skip_cut}
use Rattle.slice_ops.proofs.rest.SliceRest.cut.Goals as goal

pub cut_after-requires : goal.cut_after-requires
cut_after-requires g c = record { front = rw c.in-TakeWhile.is at c.requires.front }

pub cut_before-requires : goal.cut_before-requires
cut_before-requires g c = record { front = rw c.in-DropWhile.is at c.requires.front }

pub returns-in-Limit-clause-passes : goal.returns-in-Limit-clause-passes
returns-in-Limit-clause-passes g c later =
    let xs = g.I.SourceItems.items c.args.source.now in
    let count = c.count-count.ensures in
    ap (λ (s : SliceRest). sliced (rest_of s) c.args.stage c.args.env.now (append (trace xs end.Done) later))
    c.in-Limit.is
    ∙ limit_cut xs later c.in-Limit.n c.min.result c.saturating_sub.result (omega (arith, count, c.min.ensures))
    (omega (arith, count, c.saturating_sub.ensures))

pub returns-in-Skip-clause-passes : goal.returns-in-Skip-clause-passes
returns-in-Skip-clause-passes g c later =
    let xs = g.I.SourceItems.items c.args.source.now in
    let count = c.count-count.ensures in
    ap (λ (s : SliceRest). sliced (rest_of s) c.args.stage c.args.env.now (append (trace xs end.Done) later))
    c.in-Skip.is
    ∙ skip_cut xs later c.in-Skip.n c.min-in-Skip.result c.count-count.result c.saturating_sub-in-Skip.result
    (omega (arith, count, c.min-in-Skip.ensures)) count (omega (arith, count, c.saturating_sub-in-Skip.ensures))

pub returns-in-TakeWhile-clause-passes : goal.returns-in-TakeWhile-clause-passes
returns-in-TakeWhile-clause-passes g c later =
    ap (λ (s : SliceRest). sliced (rest_of s) c.args.stage c.args.env.now
    (append (trace (g.I.SourceItems.items c.args.source.now) end.Done) later)) c.in-TakeWhile.is
    ∙ c.cut_after.ensures.passes later

pub returns-in-DropWhile-clause-passes : goal.returns-in-DropWhile-clause-passes
returns-in-DropWhile-clause-passes g c later =
    ap (λ (s : SliceRest). sliced (rest_of s) c.args.stage c.args.env.now
    (append (trace (g.I.SourceItems.items c.args.source.now) end.Done) later)) c.in-DropWhile.is
    ∙ c.cut_before.ensures.passes later
