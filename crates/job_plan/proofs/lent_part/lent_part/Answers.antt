use Rattle.std.proofs.Common.{◌≡◌, ◌<◌, false, [], length, sym, ap, subst, ◌∙◌, arith}
use Rattle.trace.specs.declared.item.End.TheVariants as end
use Rattle.trace.specs.Cover.{placed}
use Rattle.trace.proofs.Sources.{length-placed}
use Rattle.job_language.specs.Jobs.{sources_of}
use Rattle.job_meaning.specs.Walks.{values_of}
use Rattle.job_plan.specs.Bases.{base_walk}
use Rattle.job_routes.specs.Legs.{number_after}
use Rattle.job_plan.specs.Parts.{walk_in}
use Rattle.trace.specs.Stages.{stages_of}
use Rattle.trace.specs.Trace.{trace, nothing, append}
use Rattle.batch_eval.specs.Faultless.{AreFaultless, left_by}
use Rattle.prefix_walks.specs.Pieces.{elements, piece_of}
use Rattle.prefix_walks.specs.Scans.{scan, scan_append}
use Rattle.job_plan.proofs.LentLemmas.{lent_stands, piece_again}
use Rattle.job_plan.proofs.lent_part.lent_part.Goals as goal

pub returns-clause-stands : goal.returns-clause-stands
returns-clause-stands c = λ env.
    let s = c.args.segment.now in
    let p = c.in-Prefix.prefix in
    let gs = stages_of s.stages.list.items in
    let t = walk_in c.args.source.now in
    let from = c.args.window.from in
    let to = c.args.window.to in
    let same : c.in-Some.cheap.stages.now ≡ s.stages.list.items = c.in-Some.ensures ∙ c.deref.ensures.value in
    let plain : AreFaultless false gs = subst (λ ss. AreFaultless false (stages_of ss)) same c.in-Some.cheap.cheap in
    let n = number_after s.stages in
    let none : c.none-part.result ≡ scan p.op p.range n nothing =
    c.none-part.ensures ∙ ap (λ m. scan p.op p.range m nothing) c.next.ensures in
    let plain_walk = c.in-Plain.plain in
    let vs = values_of (sources_of plain_walk.sources.now) in
    let l = length-placed 0 vs in
    let few : length (placed 0 vs) < 18446744073709551616 = omega (arith, l, plain_walk.few) in
    let w = c.args.source.now.window in
    let here = ap (λ b. elements from to (elements w.from w.to (base_walk b).items)) c.in-Plain.is
    ∙ c.within-selected.ensures (placed 0 vs) few in
    let pushed : c.push_sources.new.part
    ≡ scan p.op p.range n (append nothing (trace (left_by gs (elements from to t.items)) end.Done)) =
    c.in_ok-push_sources.ensures ∙ (λ j. scan_append (none j)
    (trace (left_by (stages_of (same j)) (sym here j)) end.Done)) in
    let whole : c.end_with.new.self ≡ scan p.op p.range n
    (trace (left_by gs (piece_of from to t).items) (piece_of from to t).ending) =
    c.end_with.ensures ∙ (λ j. scan_append (pushed j) (trace [] c.piece_end.result))
    ∙ ap (scan p.op p.range n) (piece_again gs from to t c.piece_end.result c.piece_end.ensures) in
    lent_stands s p c.end_with.new.self (piece_of from to t) env c.in-Prefix.is plain whole
