use Rattle.std.proofs.Common.{◌+◌, ◌++◌, sym, ap, ◌∙◌, rules}
use Rattle.trace.specs.Cover.{placed}
use Rattle.trace.specs.Stages.{stages_of}
use Rattle.batch_eval.specs.BatchItems.{batch_items}
use Rattle.job_language.specs.Jobs.{sources_of}
use Rattle.batch_eval.specs.Faultless.{left_by}
use Rattle.prefix_walks.specs.Pieces.{elements}
use Rattle.job_meaning.specs.Walks.{values_of}
use Rattle.job_plan.proofs.LentLemmas.{first_part, scanned_both, scanned_none}
use Rattle.batch_eval.proofs.FaultlessLemmas.{left_both}
use Rattle.job_plan.proofs.PartLemmas.{on_ok_map}
use Rattle.job_routes.proofs.RouteLemmas.{no_items}
use Rattle.job_plan.proofs.lent_part.+push_sources.Goals as goal

pub returns-in-None : goal.returns-in-None
returns-in-None t c =
    scanned_none c.args.part.now (stages_of c.args.cheap.stages.now) c.args.window.from c.args.window.to c.args.origin
    c.args.sources.now (no_items c.args.sources.now c.in-None.ensures.cases)

pub returns-in_ok-push_lent-in-Some : goal.returns-in_ok-push_lent-in-Some
returns-in_ok-push_lent-in-Some t c =
    let ys = batch_items c.items_of-items.result in
    let ts = placed (c.args.origin + c.plain_size-size.result) (values_of (sources_of c.in-Some.later.now)) in
    let left = c.after-left.ensures in
    let zs = elements c.after-left.result.from c.after-left.result.to ts in
    let gs = stages_of c.args.cheap.stages.now in
    let parts = first_part c.args.sources.now c.in-Some.source.now c.in-Some.later.now _ c.args.origin
    c.args.window.from c.args.window.to c.plain_size-size.result c.within-start.result.0 c.within-start.result.1
    (search rules) c.requires.few c.plain_size-size.ensures c.within-start.ensures.start
    c.within-start.ensures.count c.items_of-items.ensures
    ∙ (λ i. ys ++ elements (sym left.from i) (sym left.to i) ts) in
    on_ok_map c.push_sources.result (λ later. scanned_both c.args.part.now c.push_lent.new.self c.push_sources.new.part
    (left_by gs ys) (left_by gs zs) _ c.in_ok-push_lent-in-Some.ensures later
    (ap (left_by gs) parts ∙ left_both gs c.args.cheap.cheap ys zs)) c.push_sources.ensures
