use Rattle.std.proofs.Common.{◌+◌, ◌++◌, Ok, Err, sym, ap, ◌∙◌, rules}
use Rattle.std.proofs.lemmas.Result.{err_from_is_err_and}
use Rattle.trace.specs.Cover.{placed}
use Rattle.batch_eval.specs.BatchItems.{batch_items}
use Rattle.job_language.specs.Jobs.{sources_of}
use Rattle.prefix_walks.specs.Pieces.{elements}
use Rattle.job_meaning.specs.Walks.{values_of}
use Rattle.prefix_walks.proofs.Elements.{elements_none}
use Rattle.prefix_walks.proofs.FeedLemmas.{fed_none, fed_both, fed_stopped}
use Rattle.job_plan.proofs.LentLemmas.{first_part}
use Rattle.job_routes.proofs.RouteLemmas.{no_items}
use Rattle.job_plan.proofs.source.+feed_plain.Goals as goal

pub returns-in-None-clause-fed : goal.returns-in-None-clause-fed
returns-in-None-clause-fed g t c = λ xs took.
    let none = no_items c.args.sources.now c.in-None.ensures.cases in
    fed_none g.S.LongSink.has_taken c.args.line xs
    (elements c.args.window.from c.args.window.to
    (placed c.args.origin (values_of (sources_of c.args.sources.now)))) c.args.sink.now
    (ap (λ ss. elements c.args.window.from c.args.window.to (placed c.args.origin (values_of (sources_of ss)))) none
    ∙ elements_none c.args.window.from c.args.window.to) took

pub returns-in_default-clause-fed : goal.returns-in_default-clause-fed
returns-in_default-clause-fed g t c = λ xs took.
    let parts = first_part c.args.sources.now c.in-Some.source.now c.in-Some.later.now _ c.args.origin
    c.args.window.from c.args.window.to c.plain_size-size.result c.within-start.result.0 c.within-start.result.1
    (search rules) c.requires.few c.plain_size-size.ensures c.within-start.ensures.start
    c.within-start.ensures.count c.items_of-items.ensures in
    fed_stopped g.S.LongSink.has_taken c.args.line xs _ _ _ (Ok c.in_ok-stopped-in-Some.stopped) c.feed_batches.new.sink
    parts (λ e. c.in_default.not-More cc) (c.in_ok-stopped-in-Some.ensures.fed xs took)

pub returns-in_err-stopped-in-Some-clause-fed : goal.returns-in_err-stopped-in-Some-clause-fed
returns-in_err-stopped-in-Some-clause-fed g t c = λ xs took.
    let parts = first_part c.args.sources.now c.in-Some.source.now c.in-Some.later.now _ c.args.origin
    c.args.window.from c.args.window.to c.plain_size-size.result c.within-start.result.0 c.within-start.result.1
    (search rules) c.requires.few c.plain_size-size.ensures c.within-start.ensures.start
    c.within-start.ensures.count c.items_of-items.ensures in
    let p = err_from_is_err_and c.from_residual.result c.from_residual.ensures.1 in
    rw p.1 (fed_stopped g.S.LongSink.has_taken c.args.line xs _ _ _ (Err c.in_err-stopped-in-Some.field-0.0)
    c.feed_batches.new.sink parts (λ e. cc) (c.in_err-stopped-in-Some.ensures.fed xs took))

pub returns-in-More-clause-fed : goal.returns-in-More-clause-fed
returns-in-More-clause-fed g t c = λ xs took.
    let ys = batch_items c.items_of-items.result in
    let ts = placed (c.args.origin + c.plain_size-size.result) (values_of (sources_of c.in-Some.later.now)) in
    let left = c.after-left.ensures in
    let parts = first_part c.args.sources.now c.in-Some.source.now c.in-Some.later.now _ c.args.origin
    c.args.window.from c.args.window.to c.plain_size-size.result c.within-start.result.0 c.within-start.result.1
    (search rules) c.requires.few c.plain_size-size.ensures c.within-start.ensures.start
    c.within-start.ensures.count c.items_of-items.ensures
    ∙ (λ i. ys ++ elements (sym left.from i) (sym left.to i) ts) in
    let more = rw c.in-More.is at c.in_ok-stopped-in-Some.ensures.fed in
    fed_both g.S.LongSink.has_taken c.args.line xs ys (elements c.after-left.result.from c.after-left.result.to ts) _
    c.feed_plain.result c.feed_batches.new.sink c.feed_plain.new.sink parts (more xs took) c.feed_plain.ensures.fed
