use Rattle.std.proofs.Common.{List, sym, ap, subst, ◌∙◌}
use Rattle.lambda_values.specs.declared.item.Item.{Item}
use Rattle.trace.specs.declared.item.End.TheVariants as end
use Rattle.trace.specs.Sinks.{IsFed}
use Rattle.trace.specs.Trace.{trace}
use Rattle.job_plan.specs.Bases.{base_walk}
use Rattle.job_plan.specs.Parts.{walk_in}
use Rattle.prefix_walks.specs.Pieces.{elements}
use Rattle.batch_eval.specs.Pipelines.{piped}
use Rattle.prefix_walks.proofs.Elements.{elements_none}
use Rattle.prefix_walks.proofs.FeedLemmas.{fed_none}
use Rattle.job_plan.proofs.source.Source.feed.Goals as goal

pub returns-in-Plain-clause-fed : goal.returns-in-Plain-clause-fed
returns-in-Plain-clause-fed g c = λ xs took.
    let s = c.args.self.now in
    let w = c.within-window.result in
    let same = c.within-window.ensures (base_walk s.base).items s.few
    ∙ ap (λ b. elements w.from w.to (base_walk b).items) c.in-Plain.is in
    subst (λ (ys : List Item). IsFed g.S.LongSink.has_taken xs (piped c.args.line (trace ys end.Done))
    c.feed_plain.result c.feed_plain.new.sink) (sym same) (c.feed_plain.ensures.fed xs took)

pub returns-in-Put-clause-fed : goal.returns-in-Put-clause-fed
returns-in-Put-clause-fed g c = λ xs took.
    let s = c.args.self.now in
    let w = c.within-window.result in
    let same = c.within-window.ensures (base_walk s.base).items s.few
    ∙ ap (λ b. elements w.from w.to (base_walk b).items) c.in-Put.is in
    subst (λ (ys : List Item). IsFed g.S.LongSink.has_taken xs (piped c.args.line (trace ys end.Done))
    c.feed_plain-in-Put.result c.feed_plain-in-Put.new.sink) (sym same) (c.feed_plain-in-Put.ensures.fed xs took)

pub returns-in-TooLong-clause-fed : goal.returns-in-TooLong-clause-fed
returns-in-TooLong-clause-fed g c = λ xs took.
    let s = c.args.self.now in
    let none = ap (λ b. elements s.window.from s.window.to (base_walk b).items) c.in-TooLong.is
    ∙ elements_none s.window.from s.window.to in
    fed_none g.S.LongSink.has_taken c.args.line xs (elements c.args.window.from c.args.window.to (walk_in s).items)
    c.args.sink.now
    (ap (elements c.args.window.from c.args.window.to) none ∙ elements_none c.args.window.from c.args.window.to) took

pub returns-in-Given-clause-fed : goal.returns-in-Given-clause-fed
returns-in-Given-clause-fed g c = λ xs took.
    let s = c.args.self.now in
    let w = c.within-window.result in
    let same = c.within-window.ensures (base_walk s.base).items s.few
    ∙ ap (λ b. elements w.from w.to (base_walk b).items) c.in-Given.is in
    subst (λ (ys : List Item). IsFed g.S.LongSink.has_taken xs (piped c.args.line (trace ys end.Done))
    c.feed_given.result c.feed_given.new.sink) (sym same) (c.feed_given.ensures.fed xs took)
