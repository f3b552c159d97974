use Rattle.std.proofs.Common.{◌≡◌, [], sym, ap, ◌∙◌}
use Rattle.trace.specs.Trace.{trace}
use Rattle.prefix_walks.specs.Kept.{kept_walk}
use Rattle.prefix_walks.specs.Pieces.{elements}
use Rattle.prefix_walks.proofs.Elements.{elements_none}
use Rattle.prefix_walks.proofs.FeedLemmas.{fed_none}
use Rattle.prefix_walks.proofs.scanned_pieces.feed_given.Goals as goal

pub returns-in-Ended-clause-fed : goal.returns-in-Ended-clause-fed
returns-in-Ended-clause-fed g c = λ xs took.
    let w = c.args.window in
    let none : c.args.given.now ≡ trace [] c.in-Ended.field-0 = sym c.given.view_is ∙ ap kept_walk c.in-Ended.is in
    fed_none g.S.LongSink.has_taken c.args.line xs (elements w.from w.to c.args.given.now.items) c.args.sink.now
    (ap (λ t. elements w.from w.to t.items) none ∙ elements_none w.from w.to) took
