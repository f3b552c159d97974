use Rattle.std.proofs.Common.{◌++◌, ap, ◌∙◌}
use Rattle.test_completers.specs.Walks.{slice, Walked}
use Rattle.test_completers.proofs.WalkLemmas.{slices_join, clean_join, goes_of}
use Rattle.test_completers.proofs.walks.AppendContinuationItems.on_completion.Goals as goal

pub returns-in-Ok : goal.returns-in-Ok
returns-in-Ok g c =
    let xs = g.P.Planned.source in
    let cut = c.args.self.cut in record {
      goes = goes_of (Walked (λ x. x.items.items) xs) cut c.args.self.parent _ (
        c.in-Ok.ensures.items ∙ ap (λ l. l ++ c.args.right.items.items) c.requires.left.0
            ∙ ap (λ l. slice xs cut.from cut.middle ++ l) c.requires.right.0
            ∙ slices_join xs cut.from cut.middle cut.to c.args.self.ordered.0 c.args.self.ordered.1,
        clean_join xs cut.from cut.middle cut.to c.requires.left.1 c.requires.right.1,
      )
          c.args.self.side;
    }
