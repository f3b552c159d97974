use Rattle.std.proofs.Common.{length, sym, ap, ◌∙◌}
use Rattle.trace.specs.Trace.{Trace}
use Rattle.sort_ops.specs.Ranges.{joined}
use Rattle.prefix_walks.specs.declared.kept.Kept.{Kept}
use Rattle.prefix_walks.specs.Kept.{kept_walk}
use Rattle.prefix_walks.proofs.StretchLemmas.{size_of_first}
use Rattle.prefix_walks.proofs.given.GivenWalk.size.Goals as goal

pub returns-in-Sorted : goal.returns-in-Sorted
returns-in-Sorted c =
    let runs = c.in-Sorted.runs in
    sym (size_of_first runs.count (joined runs.runs.items) runs.within)
    ∙ ap (λ (k : Kept). length (kept_walk k).items) (sym c.in-Sorted.is)
    ∙ ap (λ (t : Trace). length t.items) c.self.view_is
