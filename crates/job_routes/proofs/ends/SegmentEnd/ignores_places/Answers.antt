use Rattle.std.proofs.Common.{ap, ◌∙◌}
use Rattle.find_ops.specs.Finds.{find_of, first}
use Rattle.find_ops.specs.declared.terminal.FindTerminal.{FindTerminal}
use Rattle.job_routes.specs.Legs.{collecting, end_in, finding, folding}
use Rattle.job_routes.proofs.PlaceLemmas.{array_ignores, end_ignores, first_ignores, fold_ignores}
use Rattle.job_routes.proofs.ends.SegmentEnd.ignores_places.Goals as goal

pub returns-in-Fold : goal.returns-in-Fold
returns-in-Fold c = λ yes.
    let f = c.in-Fold.field-0 in
    end_ignores (end_in c.args.self.now) (folding f.op f.start f.counts) (ap end_in c.in-Fold.is)
    (fold_ignores f.op f.start f.counts)

pub returns-in-Array : goal.returns-in-Array
returns-in-Array c = λ yes. end_ignores (end_in c.args.self.now) collecting (ap end_in c.in-Array.is) array_ignores

pub returns-in-First : goal.returns-in-First
returns-in-First c = λ yes.
    end_ignores (end_in c.args.self.now) (finding first)
    (ap end_in c.in-Find.is ∙ ap (λ (d : FindTerminal). finding (find_of d)) c.in-First.is) first_ignores
