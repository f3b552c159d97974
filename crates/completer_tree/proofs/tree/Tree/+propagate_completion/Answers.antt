use Rattle.std.proofs.Common.{◌≡◌, ◌+◌, ◌∷◌, length, sym, ap, ◌∙◌, subst, arith}
use Rattle.pending_count.specs.Seats.{Content, view_of, actor_of, nodes_of}
use Rattle.pending_count.proofs.CallerLemmas.{was_last}
use Rattle.completer_tree.specs.Paths.{IsPath, Propagates}
use Rattle.completer_tree.proofs.PathLemmas.{next_path, goes_on}
use Rattle.completer_tree.proofs.tree.Tree.+propagate_completion.Goals as goal

pub propagate_completion-seat-requires : goal.propagate_completion-seat-requires
propagate_completion-seat-requires g t c κs within =
    let is : c.args.path.now ≡ c.in-Some.field-0-0.now ∷ c.in-Some.rest.now = c.in-Some.ensures.cases.0 in
    let m = c.in-Last.ensures.arrived in
    let path = subst (λ l. IsPath l (view_of c.args.seat)) is c.requires.path in
    let shorter = ap length is in
    let d = c.decreases in (
      omega arith,
      (
        within.0,
        (
          within.1.0,
          (
            within.1.1,
            (
              c.in-Last.ensures.seat.0 ∙ c.requires.table,
              next_path c.in-Some.field-0-0.now m.0 c.in-Some.rest.now (view_of c.args.seat) (view_of c.in-Last.seat)
                  path m.2
                  (was_last m.0 m.1 m.2.some_owed),
            ),
          ),
        ),
      ),
    )

pub returns-in-Last-clause-finished : goal.returns-in-Last-clause-finished
returns-in-Last-clause-finished g t c =
    let is : c.args.path.now ≡ c.in-Some.field-0-0.now ∷ c.in-Some.rest.now = c.in-Some.ensures.cases.0 in
    let m = c.in-Last.ensures.arrived in
    let S = Content g.row.V.Denot g.row.K.Denot in
    let later = subst (λ a. Propagates S (nodes_of c.args.self.now.counts.now) a c.in-Some.rest.now
    (view_of c.in-Last.seat) (view_of c.propagate_completion-seat.result.0) c.propagate_completion-seat.result.1)
    c.in-Last.ensures.seat.1 c.propagate_completion-seat.ensures.finished in
    subst (λ l. Propagates S (nodes_of c.args.self.now.counts.now) (actor_of c.args.seat) l (view_of c.args.seat)
    (view_of c.propagate_completion-seat.result.0) (c.propagate_completion-seat.result.1 + 1)) (sym is)
    (goes_on S c.in-Some.field-0-0.now m.0 c.in-Some.rest.now (view_of c.args.seat) (view_of c.in-Last.seat)
    (view_of c.propagate_completion-seat.result.0) c.propagate_completion-seat.result.1 m.2
    (was_last m.0 m.1 m.2.some_owed) later)
