use Rattle.std.proofs.Common.{ap, sym, ◌∙◌, subst, arith}
use Rattle.std.specs.Prelude.{IfSome}
use Rattle.pending_count.specs.Seats.{view_of, nodes_of}
use Rattle.pending_count.proofs.CallerLemmas.{was_pending}
use Rattle.completer_tree.specs.Trees.{RanAt, RanBy}
use Rattle.std.proofs.lemmas.Option.{IfSome_then}
use Rattle.completer_tree.specs.Roots.{HasKept}
use Rattle.completer_tree.specs.Places.{place_by}
use Rattle.completer_tree.proofs.ClimbLemmas.{placed, unplaced, lower, pending_as}
use Rattle.completer_tree.proofs.RootLemmas.{climb_kept, climb_ran}
use Rattle.completer_tree.proofs.climbing.+climb.Goals as goal

pub returns-in-Last-clause-kept : goal.returns-in-Last-clause-kept
returns-in-Last-clause-kept g t c =
    let l = c.in-Last.ensures.last in
    let h = l.2 in
    let k = c.in-Last.finisher.finish.kept in
    subst (λ o. IfSome o (λ p. IfSome c.climb.result.1
    (λ _. HasKept p (view_of c.args.seat) (view_of c.climb.result.0)))) (sym l.1)
    (climb_kept (place_by k.parent k.root (g.C.Continuation.goes_to k.run)) c.climb.result.1 l.0 (view_of c.args.seat)
    (view_of c.in-Last.seat) (view_of c.climb.result.0) h.moved h.kept
    (λ e. ap view_of (c.climb.ensures.top (unplaced k.parent k.root (g.C.Continuation.goes_to k.run) e)))
    c.climb.ensures.kept)

pub returns-in-Last-clause-ran : goal.returns-in-Last-clause-ran
returns-in-Last-clause-ran g t c =
    let h = c.in-Last.ensures.last.2 in
    let k = c.in-Last.finisher.finish.kept in
    let o = place_by k.parent k.root (g.C.Continuation.goes_to k.run) in
    let counts = c.args.tree.now.counts.now in
    subst (λ o. IfSome o (λ p. IfSome c.climb.result.1 (λ _. RanBy counts c.args.seat p.root)))
    (sym c.in-Last.ensures.last.1)
    (climb_ran (λ n. RanBy counts c.args.seat n) o c.climb.result.1 c.in-Last.ensures.last.0 (λ p e. (h.moved p e).root)
    h.top h.ran
    (subst (λ a. IfSome o (λ p. IfSome c.climb.result.1 (λ _. RanAt _ _ (nodes_of counts) a p.root)))
    c.in-Last.ensures.seat.1 c.climb.ensures.ran))

pub returns-in-Last-clause-found : goal.returns-in-Last-clause-found
returns-in-Last-clause-found g t c =
    let l = c.in-Last.ensures.last in
    let k = c.args.finisher.finish.kept in
    let q = placed k.parent k.root (g.C.Continuation.goes_to k.run) l.0 l.1 in
    IfSome_then c.climb.result.1 c.climb.ensures.found
    (λ v h. g.met.C.Continuation.leads k.run q.0 q.1 v
    (subst (λ z. g.T.PartValue.result z v) (l.2.tag ∙ ap (λ x. x.tag) q.2) h))

pub climb-requires : goal.climb-requires
climb-requires g t c κs within =
    let l = c.in-Last.ensures.last in
    let k = c.args.finisher.finish.kept in
    let next = c.in-Last.finisher.finish.kept in
    let low = lower k.parent k.root (g.C.Continuation.goes_to k.run) next.parent next.root
    (g.C.Continuation.goes_to next.run) l.0 l.1 (λ q e. (l.2.moved q e).smaller) in
    let d = c.decreases in
    (omega arith, (within.0, (within.1.0, (within.1.1.0, (within.1.1.1, l.2.can)))))

pub returns-in-Pending-clause-pending : goal.returns-in-Pending-clause-pending
returns-in-Pending-clause-pending g t c =
    let m = c.in-Pending.ensures.handed in
    record {
      place = m.0;
      before = view_of c.args.seat;
      owed = m.2;
      others = (was_pending m.2 _ m.3 m.4.some_owed).0;
      handed = m.4;
    }

pub returns-in-Last-clause-pending : goal.returns-in-Last-clause-pending
returns-in-Last-clause-pending g t c = pending_as c.climb.result.1 c.args.tree.now.counts.now c.args.seat c.in-Last.seat
    c.climb.result.0 c.in-Last.ensures.seat.1 c.climb.ensures.pending
