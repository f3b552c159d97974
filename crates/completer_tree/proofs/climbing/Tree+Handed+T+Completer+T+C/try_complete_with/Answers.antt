use Rattle.std.proofs.Common.{ap, sym, subst}
use Rattle.std.specs.Prelude.{IfSome, IfNone}
use Rattle.pending_count.specs.Seats.{view_of, nodes_of}
use Rattle.completer_tree.specs.Trees.{RanAt, RanBy}
use Rattle.completer_tree.specs.Roots.{HasKept}
use Rattle.completer_tree.specs.Places.{place_by}
use Rattle.completer_tree.specs.Climbs.{WasHanded, WasPending}
use Rattle.pending_count.proofs.CallerLemmas.{was_pending}
use Rattle.completer_tree.proofs.ClimbLemmas.{unplaced, pending_as}
use Rattle.completer_tree.proofs.RootLemmas.{climb_kept, climb_ran}
use Rattle.completer_tree.proofs.climbing.Tree+Handed+T+Completer+T+C.try_complete_with.Goals as goal

pub returns-in-Last-clause-kept : goal.returns-in-Last-clause-kept
returns-in-Last-clause-kept g c =
    let h = c.in-Last.ensures.last in
    let k = c.in-Last.finisher.finish.kept in
    subst (λ o. IfSome o (λ p. IfSome c.climb.result.1
    (λ _. HasKept p (view_of c.args.seat) (view_of c.climb.result.0)))) (sym c.in-Some.is)
    (climb_kept (place_by k.parent k.root (g.C.Continuation.goes_to k.run)) c.climb.result.1 c.in-Some.place
    (view_of c.args.seat) (view_of c.in-Last.seat) (view_of c.climb.result.0) h.moved h.kept
    (λ e. ap view_of (c.climb.ensures.top (unplaced k.parent k.root (g.C.Continuation.goes_to k.run) e)))
    c.climb.ensures.kept)

pub returns-in-Last-clause-ran : goal.returns-in-Last-clause-ran
returns-in-Last-clause-ran g c =
    let h = c.in-Last.ensures.last in
    let k = c.in-Last.finisher.finish.kept in
    let o = place_by k.parent k.root (g.C.Continuation.goes_to k.run) in
    let counts = c.args.self.now.counts.now in
    subst (λ o. IfSome o (λ p. IfSome c.climb.result.1 (λ _. RanBy counts c.args.seat p.root))) (sym c.in-Some.is)
    (climb_ran (λ n. RanBy counts c.args.seat n) o c.climb.result.1 c.in-Some.place (λ p e. (h.moved p e).root) h.top
    h.ran
    (subst (λ a. IfSome o (λ p. IfSome c.climb.result.1 (λ _. RanAt _ _ (nodes_of counts) a p.root)))
    c.in-Last.ensures.seat.1 c.climb.ensures.ran))

pub returns-in-Pending-clause-handed : goal.returns-in-Pending-clause-handed
returns-in-Pending-clause-handed g c =
    let m = c.in-Pending.ensures.handed in
    subst (λ o. IfSome o (λ p. WasHanded c.args.self.now.counts.now p c.args.seat)) (sym c.in-Some.is)
    (record { owed = m.0; after = view_of c.in-Pending.seat; handed = m.2 })

pub returns-in-Last-clause-handed : goal.returns-in-Last-clause-handed
returns-in-Last-clause-handed g c =
    let m = c.in-Last.ensures.handed in
    subst (λ o. IfSome o (λ p. WasHanded c.args.self.now.counts.now p c.args.seat)) (sym c.in-Some.is)
    (record { owed = m.0; after = view_of c.in-Last.seat; handed = m.2 })

pub returns-in-Pending-clause-pending : goal.returns-in-Pending-clause-pending
returns-in-Pending-clause-pending g c =
    let m = c.in-Pending.ensures.handed in
    subst (λ o. IfSome o (λ _. WasPending c.args.self.now.counts.now c.args.seat c.in-Pending.seat)) (sym c.in-Some.is)
    (record {
      place = c.in-Some.place;
      before = view_of c.args.seat;
      owed = m.0;
      others = (was_pending m.0 _ m.1 m.2.some_owed).0;
      handed = m.2;
    })

pub returns-in-Last-clause-pending : goal.returns-in-Last-clause-pending
returns-in-Last-clause-pending g c =
    subst (λ o. IfSome o (λ _. IfNone c.climb.result.1
    (WasPending c.args.self.now.counts.now c.args.seat c.climb.result.0))) (sym c.in-Some.is)
    (pending_as c.climb.result.1 c.args.self.now.counts.now c.args.seat c.in-Last.seat c.climb.result.0
    c.in-Last.ensures.seat.1 c.climb.ensures.pending)
