use Rattle.std.proofs.Common.{ap, sym, ◌∙◌, subst}
use Rattle.pending_count.proofs.CallerLemmas.{was_last}
use Rattle.pending_count.specs.declared.place.Side.TheVariants.{Left, Right}
use Rattle.completer_tree.proofs.ClimbLemmas.{placed, not_whole, on_held, on_side, on_tag, ran_last}
use Rattle.completer_tree.proofs.RootLemmas.{next_leads, next_rooted, moved_there, kept_here, at_top}
use Rattle.completer_tree.proofs.climbing.Tree+Handed+T+Completer+T+C.first_complete.Goals as goal

pub returns-in-Last-clause-last : goal.returns-in-Last-clause-last
returns-in-Last-clause-last g c =
    let l = c.in-Last.ensures.closed in
    let m = c.in-Last.ensures.handed in
    let k = c.in-Last.finish.kept in
    let can = c.requires.can in record {
      can = record {
        table = c.in-Last.ensures.seat.0 ∙ can.table;
        left = subst (λ t. g.T.PartValue.fits t Left c.in-Last.finish.left) (sym l.5.same_tag) l.3;
        right = subst (λ t. g.T.PartValue.fits t Right c.in-Last.finish.right) (sym l.5.same_tag) l.4;
        next = λ p e.
            let q = placed k.parent k.root (g.C.Continuation.goes_to k.run) p e in record {
              table = c.in-Last.ensures.seat.0 ∙ can.table;
              held = on_held _ _ _ _ _ _ _ _ _ _ _ l.2 l.5 p e;
              side = (on_side _ _ _ _ _ _ _ _ _ _ _ l.2 l.5 p e, λ w. not_whole q.0.1 (sym (ap (λ z. z.side) q.2) ∙ w));
              tag = on_tag _ _ _ _ _ _ _ _ _ _ _ l.2 l.5 p e;
              leads = next_leads _ _ _ c.args.at _ _ _ _ _ _ l.2 l.5 can.leads can.rooted can.held can.side.0 p e;
              rooted = next_rooted _ _ _ c.args.at _ _ _ _ _ _ l.2 l.5 can.leads can.rooted can.held can.side.0 p e;
            };
      };
      tag = l.5.same_tag;
      moved = λ p e. moved_there _ _ _ c.args.at _ _ _ _ _ _ l.2 l.5 can.leads can.rooted can.held can.side.0 p e;
      kept = λ e. kept_here _ _ _ c.args.at _ _ _ _ _ _ l.2 l.5 can.leads can.rooted can.held can.side.0 e;
      ran = ran_last _ _ _ _ _ _ m.0 (was_last m.0 m.1 m.2.some_owed) m.2;
      top = λ e. at_top _ _ _ c.args.at _ _ _ _ _ _ l.2 l.5 can.leads can.rooted can.held can.side.0 e;
    }
