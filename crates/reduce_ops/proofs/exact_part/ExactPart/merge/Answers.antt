use Rattle.std.proofs.Common.{◌≡◌, sym, ◌∙◌, subst}
use Rattle.trace.specs.declared.item.End.TheVariants as end
use Rattle.trace.specs.Trace.{append}
use Rattle.reduce_ops.specs.declared.exact_part.ExactPart.{ExactPart}
use Rattle.reduce_ops.specs.Reaches.{AbstractReach, IsOver, IsPiece, IsReach, reach_beside, reach_in}
use Rattle.reduce_ops.proofs.ExactLemmas.{end_after, only_over, over_after, over_stays, reach_after, the_done}
use Rattle.reduce_ops.proofs.exact_part.ExactPart.merge.Goals as goal

pub returns-in_default : goal.returns-in_default
returns-in_default c = record { stands = λ a b p q. over_stays a b (only_over c.args.self a c.in_default.not-Within p) }

pub returns-in-Within-right : goal.returns-in-Within-right
returns-in-Within-right c = record {
  stands = λ a b p q.
      let l = subst (λ (x : ExactPart). IsPiece x a) c.in-Within.is p in
      let r = subst (λ (x : ExactPart). IsPiece x b) c.in-Within-right.is q in
      let done : a.ending ≡ end.Done = sym l.1 ∙ the_done c.in-Within.end c.in_default-end.not-Fault in
      let s : AbstractReach = reach_beside (reach_in c.in-Within.left) (reach_in c.in-Within-right.reach) in
      c.of_reach.ensures (append a b)
      (subst (λ (x : AbstractReach). IsReach c.beside.result x)
      (reach_after a b (reach_in c.in-Within.left) (reach_in c.in-Within-right.reach) done l.0 r.0)
      c.beside.ensures)
      (r.1 ∙ end_after a b done);
}

pub returns-in-Over : goal.returns-in-Over
returns-in-Over c = record {
  stands = λ a b p q.
      let l = subst (λ (x : ExactPart). IsPiece x a) c.in-Within.is p in
      let r : IsOver b.items = subst (λ (x : ExactPart). IsPiece x b) c.in-Over.is q in
      over_after a b (sym l.1 ∙ the_done c.in-Within.end c.in_default-end.not-Fault) r;
}
