use Rattle.std.proofs.Common.{◌≡◌, ap, sym, ◌∙◌, subst}
use Rattle.trace.specs.declared.item.End.TheVariants as end
use Rattle.trace.specs.Trace.{trace, append}
use Rattle.reduce_ops.specs.declared.exact_part.ExactPart.{ExactPart}
use Rattle.reduce_ops.specs.declared.exact_part.ExactPart.TheVariants as piece
use Rattle.reduce_ops.specs.Reaches.{AbstractReach, IsPiece, IsReach, reach_in, reach_of}
use Rattle.reduce_ops.proofs.ExactLemmas.{end_after, over_only, over_stays, reach_after, the_done}
use Rattle.reduce_ops.proofs.exact_part.ExactPart.push_all.Goals as goal

pub returns-in_default : goal.returns-in_default
returns-in_default c = record {
  stands = λ t xs e p.
      let q : IsPiece piece.Over t = subst (λ (x : ExactPart). IsPiece x t)
      (over_only c.args.self.now c.in_default.not-Within) p in
      subst (λ (x : ExactPart). IsPiece x (append t (trace xs end.Done)))
      (sym (over_only c.args.self.now c.in_default.not-Within)) (over_stays t (trace xs end.Done) q);
}

pub returns : goal.returns
returns c = record {
  stands = λ t xs e p.
      let l = subst (λ (x : ExactPart). IsPiece x t) c.in-Within.is p in
      let done : t.ending ≡ end.Done = sym l.1 ∙ the_done c.in-Within.end c.in_default-end.not-Fault in
      c.of_reach.ensures (append t (trace xs end.Done))
      (subst (λ (r : AbstractReach). IsReach c.reach_with.result r)
      (reach_after t (trace xs end.Done) (reach_in c.in-Within.reach) (reach_of c.args.values.now) done l.0
      (sym (ap reach_of e))) c.reach_with.ensures)
      (end_after t (trace xs end.Done) done);
}
