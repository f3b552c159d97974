use Rattle.std.proofs.Common.{refl, sym, ◌∙◌}
use Rattle.trace.specs.declared.item.End.TheVariants as end
use Rattle.trace.specs.Trace.{trace}
use Rattle.find_ops.specs.Finds.{find_of}
use Rattle.find_ops.proofs.DecisionLemmas.{looked_on, open_or, settled}
use Rattle.find_ops.proofs.find_part.FindPart.look_after.Goals as goal

pub returns-then-is_some : goal.returns-then-is_some
returns-then-is_some g c = record {
  stands = λ t s. settled (find_of c.args.terminal.now) c.args.stage c.args.env.now c.args.self t
      (trace (g.I.SourceItems.items c.args.source.now) end.Done) (sym c.is_some.ensures ∙ c.if-is_some.true) s;
}

pub returns : goal.returns
returns g c =
    let p = c.args.self in
    let found = c.first_decision_after.result in
    let going = sym c.is_some.ensures ∙ c.if-is_some.false in
    record {
      stands = λ t s. looked_on (find_of c.args.terminal.now) c.args.stage c.args.env.now p
          (record { decision = found; otherwise = p.otherwise }) t (g.I.SourceItems.items c.args.source.now) s
          (c.first_decision_after.ensures ∙ sym (open_or p.decision _ going)) refl;
    }
