use Rattle.std.proofs.Common.{◌≤◌, ◌+◌, drop, length, sym, ap, ◌∙◌, arith}
use Rattle.std.specs.Option.{option_or}
use Rattle.find_ops.specs.Finds.{find_of, first_decision}
use Rattle.find_ops.proofs.DecisionLemmas.{decided_later, later_step, none_later}
use Rattle.find_ops.proofs.terminal.FindTerminal.first_decision_after.Goals as goal

pub loop-next-init : goal.loop-next-init
loop-next-init g c = decided_later (find_of c.args.self.now) c.args.stage c.args.env.now
    (g.I.SourceItems.items c.args.source.now) c.args.position c.requires.undecided

pub returns-in-Some : goal.returns-in-Some
returns-in-Some g c =
    let d = find_of c.args.self.now in
    let n = c.args.stage in
    let env = c.args.env.now in
    let xs = g.I.SourceItems.items c.args.source.now in
    let next = c.loop-next.next in
    let later = first_decision d n env (drop (next + 1) xs) in
    sym (ap (λ o. option_or o later) (sym c.decision.ensures ∙ c.in-Some.is))
    ∙ sym (later_step d n env xs next c.item_at.result c.item_at.ensures) ∙ c.loop-next.invariant

pub loop-next-preserved : goal.loop-next-preserved
loop-next-preserved g c =
    let d = find_of c.args.self.now in
    let n = c.args.stage in
    let env = c.args.env.now in
    let xs = g.I.SourceItems.items c.args.source.now in
    let next = c.loop-next.next in
    let later = first_decision d n env (drop (next + 1) xs) in
    sym (ap (λ o. option_or o later) (sym c.decision.ensures ∙ c.in_default.is))
    ∙ sym (later_step d n env xs next c.item_at.result c.item_at.ensures) ∙ c.loop-next.invariant

pub returns : goal.returns
returns g c =
    let xs = g.I.SourceItems.items c.args.source.now in
    let past : length xs ≤ c.loop-next.next = omega (arith, c.loop-next-test.false, c.count-next-end.ensures) in
    sym (none_later (find_of c.args.self.now) c.args.stage c.args.env.now xs c.loop-next.next past)
    ∙ c.loop-next.invariant
