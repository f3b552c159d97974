use Rattle.std.proofs.Common.{◌≡◌, MatchResult, sym, subst}
use Rattle.completion_core.specs.declared.action.Action.{Action}
use Rattle.completion_core.specs.Steps.{IsAllowed, IsTaken, MayWant}
use Rattle.completion_core.proofs.graph.Graph.take.Goals as goal

pub arm-requires : goal.arm-requires
arm-requires c = subst (λ (a : Action). IsAllowed a c.args.self.now) c.in-Arm.is c.requires

pub add-requires : goal.add-requires
add-requires c = subst (λ (a : Action). IsAllowed a c.args.self.now) c.in-Add.is c.requires

pub give-requires : goal.give-requires
give-requires c = subst (λ (a : Action). IsAllowed a c.args.self.now) c.in-Give.is c.requires

pub arrive-requires : goal.arrive-requires
arrive-requires c = subst (λ (a : Action). IsAllowed a c.args.self.now) c.in-Arrive.is c.requires

pub run-requires : goal.run-requires
run-requires c = subst (λ (a : Action). IsAllowed a c.args.self.now) c.in-Run.is c.requires

pub settle-requires : goal.settle-requires
settle-requires c = subst (λ (a : Action). IsAllowed a c.args.self.now) c.in-Settle.is c.requires

pub returns-in-Add : goal.returns-in-Add
returns-in-Add c = subst (λ (a : Action). IsTaken a c.args.self.now c.add.new.self c.add.result) (sym c.in-Add.is)
    c.add.ensures

pub returns-in-Settle : goal.returns-in-Settle
returns-in-Settle c = subst (λ (a : Action). IsTaken a c.args.self.now c.settle.new.self c.settle.result)
    (sym c.in-Settle.is) c.settle.ensures

pub returns-in-Claim : goal.returns-in-Claim
returns-in-Claim c =
    subst (λ (a : Action). MatchResult c.claim.result (λ answer. IsTaken a c.args.self.now c.claim.new.self answer)
    (λ _. (c.claim.new.self ≡ c.args.self.now) × MayWant a c.args.self.now)) (sym c.in-Claim.is) c.claim.ensures

pub returns-in-Give : goal.returns-in-Give
returns-in-Give c =
    subst (λ (a : Action). MatchResult c.give.result (λ answer. IsTaken a c.args.self.now c.give.new.self answer)
    (λ _. (c.give.new.self ≡ c.args.self.now) × MayWant a c.args.self.now)) (sym c.in-Give.is) c.give.ensures

pub returns-in-Run : goal.returns-in-Run
returns-in-Run c =
    subst (λ (a : Action). MatchResult c.run.result (λ answer. IsTaken a c.args.self.now c.run.new.self answer)
    (λ _. (c.run.new.self ≡ c.args.self.now) × MayWant a c.args.self.now)) (sym c.in-Run.is) c.run.ensures
