use Rattle.std.proofs.Common.{◌&&◌, ◌||◌, Bool, Ok, ap}
use Rattle.lambda_values.specs.declared.operator.Connective.TheVariants as connective
use Rattle.batch_eval.specs.Choices.{connected_flag, lane_passes}
use Rattle.batch_eval.specs.Lanes.{at, flag_of, is_set}
use Rattle.batch_eval.proofs.FlaggedLemmas.{set_flag}
use Rattle.batch_eval.proofs.Steps.{Reaches_same}
use Rattle.batch_eval.proofs.operands.connect.Goals as goal

pub returns-in-And : goal.returns-in-And
returns-in-And c = rw (c.in-And.is) (
    Reaches_same (λ k. Ok (flag_of (is_set (at c.args.out.now k) && is_set (flag_of (lane_passes c.args.right k)))))
    (λ k. Ok (connected_flag connective.And (at c.args.out.now k) (lane_passes c.args.right k)))
    (at c.connect_by.new.out) c.args.live c.connect_by.result
    (λ k below. ap (λ (b : Bool). Ok (flag_of (is_set (at c.args.out.now k) && b)))
    (set_flag (lane_passes c.args.right k))) c.connect_by.ensures
    )

pub returns-in-Or : goal.returns-in-Or
returns-in-Or c = rw (c.in-Or.is) (
    Reaches_same (λ k. Ok (flag_of (is_set (at c.args.out.now k) || is_set (flag_of (lane_passes c.args.right k)))))
    (λ k. Ok (connected_flag connective.Or (at c.args.out.now k) (lane_passes c.args.right k)))
    (at c.connect_by-in-Or.new.out) c.args.live c.connect_by-in-Or.result
    (λ k below. ap (λ (b : Bool). Ok (flag_of (is_set (at c.args.out.now k) || b)))
    (set_flag (lane_passes c.args.right k))) c.connect_by-in-Or.ensures
    )
