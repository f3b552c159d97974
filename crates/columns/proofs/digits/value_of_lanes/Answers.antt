use Rattle.std.proofs.Common.{◌∙◌, arith, refl}
use Rattle.columns.proofs.LaneLemmas.{halves, in_one, in_two}
use Rattle.columns.proofs.digits.value_of_lanes.Goals as goal

pub returns-then-count-le8 : goal.returns-then-count-le8
returns-then-count-le8 c =
    let (digits, long, below, is, same) =
    in_one c.args.lanes c.args.count _ c.fits-lanes.0 c.fits-lanes.1 c.if-count-le8.true c.requires.digits refl in
    c.eight_digits.ensures.value digits long below is ∙ same

pub overflow_mul-result : goal.overflow_mul-result
overflow_mul-result c =
    let (digits, long, below, is, same) =
    in_two c.args.lanes c.args.count c.from.result c.from-2.result _ c.fits-lanes.0 c.fits-lanes.1
    c.requires.count.1 c.requires.digits c.from.ensures c.from-2.ensures refl in
    let h = halves _ digits long below is in
    record { fits = omega (arith, c.eight_digits-2.ensures.value _ h.0 h.2 h.4, h.6) }

pub overflow_add-result : goal.overflow_add-result
overflow_add-result c =
    let (digits, long, below, is, same) =
    in_two c.args.lanes c.args.count c.from.result c.from-2.result _ c.fits-lanes.0 c.fits-lanes.1
    c.requires.count.1 c.requires.digits c.from.ensures c.from-2.ensures refl in
    let h = halves _ digits long below is in
    record {
      fits = omega (
        arith,
        c.eight_digits-2.ensures.value _ h.0 h.2 h.4,
        c.eight_digits-3.ensures.value _ h.1 h.3 h.5,
        h.6,
        h.7,
      );
    }

pub returns : goal.returns
returns c =
    let (digits, long, below, is, same) =
    in_two c.args.lanes c.args.count c.from.result c.from-2.result _ c.fits-lanes.0 c.fits-lanes.1
    c.requires.count.1 c.requires.digits c.from.ensures c.from-2.ensures refl in
    let h = halves _ digits long below is in
    omega (arith, c.eight_digits-2.ensures.value _ h.0 h.2 h.4, c.eight_digits-3.ensures.value _ h.1 h.3 h.5, h.8, same)
