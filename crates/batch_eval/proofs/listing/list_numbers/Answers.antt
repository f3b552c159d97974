use Rattle.std.proofs.Common.{rules, ◌∙◌, ℤ, ◌+ℤ◌, ap, w64, to_z, of_z}
use Rattle.std.proofs.lemmas.Int.{wrapping_add-bits}
use Rattle.lambda_values.specs.Wrap.{wrap}
use Rattle.batch_eval.proofs.ProgressionLemmas.{next_up}
use Rattle.batch_eval.proofs.listing.list_numbers.Goals as goal

pub loop-lane-preserved : goal.loop-lane-preserved
loop-lane-preserved c =
    let first = to_z w64 (of_z w64 c.args.first) in
    let by = to_z w64 (of_z w64 c.args.by) in (
      wrapping_add-bits w64 c.loop-lane.number-bits (of_z w64 c.args.by) (search rules) (search rules)
          ∙ ap (λ (z : ℤ). wrap (z +ℤ by)) c.loop-lane.invariant.0 ∙ next_up first by c.loop-lane.lane,
      search rules,
    )
