use Rattle.std.proofs.Common.{rules, ◌≡◌, ◌∙◌, ℤ, Ok, FitsSigned, ap, ap₂, sym, w64, to_z, of_z}
use Rattle.std.proofs.lemmas.Int.{wrapping_add_is, wrapping_sub_is, wrapping_mul_is}
use Rattle.batch_eval.specs.Batches.{going_up}
use Rattle.batch_eval.proofs.ProgressionLemmas.{all_less, all_more, all_times}
use Rattle.batch_eval.proofs.counted.Progression.then.Goals as goal

pub returns-in-Add : goal.returns-in-Add
returns-in-Add c =
    let a = c.args.self.first in
    let b = c.args.self.by in
    let y = c.args.y in
    let a_fits : FitsSigned w64 a = search rules in
    let same : to_z w64 (of_z w64 b) ≡ b = search rules in
    rw (c.in-Add.is) (λ k. ap Ok (all_more a b y k ∙ ap₂ (λ (f s : ℤ). going_up f s k)
    (sym (wrapping_add_is w64 a y a_fits c.ranges.y)) (sym same)))

pub returns-in-Subtract : goal.returns-in-Subtract
returns-in-Subtract c =
    let a = c.args.self.first in
    let b = c.args.self.by in
    let y = c.args.y in
    let a_fits : FitsSigned w64 a = search rules in
    let same : to_z w64 (of_z w64 b) ≡ b = search rules in
    rw (c.in-Subtract.is) (λ k. ap Ok (all_less a b y k ∙ ap₂ (λ (f s : ℤ). going_up f s k)
    (sym (wrapping_sub_is w64 a y a_fits c.ranges.y)) (sym same)))

pub returns-in-Multiply : goal.returns-in-Multiply
returns-in-Multiply c =
    let a = c.args.self.first in
    let b = c.args.self.by in
    let y = c.args.y in
    let a_fits : FitsSigned w64 a = search rules in
    let b_fits : FitsSigned w64 b = search rules in
    rw (c.in-Multiply.is) (λ k. ap Ok (all_times a b y k ∙ ap₂ (λ (f s : ℤ). going_up f s k)
    (sym (wrapping_mul_is w64 a y a_fits c.ranges.y)) (sym (wrapping_mul_is w64 b y b_fits c.ranges.y))))
