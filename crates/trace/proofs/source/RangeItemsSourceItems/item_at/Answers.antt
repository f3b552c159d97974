use Rattle.std.proofs.Common.{◌+◌, ◌<◌, ◌≤◌, ◌^◌, sym, ◌∙◌, ap, subst, FitsSigned, w64, ℤ, Some, arith}
use Rattle.trace.specs.Cover.{counted}
use Rattle.lambda_values.specs.declared.item.Item.{Item}
use Rattle.trace.proofs.Ranges.{small, sum_is, sum_fits, counted_get}
use Rattle.trace.proofs.Sources.{length-counted, length-placed}
use Rattle.trace.proofs.source.RangeItemsSourceItems.item_at.Goals as goal

pub overflow_add-result : goal.overflow_add-result
overflow_add-result c =
    let self = c.args.self.now in
    let within : c.args.position < self.count =
    rw (length-placed self.origin (counted self.first self.count), length-counted self.first self.count) at
    c.requires in
    omega (arith, within, self.few)

pub overflow_cast-result : goal.overflow_cast-result
overflow_cast-result c =
    let self = c.args.self.now in
    let within : c.args.position < self.count =
    rw (length-placed self.origin (counted self.first self.count), length-counted self.first self.count) at
    c.requires in
    small c.args.position self.count within (omega (arith, self.few))

pub overflow_add-result-2 : goal.overflow_add-result-2
overflow_add-result-2 c =
    let self = c.args.self.now in
    let within : c.args.position < self.count =
    rw (length-placed self.origin (counted self.first self.count), length-counted self.first self.count) at
    c.requires in
    let few : self.count ≤ 2 ^ 62 = omega (arith, self.few) in
    subst (FitsSigned w64) (sym (sum_is self.first c.args.position self.count self.in_range within few))
    (self.in_range c.args.position within)

pub returns : goal.returns
returns c =
    let self = c.args.self.now in
    let within : c.args.position < self.count =
    rw (length-placed self.origin (counted self.first self.count), length-counted self.first self.count) at
    c.requires in
    let few : self.count ≤ 2 ^ 62 = omega (arith, self.few) in
    counted_get self.origin self.first self.count c.args.position within
    ∙ ap (λ (z : ℤ). let x : Item = record { origin = self.origin + c.args.position; value = z } in Some x)
    (sym (sum_fits self.first c.args.position self.count self.in_range within few))
