use Rattle.std.proofs.Common.{◌≡◌, ◌+ℤ◌, ◌<◌, ℤ, pos, List, length, get_or, arith, rules, sym, ap, ◌∙◌, subst}
use Rattle.std.proofs.Common.{FitsSigned, w64, to_z, of_z}
use Rattle.std.proofs.lemmas.Int.{to_z-of_z}
use Rattle.lambda_values.specs.Streams.{run_or_listed}
use Rattle.trace.proofs.Sources.{counted_at, length-counted}
use Rattle.trace.proofs.Ranges.{small, sum_is, sum_fits, length-at_place, at_place_get}
use Rattle.trace.proofs.source.InnerItemsSourceItems.item_at.Goals as goal

pub overflow_cast-result : goal.overflow_cast-result
overflow_cast-result c =
    let self = c.args.self.now in
    let run = c.in-Some.run' in
    let within : c.args.position < run.count =
    omega (
      arith,
      c.requires,
      length-at_place self.origin (run_or_listed self.run self.listed.now),
      ap (λ run. length (run_or_listed run self.listed.now)) c.in-Some.is,
      length-counted run.first run.count,
    ) in
    small c.args.position run.count within run.few

pub overflow_add-result : goal.overflow_add-result
overflow_add-result c =
    let self = c.args.self.now in
    let run = c.in-Some.run' in
    let within : c.args.position < run.count =
    omega (
      arith,
      c.requires,
      length-at_place self.origin (run_or_listed self.run self.listed.now),
      ap (λ run. length (run_or_listed run self.listed.now)) c.in-Some.is,
      length-counted run.first run.count,
    ) in
    subst (FitsSigned w64) (sym (sum_is run.first c.args.position run.count run.in_range within run.few))
    (run.in_range c.args.position within)

pub returns-in-Some : goal.returns-in-Some
returns-in-Some c =
    let self = c.args.self.now in
    let run = c.in-Some.run' in
    let n = c.args.position in
    let there : n < length (run_or_listed self.run self.listed.now) =
    omega (arith, c.requires, length-at_place self.origin (run_or_listed self.run self.listed.now)) in
    let within : n < run.count = omega (
      arith,
      there,
      ap (λ run. length (run_or_listed run self.listed.now)) c.in-Some.is,
      length-counted run.first run.count,
    ) in
    let v : ℤ = to_z w64 (of_z w64 (to_z w64 (of_z w64 run.first) +ℤ to_z w64 n)) in
    at_place_get self.origin (run_or_listed self.run self.listed.now) n v v there
    (ap (λ run. get_or (run_or_listed run self.listed.now) n v) c.in-Some.is
    ∙ counted_at run.first run.count n v within ∙ sym (sum_fits run.first n run.count run.in_range within run.few))

pub bounds-self-position : goal.bounds-self-position
bounds-self-position c =
    let self = c.args.self.now in
    omega (
      arith,
      c.requires,
      length-at_place self.origin (run_or_listed self.run self.listed.now),
      ap (λ run. length (run_or_listed run self.listed.now)) c.in-None.is,
    )

pub offset_bounds-self-position : goal.offset_bounds-self-position
offset_bounds-self-position c =
    let self = c.args.self.now in
    let within : c.args.position < length self.listed.now =
    omega (
      arith,
      c.requires,
      length-at_place self.origin (run_or_listed self.run self.listed.now),
      ap (λ run. length (run_or_listed run self.listed.now)) c.in-None.is,
    ) in
    search (rules, within)

pub returns-in-None : goal.returns-in-None
returns-in-None c =
    let self = c.args.self.now in
    let n = c.args.position in
    let there : n < length (run_or_listed self.run self.listed.now) =
    omega (arith, c.requires, length-at_place self.origin (run_or_listed self.run self.listed.now)) in
    let v : ℤ = get_or self.listed.now n (pos 0) in
    let fits : FitsSigned w64 v = search rules in
    let is : run_or_listed self.run self.listed.now ≡ self.listed.now =
    ap (λ run. run_or_listed run self.listed.now) c.in-None.is in
    at_place_get self.origin (run_or_listed self.run self.listed.now) n (pos 0) (to_z w64 (of_z w64 v)) there
    (ap (λ (vs : List ℤ). get_or vs n (pos 0)) is ∙ sym (to_z-of_z w64 v fits))
