use Rattle.std.proofs.Common.{◌≡◌, ◌+◌, ℕ, ℤ, List, arith, rules, sym, ◌∙◌, None, w64, to_z, of_z}
use Rattle.lambda_values.specs.Streams.{inner_of, run_values}
use Rattle.lambda_values.specs.declared.item.Item.{Item}
use Rattle.trace.specs.Stages.{at_place}
use Rattle.trace.proofs.Ranges.{length-at_place}
use Rattle.trace.proofs.Sources.{length-counted}
use Rattle.batch_eval.specs.Lanes.{at}
use Rattle.batch_eval.specs.Batches.{item_at, lanes, origin_at}
use Rattle.batch_eval.proofs.FewLemmas.{items_lanes, put_more}
use Rattle.batch_eval.proofs.few.put_ranges.Goals as goal

pub list_items-requires-clause-within : goal.list_items-requires-clause-within
list_items-requires-clause-within g c =
    let run = c.in-Some.run' in
    omega (arith, length-at_place c.origin_of.result (run_values run), length-counted run.first run.count)

pub list_items-requires-clause-bound : goal.list_items-requires-clause-bound
list_items-requires-clause-bound g c =
    let run = c.in-Some.run' in
    omega (
      arith,
      length-at_place c.origin_of.result (run_values run),
      length-counted run.first run.count,
      c.if-run-next.false,
    )

pub loop-items-preserved : goal.loop-items-preserved
loop-items-preserved g c =
    let inner = inner_of c.args.columns.inner.now in
    let rs = c.args.columns.registers.now in
    let n = c.loop-items.items in
    let i = c.args.places.from + n in
    let v = to_z w64 (of_z w64 (at rs i)) in
    let w = to_z w64 (of_z w64 (at rs (1024 + i))) in
    let p : at rs i ≡ v = search rules in
    let q : at rs (1024 + i) ≡ w = search rules in
    let run = c.in-Some.run' in
    let vs : List ℤ = run_values run in
    let next = c.loop-items.next in
    let size = run.count in
    let o = c.origin_of.result in
    let new : ℕ → Item = item_at None c.list_items.new.origins c.list_items.new.values in
    let here = rw (p, q) at (c.requires.kind i) ∙ c.in-Some.ensures in
    put_more inner rs c.args.places.from (origin_at c.args.places.start c.args.places.listed.now)
    (lanes c.args.first (item_at None c.args.origins.now c.args.values.now)) n next size o vs
    (item_at None c.loop-items.origins c.loop-items.values) new here c.origin_of.ensures
    (items_lanes (at_place o vs) size (λ k. new (next + k))
    (sym (length-at_place o vs ∙ length-counted run.first size)) c.list_items.ensures.items)
    c.list_items.ensures.before (omega (arith, c.if-run-next.false, c.loop-items.invariant.within))
    c.loop-items.invariant
