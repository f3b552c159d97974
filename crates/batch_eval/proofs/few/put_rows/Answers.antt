use Rattle.std.proofs.Common.{◌≡◌, ◌+◌, ◌-◌, ◌*◌, ◌/◌, ℕ, ap, arith, ◌∙◌, None, subst, sym}
use Rattle.lambda_values.specs.Streams.{inner_of}
use Rattle.lambda_values.specs.declared.item.Item.{Item}
use Rattle.batch_eval.specs.Lanes.{at}
use Rattle.batch_eval.specs.Batches.{item_at, lanes, origin_at}
use Rattle.batch_eval.specs.InnerColumns.{ArePut, row}
use Rattle.batch_eval.proofs.FewLemmas.{put_more, row_lanes, space_more}
use Rattle.batch_eval.proofs.Walks.{lanes_same}
use Rattle.batch_eval.proofs.few.put_rows.Goals as goal

pub loop-item-preserved : goal.loop-item-preserved
loop-item-preserved g c =
    let inner = inner_of c.args.columns.inner.now in
    let rs = c.args.columns.registers.now in
    let n = c.loop-item.item in
    let lane = c.args.places.from + n in
    let next = c.args.first + n * c.args.operands in
    let o = c.origin_of.result in
    let items = rw c.known-width.ensures at c.list_row.ensures.items in
    let earlier = rw c.known-width.ensures at c.list_row.ensures.before in
    let new : ℕ → Item = item_at None c.list_row.new.origins c.list_row.new.values in
    let held : ℕ → Item = λ k. record { origin = o; value = at rs (k * 1024 + lane) } in
    let place : ℕ → ℕ = origin_at c.args.places.start c.args.places.listed.now in
    let before = lanes c.args.first (item_at None c.args.origins.now c.args.values.now) in
    let on : next + c.args.operands ≡ c.args.first + (n + 1) * c.args.operands = grind (arith) in
    let width = ap (λ (m : ℕ). (1024 - c.args.first) / m) c.known-width.ensures in
    let space = space_more c.args.operands (1024 - c.args.first) n c.min-items.result c.requires.some (omega arith)
    (omega (arith, width)) in
    subst (λ (m : ℕ). ArePut inner rs c.args.places.from place before (n + 1) m new) on
    (put_more inner rs c.args.places.from place before n next c.args.operands o (row rs lane c.args.operands)
    (item_at None c.loop-item.origins c.loop-item.values) new (c.requires.kind lane) c.origin_of.ensures
    (row_lanes o rs lane c.args.operands
    ∙ lanes_same c.args.operands held (λ k. new (next + k)) (λ k below. sym (items k below))) earlier
    (omega (arith, space, c.requires.first)) c.loop-item.invariant)
