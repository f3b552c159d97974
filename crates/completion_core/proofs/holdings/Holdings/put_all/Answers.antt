use Rattle.std.proofs.Common.{◌≡◌, ℕ, ◌<◌, length, get_or, take, ap, subst, arith}
use Rattle.completion_core.specs.Holdings.{held, place}
use Rattle.completion_core.proofs.HoldingLemmas.{each_place-more, each_place-self, each_place-next}
use Rattle.completion_core.proofs.holdings.Holdings.put_all.Goals as goal

pub put-requires-clause-fits : goal.put-requires-clause-fits
put-requires-clause-fits c =
    let p : ℕ = c.loop-node.node-index in
    let same = c.as_slice-node-items.ensures.same in
    let inside : p < length c.args.nodes.now = subst (λ l. p < length l) same c.loop-node-test.true in
    let x : ℕ = get_or c.args.nodes.now p 0 in
    let there : get_or c.as_slice-node-items.result.now p 0 ≡ x = ap (λ l. get_or l p 0) same in
    let now_held = ap (held c.loop-node.self c.args.actor) there in
    let so_far = c.loop-node.invariant.0 c.args.actor x in
    let mine = each_place-self c.args.actor (take p c.args.nodes.now) x in
    let more = each_place-next c.args.actor c.args.nodes.now p inside in
    let bound = c.requires.fits x in
    omega arith

pub loop-node-preserved : goal.loop-node-preserved
loop-node-preserved c =
    let p : ℕ = c.loop-node.node-index in
    let same = c.as_slice-node-items.ensures.same in
    let inside : p < length c.args.nodes.now = subst (λ l. p < length l) same c.loop-node-test.true in
    let there : get_or c.as_slice-node-items.result.now p 0 ≡ get_or c.args.nodes.now p 0 =
    ap (λ l. get_or l p 0) same in (
      λ a i.
          let now_placed = ap (λ x. place c.args.actor x 1 a i) there in
          let so_far = c.loop-node.invariant.0 a i in
          let step = c.put.ensures.held a i in
          let more = each_place-more c.args.actor c.args.nodes.now p inside a i in
          omega arith,
      let so_far = c.loop-node.invariant.1 in let step = c.put.ensures.room in omega arith,
    )
