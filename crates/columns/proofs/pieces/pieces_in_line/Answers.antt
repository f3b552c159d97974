use Rattle.std.proofs.Common.{◌≡◌, arith, length, refl, rules, take}
use Rattle.std.proofs.lemmas.List.{take_all}
use Rattle.columns.proofs.PieceLemmas.{put_next}
use Rattle.columns.proofs.TextRowLemmas.{AreReadIn-none}
use Rattle.columns.proofs.pieces.pieces_in_line.Goals as goal

pub loop-count-init : goal.loop-count-init
loop-count-init c = (omega arith, λ layout columns all. AreReadIn-none _ _ _ _ columns)

pub loop-count-preserved : goal.loop-count-preserved
loop-count-preserved c = (
  search rules,
  λ layout columns all. (put_next layout c.args.text.now columns c.loop-count.at _ c.args.pieces.now
      c.loop-count.count c.index-pieces-count.result
      refl all c.loop-count-test.true c.index-pieces-count.is (search rules) (search rules)
      (c.loop-count.invariant.1 layout columns all)).1,
)

pub returns-clause-read : goal.returns-clause-read
returns-clause-read c layout columns read =
    let now = c.loop-count.invariant.1 layout columns read in
    let end : take c.loop-count.count c.args.pieces.now ≡ c.args.pieces.now =
    take_all c.loop-count.count c.args.pieces.now (omega (arith, c.loop-count-test.false)) in
    let all : take (length c.args.pieces.now) c.args.pieces.now ≡ c.args.pieces.now =
    take_all (length c.args.pieces.now) c.args.pieces.now (omega arith) in
    rw all (rw end at now)
