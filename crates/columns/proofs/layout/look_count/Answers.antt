use Rattle.std.proofs.Common.{◌≡◌, ◌<◌, ◌+◌, ◌-◌, ◌^◌, ◌∙◌, ◌∷◌, ◌++◌, [], ap, arith, length, map, take, sym}
use Rattle.std.proofs.lemmas.List.{map_push, take_more}
use Rattle.columns.specs.Layouts.{places_in}
use Rattle.columns.specs.TextRows.{look_count}
use Rattle.columns.proofs.KeptLemmas.{look_count-more}
use Rattle.columns.proofs.layout.look_count.Goals as goal

pub loop-look-preserved : goal.loop-look-preserved
loop-look-preserved c =
    let looks = c.args.looks.now in
    let i = c.loop-look.look-index in
    let look = c.look-item.result in
    let (least, exact) = c.loop-look.invariant in
    let up : look_count (map places_in (take (i + 1) looks))
    ≡ look_count (map places_in (take i looks)) + length (places_in look) =
    ap (λ l. look_count (map places_in l))
    (take_more looks i look c.loop-look-test.true ∙ ap (λ l. take i looks ++ l ∷ []) (sym c.look-item.is))
    ∙ ap look_count (map_push places_in (take i looks) look)
    ∙ look_count-more (map places_in (take i looks)) (places_in look) in
    let count : length c.places.result.now ≡ length (places_in look) = ap length c.places.ensures in
    let sum = c.saturating_add-count.ensures in
    rw up (
      omega (arith, least, count, sum),
      λ small.
          let low : c.loop-look.count < 2 ^ 64 - 1 = omega (arith, count, sum, small) in
          omega (arith, exact low, count, sum, small),
    )
