use Rattle.std.proofs.Common.{◌≡◌, ◌++◌, ◌∷◌, [], ◌+◌, ◌<◌, length, take, List, sym, ap, ◌∙◌, arith}
use Rattle.std.proofs.lemmas.Option.{slice_get_within, get_or_from_slice_get}
use Rattle.std.proofs.lemmas.List.{length-take, take_more}
use Rattle.lambda_values.specs.declared.item.Item.{Item}
use Rattle.sort_ops.specs.Runs.{items_of}
use Rattle.prefix_walks.proofs.piece_buffer.PieceBuffer.fill.Goals as goal

pub loop-position-preserved : goal.loop-position-preserved
loop-position-preserved c = λ few.
    let xs = items_of c.args.slice in
    let i = c.loop-position.position in
    let x = c.item_at.result in
    let within = slice_get_within xs i x c.item_at.ensures in
    let size = length-take i xs in
    let old = c.loop-position.invariant few in
    let count = ap length old in
    let space : length c.loop-position.self < 1024 = omega (arith, within, size, few, count) in
    let more : take (i + 1) xs ≡ take i xs ++ x ∷ [] =
    take_more xs i x within ∙ ap (λ (z : Item). take i xs ++ z ∷ [])
    (get_or_from_slice_get xs i x x c.item_at.ensures) in
    c.add.ensures space ∙ ap (λ (ys : List Item). ys ++ x ∷ []) old ∙ sym more
