use Rattle.std.proofs.Common.{◌∙◌, ◌==◌, ◌+◌, ◌-◌, ◌%◌, ap, arith, drop, not, take, w8}
use Rattle.std.specs.List.{prefix_len}
use Rattle.std.proofs.lemmas.Simd.{chunk-fits, length-chunk, zip2_splat}
use Rattle.columns.proofs.TextLanes.{others_in_front}
use Rattle.columns.proofs.text_cell.quoted_run.Goals as goal

pub returns : goal.returns
returns c =
    let xs = take 16 (drop c.args.at c.args.text.now) in
    let long = length-chunk c.args.at 16 c.args.text.now c.requires in
    c.first_zero.ensures ∙ ap (prefix_len (λ x. not (x == 0))) (zip2_splat (λ a b. (a + (256 - b)) % 256) xs 16 34 long)
    ∙ others_in_front 34 (omega arith) xs (chunk-fits w8 c.args.at 16 c.args.text.now c.type_inv.text)
