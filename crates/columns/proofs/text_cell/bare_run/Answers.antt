use Rattle.std.proofs.Common.{◌∙◌, ◌==◌, ◌||◌, ◌+◌, ◌-◌, ◌%◌, ap, arith, drop, not, take, w8}
use Rattle.std.specs.List.{prefix_len}
use Rattle.std.proofs.lemmas.Simd.{chunk-fits, length-chunk, zip2_splat}
use Rattle.columns.proofs.TextLanes.{front_of_both, others_in_front}
use Rattle.columns.proofs.text_cell.bare_run.Goals as goal

pub returns : goal.returns
returns c =
    let s = c.args.separator in
    let xs = take 16 (drop c.args.at c.args.text.now) in
    let long = length-chunk c.args.at 16 c.args.text.now c.requires in
    let fit = chunk-fits w8 c.args.at 16 c.args.text.now c.type_inv.text in
    let a = c.first_zero-separators.ensures
    ∙ ap (prefix_len (λ x. not (x == 0))) (zip2_splat (λ a b. (a + (256 - b)) % 256) xs 16 s long)
    ∙ others_in_front s (omega (arith, c.ranges.separator.fits)) xs fit in
    let b = c.first_zero-returns.ensures
    ∙ ap (prefix_len (λ x. not (x == 0))) (zip2_splat (λ a b. (a + (256 - b)) % 256) xs 16 13 long)
    ∙ others_in_front 13 (omega arith) xs fit in
    let d = c.first_zero-feeds.ensures ∙ ap (prefix_len (λ x. not (x == 0)))
    (zip2_splat (λ a b. (a + (256 - b)) % 256) xs 16 10 long) ∙ others_in_front 10 (omega arith) xs fit in
    let two = front_of_both (λ b. b == s) (λ b. b == 13) xs c.lesser.result _ _ a b c.lesser.ensures.below.0
    c.lesser.ensures.below.1 c.lesser.ensures.one in
    front_of_both (λ b. (b == s) || (b == 13)) (λ b. b == 10) xs c.lesser-2.result _ _ two d c.lesser-2.ensures.below.0
    c.lesser-2.ensures.below.1 c.lesser-2.ensures.one
