use Rattle.std.proofs.Common.{◌∙◌, ◌+◌, ◌-◌, ◌%◌, ap, arith, drop, sym, take, w8}
use Rattle.std.specs.Char.{is_ascii_digit}
use Rattle.std.specs.List.{list_all}
use Rattle.std.proofs.lemmas.List.{take-take}
use Rattle.std.proofs.lemmas.Simd.{chunk-fits, length-chunk, zip2_splat}
use Rattle.columns.specs.Cell.{digits_value}
use Rattle.columns.proofs.LaneLemmas.{front}
use Rattle.columns.proofs.digits.front_digits.Goals as goal

pub value_of_lanes-requires-clause-count : goal.value_of_lanes-requires-clause-count
value_of_lanes-requires-clause-count c =
    let xs = take 16 (drop c.args.at c.args.text.now) in
    let long = length-chunk c.args.at 16 c.args.text.now c.requires in
    let f = front xs _ _ long (chunk-fits w8 c.args.at 16 c.args.text.now c.type_inv.text)
    (zip2_splat (λ a b. (a + (256 - b)) % 256) xs 16 48 long) c.lanes_below_ten-count.ensures in
    omega (arith, c.if-count-eq0.false, f.1)

pub value_of_lanes-requires-clause-digits : goal.value_of_lanes-requires-clause-digits
value_of_lanes-requires-clause-digits c =
    let xs = take 16 (drop c.args.at c.args.text.now) in
    let long = length-chunk c.args.at 16 c.args.text.now c.requires in
    (front xs _ _ long (chunk-fits w8 c.args.at 16 c.args.text.now c.type_inv.text)
    (zip2_splat (λ a b. (a + (256 - b)) % 256) xs 16 48 long) c.lanes_below_ten-count.ensures).2

pub returns-clause-count : goal.returns-clause-count
returns-clause-count c =
    let xs = take 16 (drop c.args.at c.args.text.now) in
    let long = length-chunk c.args.at 16 c.args.text.now c.requires in
    (front xs _ _ long (chunk-fits w8 c.args.at 16 c.args.text.now c.type_inv.text)
    (zip2_splat (λ a b. (a + (256 - b)) % 256) xs 16 48 long) c.lanes_below_ten-count.ensures).0

pub returns-clause-digits : goal.returns-clause-digits
returns-clause-digits c =
    let rest = drop c.args.at c.args.text.now in
    let xs = take 16 rest in
    let long = length-chunk c.args.at 16 c.args.text.now c.requires in
    let f = front xs _ _ long (chunk-fits w8 c.args.at 16 c.args.text.now c.type_inv.text)
    (zip2_splat (λ a b. (a + (256 - b)) % 256) xs 16 48 long) c.lanes_below_ten-count.ensures in
    ap (list_all is_ascii_digit) (sym (take-take _ 16 rest f.1)) ∙ f.5

pub returns-clause-value : goal.returns-clause-value
returns-clause-value c =
    let rest = drop c.args.at c.args.text.now in
    let xs = take 16 rest in
    let long = length-chunk c.args.at 16 c.args.text.now c.requires in
    let f = front xs _ _ long (chunk-fits w8 c.args.at 16 c.args.text.now c.type_inv.text)
    (zip2_splat (λ a b. (a + (256 - b)) % 256) xs 16 48 long) c.lanes_below_ten-count.ensures in
    c.value_of_lanes.ensures ∙ f.3 ∙ ap digits_value (take-take _ 16 rest f.1)

pub returns-clause-few : goal.returns-clause-few
returns-clause-few c =
    let xs = take 16 (drop c.args.at c.args.text.now) in
    let long = length-chunk c.args.at 16 c.args.text.now c.requires in
    let f = front xs _ _ long (chunk-fits w8 c.args.at 16 c.args.text.now c.type_inv.text)
    (zip2_splat (λ a b. (a + (256 - b)) % 256) xs 16 48 long) c.lanes_below_ten-count.ensures in
    omega (arith, f.1, f.4, c.value_of_lanes.ensures)
