-- Kept items that are fed part by part.
use Rattle.std.proofs.Common.{◌≡◌, ℕ, ◌+◌, ◌-◌, ◌≤◌, List, length, take, drop, Option, None, ap, ◌∙◌, arith}
use Rattle.std.proofs.Math.ListN.{length-take}
use Rattle.lambda_values.specs.declared.item.Item.{Item}
use Rattle.prefix_walks.specs.Pieces.{elements}

few_taken : (n : ℕ) (xs : List Item) → n ≤ 1024 → length (take n xs) ≤ 1024
few_taken n xs few = let l = length-take n xs in omega (arith, l)

-- all positions of a buffer that holds a part
pub buffered : (items buffer : List Item) (from count first : ℕ) (last : Option ℕ) → first ≡ 0 → last ≡ None
    → count ≤ 1024
    → (length (take (from + count - from) (drop from items)) ≤ 1024
    → buffer ≡ take (from + count - from) (drop from items))
    → elements first last buffer ≡ take count (drop from items)
buffered items buffer from count first last zero none few filled =
    let size : from + count - from ≡ count = omega arith in
    (λ i. elements (zero i) (none i) buffer)
    ∙ filled (few_taken (from + count - from) (drop from items) (omega (arith, few)))
    ∙ ap (λ n. take n (drop from items)) size
