-- Items whose places count up, in lanes.
use Rattle.std.proofs.Common.{◌≡◌, ℕ, ◌+◌, ◌<◌, ℤ, pos, ◌+ℤ◌, List, length, take, Some, FitsSigned, w64, refl, sym, ap}
use Rattle.std.proofs.Common.{◌∙◌, arith}
use Rattle.std.proofs.lemmas.Int.{int_wrap_fits}
use Rattle.std.proofs.lemmas.List.{take_all}
use Rattle.std.specs.List.{slice_get}
use Rattle.lambda_values.specs.declared.item.Item.{Item}
use Rattle.trace.specs.Cover.{counted, placed}
use Rattle.trace.proofs.Ranges.{counted_get, placed_get}
use Rattle.trace.proofs.Sources.{length-counted, length-placed}
use Rattle.batch_eval.specs.Lanes.{at}
use Rattle.batch_eval.specs.Batches.{counted_item, item_at, lanes}
use Rattle.batch_eval.proofs.Items.{lanes_taken}

-- lanes that hold the items of a list
all_lanes : (items : List Item) (n : ℕ) (g : ℕ → Item) → length items ≡ n
    → ((k : ℕ) → k < n → slice_get items k ≡ Some (g k)) → lanes n g ≡ items
all_lanes items n g l here =
    let taken = lanes_taken items 0 n g (λ k below. let on : 0 + k ≡ k = omega arith in
    ap (slice_get items) on ∙ here k below) in
    let on : 0 + n ≡ n = omega arith in
    sym taken ∙ ap (λ (m : ℕ). take m items) on ∙ take_all n items (omega (arith, l))

-- the items of lanes that hold values at places that count up
pub lanes_placed : (o : ℕ) (origins : List ℕ) (vs : List ℤ)
    → lanes (length vs) (item_at (Some o) origins vs) ≡ placed o vs
lanes_placed o origins vs = all_lanes (placed o vs) (length vs) (item_at (Some o) origins vs) (length-placed o vs)
    (λ k below. placed_get o vs k (pos 0) (at vs k) below refl)

-- the items of lanes whose places and values count up
pub lanes_counted : (o : ℕ) (a : ℤ) (n : ℕ) → ((i : ℕ) → i < n → FitsSigned w64 (a +ℤ pos i))
    → lanes n (counted_item o a) ≡ placed o (counted a n)
lanes_counted o a n fits =
    all_lanes (placed o (counted a n)) n (counted_item o a) (length-placed o (counted a n) ∙ length-counted a n)
    (λ k below. counted_get o a n k below
    ∙ ap (λ (z : ℤ). let x : Item = record { origin = o + k; value = z } in Some x)
    (sym (int_wrap_fits w64 (a +ℤ pos k) (fits k below))))
