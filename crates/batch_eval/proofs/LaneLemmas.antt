-- Items in lanes, and those of some of the lanes.
use Rattle.std.proofs.Common.{◌≡◌, ℕ, ◌+◌, ◌<◌, ◌≤◌, ◌^◌, ℤ, pos, List, length, map, take, drop, Option, Some, None}
use Rattle.std.proofs.Common.{refl, sym, ap, ◌∙◌, arith}
use Rattle.std.proofs.lemmas.List.{drop-take, drop_at, get_or-drop, get_or-take, length-drop, length-take-le, take_all}
use Rattle.std.specs.List.{slice_get}
use Rattle.lambda_values.specs.declared.item.Item.{Item}
use Rattle.batch_eval.specs.Lanes.{at}
use Rattle.batch_eval.specs.Batches.{CountsUp, item_at, laid_items, lanes, origin_at}
use Rattle.batch_eval.proofs.Items.{lane_at, lane_values, lanes_taken, length_lanes}
use Rattle.batch_eval.proofs.Walks.{lanes_same}

pub length_laid : (start : Option ℕ) (places : List ℕ) (values : List ℤ)
    → length (laid_items start places values) ≡ length values
length_laid start places values = length_lanes (length values) (item_at start places values)

pub laid_values : (start : Option ℕ) (places : List ℕ) (values : List ℤ)
    → map (λ (x : Item). x.value) (laid_items start places values) ≡ values
laid_values start places values = lane_values (length values) start places values (omega arith)
    ∙ take_all (length values) values (omega arith)

pub counts_from : (start : Option ℕ) (n m : ℕ) → m ≤ n → ((first : ℕ) → start ≡ Some first → first + n < 2 ^ 64)
    → CountsUp start m
counts_from None n m less counts = tt
counts_from (Some first) n m less counts = let all = counts first refl in omega (arith, less, all)

front_place : (start : Option ℕ) (places : List ℕ) (n k : ℕ) → k < n
    → origin_at start (take n places) k ≡ origin_at start places k
front_place (Some first) places n k below = refl
front_place None places n k below = get_or-take n places k 0 below

-- the items of the first lanes
pub front_items : (start : Option ℕ) (places : List ℕ) (values : List ℤ) (n : ℕ) → n ≤ length values
    → laid_items start (take n places) (take n values) ≡ lanes n (item_at start places values)
front_items start places values n within =
    let g : ℕ → Item = item_at start (take n places) (take n values) in
    ap (λ (m : ℕ). lanes m g) (length-take-le n values within)
    ∙ lanes_same n g (item_at start places values)
    (λ k below. let p = front_place start places n k below in let v = get_or-take n values k (pos 0) below in
    (λ i. record { origin = p i; value = v i }))

-- the items of some lanes, one after the other
pub part_items : (start first : Option ℕ) (places listed : List ℕ) (values : List ℤ) (p n : ℕ) → p + n ≤ length values
    → ((k : ℕ) → k < n → origin_at start places (p + k) ≡ origin_at first listed k)
    → laid_items first listed (take n (drop p values)) ≡ take n (drop p (laid_items start places values))
part_items start first places listed values p n within place =
    let items = laid_items start places values in
    let f : ℕ → Item = item_at start places values in
    let part = take n (drop p values) in
    let g : ℕ → Item = item_at first listed part in
    let value : (k : ℕ) → k < n → at values (p + k) ≡ at part k =
    λ k below. sym (get_or-take n (drop p values) k (pos 0) below ∙ get_or-drop p values k (pos 0)) in
    let item : (k : ℕ) → k < n → f (p + k) ≡ g k = λ k below. let o = place k below in let v = value k below in
    (λ i. record { origin = o i; value = v i }) in
    let here : (k : ℕ) → k < n → slice_get items (p + k) ≡ Some (g k) =
    λ k below. lane_at (length values) (p + k) f (omega (arith, within, below)) ∙ ap Some (item k below) in
    let before : length (take p items) ≡ p =
    length-take-le p items (omega (arith, within, length_laid start places values)) in
    ap (λ (m : ℕ). lanes m g) (length-take-le n (drop p values) (omega (arith, within, length-drop p values)))
    ∙ sym (drop_at (take p items) (lanes n g) p before) ∙ ap (drop p) (sym (lanes_taken items p n g here))
    ∙ drop-take p n items
