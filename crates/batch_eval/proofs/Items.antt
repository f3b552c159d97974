-- The items of lanes, by their position.
use Rattle.std.proofs.Common.{◌≡◌, ℕ, ℤ, pos, map, add-one, zero, suc, ◌+◌, ◌<◌, ◌≤◌, List, [], ◌∷◌, ◌++◌, length}
use Rattle.std.proofs.Common.{get_or, drop, take, Option, Some, None, refl, sym, ap, ◌∙◌, append_assoc, arith}
use Rattle.std.proofs.Common.{length-append, add-zero}
use Rattle.std.proofs.lemmas.List.{append-nil, get_or_append_left, get_or_at, map-append, take_all, take_more}
use Rattle.std.proofs.lemmas.Option.{slice_get_within, get_or_from_slice_get, slice_get-get_or}
use Rattle.std.specs.List.{slice_get}
use mathlib.Core.Logic.{dite}
use native.Mathlib.Decide.{ℕ_discrete}
use Rattle.lambda_values.specs.declared.item.Item.{Item}
use Rattle.trace.specs.declared.item.End.{End}
use Rattle.trace.specs.Trace.{Trace, trace}
use Rattle.batch_eval.specs.Batches.{lanes, item_at, origin_at, CountsUp}

pub length_lanes : (n : ℕ) (g : ℕ → Item) → length (lanes n g) ≡ n
length_lanes zero g = refl
length_lanes (suc n) g = omega (arith, length-append (lanes n g) (g n ∷ []), length_lanes n g)

lane_of : (n k : ℕ) (g : ℕ → Item) (d : Item) → k < n → get_or (lanes n g) k d ≡ g k
lane_of zero k g d below = absurd (omega arith)
lane_of (suc n) k g d below =
    dite (ℕ_discrete k n)
    (λ last. get_or_at (lanes n g) (g n) [] d k (length_lanes n g ∙ sym last) ∙ ap g (sym last))
    (λ other.
    let inside : k < length (lanes n g) = omega (arith, length_lanes n g) in
    get_or_append_left (lanes n g) (g n ∷ []) d k inside ∙ lane_of n k g d (omega arith))

-- the item at a position
pub lane_at : (n k : ℕ) (g : ℕ → Item) → k < n → slice_get (lanes n g) k ≡ Some (g k)
lane_at n k g below = slice_get-get_or (lanes n g) k (g k) (omega (arith, length_lanes n g))
    ∙ ap Some (lane_of n k g (g k) below)

-- items from a position on
pub lanes_taken : (items : List Item) (p n : ℕ) (g : ℕ → Item)
    → ((k : ℕ) → k < n → slice_get items (p + k) ≡ Some (g k)) → take (p + n) items ≡ take p items ++ lanes n g
lanes_taken items p zero g here = ap (λ (m : ℕ). take m items) (add-zero p) ∙ sym (append-nil (take p items))
lanes_taken items p (suc n) g here =
    let on : p + suc n ≡ p + n + 1 = omega arith in
    let last = here n (omega arith) in
    let one = take_more items (p + n) (g n) (slice_get_within items (p + n) (g n) last) in
    let before = lanes_taken items p n g (λ k below. here k (omega arith)) in
    ap (λ (m : ℕ). take m items) on ∙ one
    ∙ rw (before, get_or_from_slice_get items (p + n) (g n) (g n) last)
    (append_assoc (take p items) (lanes n g) (g n ∷ []))

-- items up to a position, and some after it
pub taken_more : (items : List Item) (p n : ℕ) → take (p + n) items ≡ take p items ++ take n (drop p items)
taken_more items zero n = let on : 0 + n ≡ n = omega arith in ap (λ (m : ℕ). take m items) on
taken_more [] (suc p) n = take_all (suc p + n) [] (omega arith) ∙ sym (take_all n [] (omega arith))
taken_more (x ∷ xs) (suc p) n = let on : suc p + n ≡ suc (p + n) = omega arith in
    ap (λ (m : ℕ). take m (x ∷ xs)) on ∙ ap (λ (ys : List Item). x ∷ ys) (taken_more xs p n)

-- a position of an item is a live lane
pub lane_inside : (live k : ℕ) (g : ℕ → Item) (e : End) (t : Trace) → trace (lanes live g) e ≡ t → k < length t.items
    → k < live
lane_inside live k g e t seen below =
    let same : length (lanes live g) ≡ length t.items = ap (λ (u : Trace). length u.items) seen in
    omega (arith, length_lanes live g, same, below)

pub counts_less : (start : Option ℕ) (n m : ℕ) → n ≤ m → CountsUp start m → CountsUp start n
counts_less None n m less counts = counts
counts_less (Some start) n m less counts = omega (arith, less, counts)

-- the first lanes, and those after them
pub lanes_add : (a b : ℕ) (g : ℕ → Item) → lanes (a + b) g ≡ lanes a g ++ lanes b (λ k. g (a + k))
lanes_add a zero g = ap (λ (m : ℕ). lanes m g) (add-zero a) ∙ sym (append-nil (lanes a g))
lanes_add a (suc b) g =
    let on : a + suc b ≡ suc (a + b) = omega arith in
    ap (λ (m : ℕ). lanes m g) on ∙ ap (λ (xs : List Item). xs ++ g (a + b) ∷ []) (lanes_add a b g)
    ∙ append_assoc (lanes a g) (lanes b (λ k. g (a + k))) (g (a + b) ∷ [])

-- the values of lanes
pub lane_values : (n : ℕ) (start : Option ℕ) (origins : List ℕ) (values : List ℤ) → n ≤ length values
    → map (λ (x : Item). x.value) (lanes n (item_at start origins values)) ≡ take n values
lane_values zero start origins values within = refl
lane_values (suc n) start origins values within =
    let g = item_at start origins values in
    let more : take (n + 1) values ≡ take n values ++ get_or values n (pos 0) ∷ [] =
    take_more values n (pos 0) (omega arith) in
    map-append (λ (x : Item). x.value) (lanes n g) (g n ∷ [])
    ∙ ap (λ (vs : List ℤ). vs ++ get_or values n (pos 0) ∷ []) (lane_values n start origins values (omega arith))
    ∙ sym more ∙ ap (λ (m : ℕ). take m values) (add-one n)

-- the place of a lane depends on what is listed for it alone
pub same_place : (start : Option ℕ) (xs ys : List ℕ) (k : ℕ) → get_or xs k 0 ≡ get_or ys k 0
    → origin_at start xs k ≡ origin_at start ys k
same_place None xs ys k same = same
same_place (Some first) xs ys k same = refl
