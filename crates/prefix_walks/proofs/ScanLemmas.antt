-- Parts of a prefix, and the walks that it gives.
use Rattle.std.proofs.Common.{◌≡◌, ℕ, zero, suc, ℤ, true, false, cond, ◌+◌, ◌-◌, ◌<◌, ◌≤◌, List, [], ◌∷◌, ◌++◌, length}
use Rattle.std.proofs.Common.{length-append, append_assoc, take, drop, get_or, slice_get, Option, Some, None, Ok, Err}
use Rattle.std.proofs.Common.{sym, refl, ap, ◌∙◌, arith}
use Rattle.std.proofs.lemmas.List.{take-append-drop}
use Rattle.std.proofs.lemmas.List.Concat.{flat_map-append}
use Rattle.lambda_values.specs.declared.item.Item.{Item}
use Rattle.trace.specs.declared.item.Fault.{Fault}
use Rattle.trace.specs.declared.item.End.TheVariants as end
use Rattle.trace.specs.Trace.{trace, Trace, append}
use Rattle.reduce_ops.specs.declared.op.Op.{Op}
use Rattle.reduce_ops.specs.declared.partial.Partial.{Partial}
use Rattle.reduce_ops.specs.Folds.{fold_items, reduced}
use Rattle.reduce_ops.specs.Operators.{value_of, IsAssociative}
use Rattle.prefix_scan.specs.Prefixes.{Range, ends_after, is_within, out_of_array, prefixed_items, running}
use Rattle.prefix_scan.specs.Scans.{cut_to, fold_at, scan_at, joined_value}
use Rattle.prefix_scan.proofs.LoopLemmas.{drop_next, drop_past, fold_none}
use Rattle.prefix_scan.proofs.ScanLemmas.{fold_all, fold_as, fold_cut, fold_joined, fold_more, length-scan_at, scan_cut}
use Rattle.prefix_scan.proofs.ScanLemmas.{scan_is, scan_more}
use Rattle.prefix_walks.specs.declared.folded_piece.FoldedPiece.{FoldedPiece}
use Rattle.prefix_walks.specs.declared.folded_piece.PieceStart.{PieceStart}
use Rattle.prefix_walks.specs.Pieces.{IsNotAfter, after, elements, piece_of}
use Rattle.prefix_walks.proofs.Elements.{elements_both, past_first, drop_none, elements_join}
use Rattle.prefix_walks.specs.Scans.{all_items, items_of, mark, marks_of}

-- the fold of a whole piece, after what lies left of it
pub folded_whole : (op : Op) → IsAssociative (value_of op)
    → (range : Range) (first count : ℕ) (start value : Option ℤ) (p : Partial) (xs : List Item)
    → cut_to range first count ≡ None → p.op ≡ op → Ok value ≡ reduced (value_of p.op) (trace xs end.Done)
    → joined_value (value_of op) start value ≡ fold_at (value_of op) range first start xs
folded_whole op grouped None first count start value p xs h same e =
    let v : value ≡ fold_items (value_of p.op) xs = cc in
    ap (joined_value (value_of op) start)
    (v ∙ ap (λ o. fold_items (value_of o) xs) same ∙ sym (fold_all (value_of op) first xs))
    ∙ sym (fold_joined (value_of op) grouped None first start xs)
folded_whole op grouped (Some (from, to)) first count start value p xs h same e = cc

-- a fold of a walk that is done has no fault
pub no_fault : {A : Type 0} (op : Op) (xs : List Item) (f : Fault) → Err f ≡ reduced (value_of op) (trace xs end.Done)
    → A
no_fault op xs f e = absurd (let z : Err f ≡ Ok (fold_items (value_of op) xs) = e in cc)

-- a piece by its own positions
pub folded_cut : (op : Op) (range at : Range) (first count : ℕ) (start : Option ℤ) (xs : List Item)
    → at ≡ cut_to range first count → count ≡ length xs
    → fold_at (value_of op) at 0 start xs ≡ fold_at (value_of op) range first start xs
folded_cut op range at first count start xs e k =
    (λ i. fold_at (value_of op) ((e ∙ ap (cut_to range first) k) i) 0 start xs)
    ∙ fold_cut (value_of op) range first start xs

pub scanned_cut : (op : Op) (range at : Range) (first count : ℕ) (start : Option ℤ) (xs : List Item)
    → at ≡ cut_to range first count → count ≡ length xs
    → scan_at (value_of op) at 0 start xs ≡ scan_at (value_of op) range first start xs
scanned_cut op range at first count start xs e k =
    (λ i. scan_at (value_of op) ((e ∙ ap (cut_to range first) k) i) 0 start xs)
    ∙ scan_cut (value_of op) range first start xs

-- a range that has all positions of a piece, or none
pub folded_all : (op : Op) (range at : Range) (first count : ℕ) (start : Option ℤ) (xs : List Item)
    → at ≡ cut_to range first count → count ≡ length xs → ((j : ℕ) → j < count → is_within at j ≡ true)
    → fold_at (value_of op) None 0 start xs ≡ fold_at (value_of op) range first start xs
folded_all op range at first count start xs e k h =
    fold_as (value_of op) None 0 at 0 start xs
    (λ j l. let z : 0 + j ≡ j = omega arith in sym (ap (is_within at) z ∙ h j (omega (arith, k, l))))
    ∙ folded_cut op range at first count start xs e k

pub folded_none : (op : Op) (range at : Range) (first count : ℕ) (start : Option ℤ) (xs : List Item)
    → at ≡ cut_to range first count → count ≡ length xs → ((j : ℕ) → is_within at j ≡ false)
    → start ≡ fold_at (value_of op) range first start xs
folded_none op range at first count start xs e k h =
    fold_none (value_of op) at count 0 0 start xs
    (record {
      ordered = omega arith;
      whole = omega arith;
      before = λ j l. h j;
      inside = λ j l m. absurd (omega (arith, m));
      past = λ j l m. h j;
    }) k refl
    ∙ folded_cut op range at first count start xs e k

-- ---- marks

dropped : (ps : List FoldedPiece) (w : ℕ) (p : FoldedPiece) → w < length ps → p ≡ get_or ps w p
    → drop w ps ≡ p ∷ drop (w + 1) ps
dropped ps w p h is =
    let e : suc w ≡ w + 1 = omega arith in
    drop_next w ps p h ∙ (λ i. sym is i ∷ drop (e i) ps)

pub items_step : (ps : List FoldedPiece) (w : ℕ) (p : FoldedPiece) → w < length ps → p ≡ get_or ps w p
    → all_items (drop w ps) ≡ items_of p ++ all_items (drop (w + 1) ps)
items_step ps w p h is = ap all_items (dropped ps w p h is)

pub marks_step : (f : ℤ → ℤ → ℤ) (r : Range) (q : ℕ) (start : Option ℤ) (ps : List FoldedPiece) (w : ℕ)
    (p : FoldedPiece) (ms new : List PieceStart) (next : ℕ) (after : Option ℤ) → w < length ps → p ≡ get_or ps w p
    → new ≡ ms ++ mark q start ∷ [] → next ≡ q + length (items_of p) → after ≡ fold_at f r q start (items_of p)
    → new ++ marks_of f r next after (drop (w + 1) ps) ≡ ms ++ marks_of f r q start (drop w ps)
marks_step f r q start ps w p ms new next after h is one n a =
    (λ i. one i ++ marks_of f r (n i) (a i) (drop (w + 1) ps))
    ∙ append_assoc ms (mark q start ∷ [])
    (marks_of f r (q + length (items_of p)) (fold_at f r q start (items_of p)) (drop (w + 1) ps))
    ∙ ap (λ l. ms ++ l) (sym (ap (marks_of f r q start) (dropped ps w p h is)))

pub size_step : (q : ℕ) (ps : List FoldedPiece) (w : ℕ) (p : FoldedPiece) (next total : ℕ) → w < length ps
    → p ≡ get_or ps w p → next ≡ q + length (items_of p) → q + length (all_items (drop w ps)) ≡ total
    → next + length (all_items (drop (w + 1) ps)) ≡ total
size_step q ps w p next total h is n t =
    let l = length-append (items_of p) (all_items (drop (w + 1) ps)) in
    let k : length (all_items (drop w ps)) ≡ length (items_of p ++ all_items (drop (w + 1) ps)) =
    ap length (items_step ps w p h is) in
    omega (arith, l, k, n, t)

pub none_left : (ps : List FoldedPiece) (w : ℕ) → length ps ≤ w → drop w ps ≡ []
none_left ps w h = drop_past w ps h

-- ---- what a prefix gives

pub past_end : (op : Op) (r : Range) (n size : ℕ) (xs : List Item) → size ≡ length xs → ends_after r size ≡ true
    → out_of_array n ≡ prefixed_items (value_of op) r n xs
past_end op r n size xs e h = sym (ap (λ b. cond b (out_of_array n) (trace (running (value_of op) r 0 [] xs) end.Done))
    (ap (ends_after r) (sym e) ∙ h))

pub all_scanned : (op : Op) (r : Range) (n size : ℕ) (xs : List Item) → size ≡ length xs → ends_after r size ≡ false
    → trace (scan_at (value_of op) r 0 None xs) end.Done ≡ prefixed_items (value_of op) r n xs
all_scanned op r n size xs e h =
    ap (λ (l : List Item). trace l end.Done) (scan_is (value_of op) r 0 [] xs)
    ∙ sym (ap (λ b. cond b (out_of_array n) (trace (running (value_of op) r 0 [] xs) end.Done))
    (ap (ends_after r) (sym e) ∙ h))

-- ---- walks over pieces that are scanned

pub next_scanned : (f : ℤ → ℤ → ℤ) (r : Range) (q : ℕ) (start : Option ℤ) (ps : List FoldedPiece) (w : ℕ)
    (p : FoldedPiece) (from : ℕ) (to : Option ℕ) (size : ℕ) (zs : List Item) → w < length ps → p ≡ get_or ps w p
    → size ≡ length (items_of p) → zs ≡ scan_at f r q start (items_of p)
    → elements from to (scan_at f r q start (all_items (drop w ps)))
    ≡ elements from to zs ++ elements (from - size) (after to size)
    (scan_at f r (q + size) (fold_at f r q start (items_of p)) (all_items (drop (w + 1) ps)))
next_scanned f r q start ps w p from to size zs h is k z =
    let xs = items_of p in
    let ys = all_items (drop (w + 1) ps) in
    let here = scan_at f r q start xs in
    let l : length here ≡ size = length-scan_at f r q start xs ∙ sym k in
    ap (λ us. elements from to (scan_at f r q start us)) (items_step ps w p h is)
    ∙ ap (elements from to) (scan_more f r q start xs ys)
    ∙ elements_both from to here (scan_at f r (q + length xs) (fold_at f r q start xs) ys)
    ∙ (λ i. elements from to (sym z i) ++ elements (from - l i) (after to (l i))
    (scan_at f r (q + sym k i) (fold_at f r q start xs) ys))

-- the pieces from one on, with what lies left of them
mark_is : (f : ℤ → ℤ → ℤ) (r : Range) (q : ℕ) (start : Option ℤ) (ps : List FoldedPiece) (k : ℕ) (m : PieceStart)
    → slice_get (marks_of f r q start ps) k ≡ Some m
    → (m.before ≡ q + length (all_items (take k ps))) × (m.start ≡ fold_at f r q start (all_items (take k ps)))
mark_is f r q start [] k m h = absurd (let z : None ≡ Some m = h in cc)
mark_is f r q start (p ∷ ps) zero m h =
    let e : mark q start ≡ m = cc in
    let z : q ≡ q + 0 = omega arith in
    (ap (λ (n : PieceStart). n.before) (sym e) ∙ z, ap (λ (n : PieceStart). n.start) (sym e))
mark_is f r q start (p ∷ ps) (suc k) m h =
    let later = mark_is f r (q + length (items_of p)) (fold_at f r q start (items_of p)) ps k m h in
    let l = length-append (items_of p) (all_items (take k ps)) in
    (later.0 ∙ omega (arith, l), later.1 ∙ sym (fold_more f r q start (items_of p) (all_items (take k ps))))

pub marked : (f : ℤ → ℤ → ℤ) (r : Range) (ps : List FoldedPiece) (k : ℕ) (m : PieceStart)
    → slice_get (marks_of f r 0 None ps) k ≡ Some m
    → (m.before ≡ length (all_items (take k ps))) × (m.start ≡ fold_at f r 0 None (all_items (take k ps)))
marked f r ps k m h = let is = mark_is f r 0 None ps k m h in (is.0 ∙ omega arith, is.1)

-- positions after whole pieces
pub scanned_after : (f : ℤ → ℤ → ℤ) (r : Range) (ps : List FoldedPiece) (k n from : ℕ) (start : Option ℤ)
    (to : Option ℕ) → n ≡ length (all_items (take k ps)) → start ≡ fold_at f r 0 None (all_items (take k ps)) → n ≤ from
    → elements from to (scan_at f r 0 None (all_items ps))
    ≡ elements (from - n) (after to n) (scan_at f r n start (all_items (drop k ps)))
scanned_after f r ps k n from start to e s h =
    let xs = all_items (take k ps) in
    let ys = all_items (drop k ps) in
    let here = scan_at f r 0 None xs in
    let l : length here ≡ n = length-scan_at f r 0 None xs ∙ sym e in
    let z : 0 + length xs ≡ n = omega (arith, e) in
    let few : length here ≤ from = omega (arith, l, h) in
    ap (λ qs. elements from to (scan_at f r 0 None (all_items qs))) (sym (take-append-drop k ps))
    ∙ ap (λ us. elements from to (scan_at f r 0 None us)) (flat_map-append items_of (take k ps) (drop k ps))
    ∙ ap (elements from to) (scan_more f r 0 None xs ys)
    ∙ elements_both from to here (scan_at f r (0 + length xs) (fold_at f r 0 None xs) ys)
    ∙ ap (λ us. us ++ elements (from - length here) (after to (length here))
    (scan_at f r (0 + length xs) (fold_at f r 0 None xs) ys)) (past_first from to here few)
    ∙ (λ i. elements (from - l i) (after to (l i)) (scan_at f r (z i) (sym s i) ys))

-- what is left of the pieces, and how many items they have
pub few_after : (ps : List FoldedPiece) (k n size bound : ℕ) → n ≡ length (all_items (take k ps))
    → size ≡ length (all_items ps) → size < bound → n + length (all_items (drop k ps)) < bound
few_after ps k n size bound e s h =
    let l = length-append (all_items (take k ps)) (all_items (drop k ps)) in
    let j : length (all_items ps) ≡ length (all_items (take k ps) ++ all_items (drop k ps)) =
    ap (λ qs. length (all_items qs)) (sym (take-append-drop k ps))
    ∙ ap length (flat_map-append items_of (take k ps) (drop k ps)) in
    omega (arith, l, j, e, s, h)

pub size_step_below : (q : ℕ) (ps : List FoldedPiece) (w : ℕ) (p : FoldedPiece) (size bound : ℕ) → w < length ps
    → p ≡ get_or ps w p → size ≡ length (items_of p) → q + length (all_items (drop w ps)) < bound
    → (q + size) + length (all_items (drop (w + 1) ps)) < bound
size_step_below q ps w p size bound h is n b =
    let l = length-append (items_of p) (all_items (drop (w + 1) ps)) in
    let k : length (all_items (drop w ps)) ≡ length (items_of p ++ all_items (drop (w + 1) ps)) =
    ap length (items_step ps w p h is) in
    omega (arith, l, k, n, b)

-- ---- pieces side by side

pub pieces_joined : (t : Trace) (from middle : ℕ) (to : Option ℕ) → from ≤ middle → IsNotAfter middle to
    → append (piece_of from (Some middle) t) (piece_of middle to t) ≡ piece_of from to t
pieces_joined t from middle None h k = ap (λ xs. trace xs t.ending) (elements_join from middle None t.items h k)
pieces_joined t from middle (Some to) h k =
    ap (λ xs. trace xs end.Done) (elements_join from middle (Some to) t.items h k)

pub whole_piece : (t : Trace) → piece_of 0 None t ≡ t
whole_piece t = ap (λ xs. trace xs t.ending) (drop_none t.items)
