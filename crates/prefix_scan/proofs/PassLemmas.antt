-- Both passes over a tree of pieces give the prefix.
use Rattle.std.proofs.Common.{◌≡◌, ℕ, ℤ, ◌+◌, cond, List, [], ◌++◌, length, take, drop, Option, None, sym, refl, ap}
use Rattle.std.proofs.Common.{◌∙◌, arith, length-append}
use Rattle.std.proofs.lemmas.List.{take-append-drop}
use Rattle.lambda_values.specs.declared.item.Item.{Item}
use Rattle.trace.specs.declared.item.End.{End}
use Rattle.trace.specs.declared.item.End.TheVariants as end
use Rattle.trace.specs.Trace.{Trace, trace, then_on, append}
use Rattle.reduce_ops.specs.Operators.{IsAssociative}
use Rattle.prefix_scan.specs.Prefixes.{Range, ends_after, out_of_array, prefixed_items, prefixed_to, prefixed}
use Rattle.prefix_scan.specs.Scans.{fold_at, scan_at, joined_value}
use Rattle.prefix_scan.specs.Passes.{Pieces, piece, pair, whole, size, merged_value, merged_end, ups_end, ups, downs}
use Rattle.prefix_scan.specs.Passes.{then_down, two_passes, SplitTree, leaf, node, laid}
use Rattle.prefix_scan.proofs.ScanLemmas.{fold_cut, scan_cut, fold_more, scan_more, fold_joined, scan_is}

-- a tree's end is the end of its pieces joined
ends_is : (ps : Pieces) → ups_end ps ≡ (whole ps).ending
ends_is (piece t) = refl
ends_is (pair l r) = (λ i. merged_end (ends_is l i) (ends_is r i)) ∙ by_end (whole l).ending
  where
    by_end : (e : End) → merged_end e (whole r).ending ≡ (then_on (whole l).items e (whole r)).ending
    by_end end.Done = refl
    by_end (end.Fault g) = refl

both_done : (a b : End) → merged_end a b ≡ end.Done → (a ≡ end.Done) × (b ≡ end.Done)
both_done end.Done b e = (refl, e)
both_done (end.Fault g) b e = absurd (grind arith)

done_items : (a b : Trace) → a.ending ≡ end.Done → (append a b).items ≡ a.items ++ b.items
done_items a b h = ap (λ e. (then_on a.items e b).items) h

size_is : (ps : Pieces) → ups_end ps ≡ end.Done → size ps ≡ length (whole ps).items
size_is (piece t) e = refl
size_is (pair l r) e =
    let d = both_done (ups_end l) (ups_end r) e in
    let a = size_is l d.0 in
    let b = size_is r d.1 in
    let c = length-append (whole l).items (whole r).items in
    let s : length (whole (pair l r)).items ≡ length ((whole l).items ++ (whole r).items) =
    ap length (done_items (whole l) (whole r) (sym (ends_is l) ∙ d.0)) in
    omega arith

whole_laid : (tree : SplitTree) (t : Trace) → whole (laid tree t) ≡ t
whole_laid leaf t = refl
whole_laid (node n l r) t =
    (λ i. append (whole_laid l (trace (take n t.items) end.Done) i) (whole_laid r (trace (drop n t.items) t.ending) i))
    ∙ ap (λ (l : List Item). trace l t.ending) (take-append-drop n t.items)

module _ (f : ℤ → ℤ → ℤ) (grouped : IsAssociative f) (range : Range) where
  ups_is : (ps : Pieces) → ups_end ps ≡ end.Done → (q : ℕ) → ups f range q ps ≡ fold_at f range q None (whole ps).items
  ups_is (piece t) e q = fold_cut f range q None t.items
  ups_is (pair l r) e q =
      let d = both_done (ups_end l) (ups_end r) e in
      let s : size l ≡ length (whole l).items = size_is l d.0 in
      ap (λ z. merged_value f (ups f range q l) z (ups f range (q + size l) r)) d.0
      ∙ (λ i. joined_value f (ups_is l d.0 q i) (ups_is r d.1 (q + size l) i))
      ∙ sym (fold_joined f grouped range (q + size l) (fold_at f range q None (whole l).items) (whole r).items)
      ∙ ap (λ n. fold_at f range (q + n) (fold_at f range q None (whole l).items) (whole r).items) s
      ∙ sym (fold_more f range q None (whole l).items (whole r).items)
      ∙ ap (fold_at f range q None) (sym (done_items (whole l) (whole r) (sym (ends_is l) ∙ d.0)))

  downs_is : (ps : Pieces) → ups_end ps ≡ end.Done → (q : ℕ) (start : Option ℤ)
      → downs f range q start ps ≡ scan_at f range q start (whole ps).items
  downs_is (piece t) e q start = scan_cut f range q start t.items
  downs_is (pair l r) e q start =
      let d = both_done (ups_end l) (ups_end r) e in
      let s : size l ≡ length (whole l).items = size_is l d.0 in
      (λ i. downs_is l d.0 q start i ++ downs_is r d.1 (q + size l) (joined_value f start (ups f range q l)) i)
      ∙ ap (λ z. scan_at f range q start (whole l).items ++ scan_at f range (q + size l) z (whole r).items)
      (ap (joined_value f start) (ups_is l d.0 q) ∙ sym (fold_joined f grouped range q start (whole l).items))
      ∙ ap (λ n. scan_at f range q start (whole l).items
      ++ scan_at f range (q + n) (fold_at f range q start (whole l).items) (whole r).items) s
      ∙ sym (scan_more f range q start (whole l).items (whole r).items)
      ∙ ap (scan_at f range q start) (sym (done_items (whole l) (whole r) (sym (ends_is l) ∙ d.0)))

  by_done : (stage : ℕ) (ps : Pieces) → ups_end ps ≡ end.Done
      → then_down f range stage ps end.Done ≡ prefixed_items f range stage (whole ps).items
  by_done stage ps e =
      ap (λ k. cond (ends_after range k) (out_of_array stage) (trace (downs f range 0 None ps) end.Done)) (size_is ps e)
      ∙ ap (λ (l : List Item). cond (ends_after range (length (whole ps).items)) (out_of_array stage)
      (trace l end.Done)) (downs_is ps e 0 None ∙ scan_is f range 0 [] (whole ps).items)

  by_end : (stage : ℕ) (ps : Pieces) (e : End) → ups_end ps ≡ e
      → then_down f range stage ps e ≡ prefixed_to f range stage (whole ps).items e
  by_end stage ps end.Done h = by_done stage ps h
  by_end stage ps (end.Fault g) h = refl

  pub passes_are_prefix : (stage : ℕ) (ps : Pieces) → two_passes f range stage ps ≡ prefixed f range stage (whole ps)
  passes_are_prefix stage ps = by_end stage ps (ups_end ps) refl
      ∙ ap (prefixed_to f range stage (whole ps).items) (ends_is ps)

  pub split_passes_are_prefix : (stage : ℕ) (tree : SplitTree) (t : Trace)
      → two_passes f range stage (laid tree t) ≡ prefixed f range stage t
  split_passes_are_prefix stage tree t =
      passes_are_prefix stage (laid tree t) ∙ ap (prefixed f range stage) (whole_laid tree t)
