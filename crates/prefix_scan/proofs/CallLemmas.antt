-- Pieces that are taken up and down with the range cut to each.
use Rattle.std.proofs.Common.{◌≡◌, ℕ, suc, ℤ, ◌+◌, ◌<◌, false, cond, List, [], ◌∷◌, ◌++◌, length, Option, None, Result}
use Rattle.std.proofs.Common.{Ok, sym, refl, ap, subst, ◌∙◌, arith}
use Rattle.lambda_values.specs.declared.item.Item.{Item}
use Rattle.trace.specs.declared.item.Fault.{Fault}
use Rattle.trace.specs.declared.item.End.TheVariants as end
use Rattle.trace.specs.Trace.{Trace, trace}
use Rattle.reduce_ops.specs.declared.partial.Partial.{Partial}
use Rattle.reduce_ops.specs.Folds.{fold_items, reduced}
use Rattle.reduce_ops.specs.Parts.{StandsFor as FoldStands}
use Rattle.prefix_scan.specs.Prefixes.{Range, is_within, ends_after, out_of_array, running, prefixed}
use Rattle.prefix_scan.specs.Scans.{StandsFor, cut_to, fold_at, scan_at, selected}
use Rattle.prefix_scan.proofs.BlockLemmas.{fold_selected}
use Rattle.prefix_scan.proofs.ScanLemmas.{cut_within, scan_is, scan_more}

-- a list at other positions that are in the range exactly where these are
selected_as : (r : Range) (q : ℕ) (r' : Range) (q' : ℕ) (xs : List Item)
    → ((j : ℕ) → j < length xs → is_within r (q + j) ≡ is_within r' (q' + j)) → selected r q xs ≡ selected r' q' xs
selected_as r q r' q' [] h = refl
selected_as r q r' q' (x ∷ xs) h =
    (let e : q + 0 ≡ q = omega arith in let e' : q' + 0 ≡ q' = omega arith in
    ap (λ b. cond b (x ∷ selected r (suc q) xs) (selected r (suc q) xs))
    (ap (is_within r) (sym e) ∙ h 0 (omega arith) ∙ ap (is_within r') e'))
    ∙ ap (λ (l : List Item). cond (is_within r' q') (x ∷ l) l) (selected_as r (suc q) r' (suc q') xs
    (λ j k. let e : suc q + j ≡ q + suc j = omega arith in let e' : suc q' + j ≡ q' + suc j = omega arith in
    ap (is_within r) e ∙ h (suc j) (omega arith) ∙ ap (is_within r') (sym e')))

selected_cut : (r : Range) (q : ℕ) (xs : List Item) → selected (cut_to r q (length xs)) 0 xs ≡ selected r q xs
selected_cut r q xs = selected_as (cut_to r q (length xs)) 0 r q xs
    (λ j k. let e : 0 + j ≡ j = omega arith in
    ap (is_within (cut_to r q (length xs))) e ∙ cut_within r q (length xs) j k)

pub stands_at : (r : Range) (q : ℕ) (block : Partial) (t : Trace) → StandsFor (cut_to r q (length t.items)) 0 block t
    → StandsFor r q block t
stands_at r q block t s = subst (λ (xs : List Item). FoldStands block (trace xs t.ending)) (selected_cut r q t.items) s

ok_once : (a b : Option ℤ) → ◌≡◌ {A = Result (Option ℤ) Fault} (Ok a) (Ok b) → a ≡ b
ok_once a b e = cc

pub scans_on : (f : ℤ → ℤ → ℤ) (r : Range) (start : Option ℤ) (xs ys : List Item)
    → Ok start ≡ reduced f (trace (selected r 0 xs) end.Done)
    → scan_at f r 0 None (xs ++ ys) ≡ scan_at f r 0 None xs ++ scan_at f r (length xs) start ys
scans_on f r start xs ys given =
    let z : 0 + length xs ≡ length xs = omega arith in
    let same = ok_once start (fold_items f (selected r 0 xs)) given in
    let left : fold_at f r 0 None xs ≡ start = fold_selected f r 0 xs ∙ sym same in
    scan_more f r 0 None xs ys ∙ (λ i. scan_at f r 0 None xs ++ scan_at f r (z i) (left i) ys)

pub is_prefix : (f : ℤ → ℤ → ℤ) (r : Range) (stage : ℕ) (xs : List Item) → ends_after r (length xs) ≡ false
    → trace (scan_at f r 0 None xs) end.Done ≡ prefixed f r stage (trace xs end.Done)
is_prefix f r stage xs within =
    ap (λ (l : List Item). trace l end.Done) (scan_is f r 0 [] xs)
    ∙ sym (ap (λ b. cond b (out_of_array stage) (trace (running f r 0 [] xs) end.Done)) within)
