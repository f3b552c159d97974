-- Blocks: folds of the items at positions of a range.
use Rattle.std.proofs.Common.{◌≡◌, ℕ, suc, ℤ, ◌+◌, Bool, true, false, cond, List, [], ◌∷◌, ◌++◌, ◌<◌, ◌≤◌, length}
use Rattle.std.proofs.Common.{length-append, drop, flat_map, get_or, Option, Some, None, sym, refl, ap, subst, ◌∙◌}
use Rattle.std.proofs.Common.{arith}
use Rattle.lambda_values.specs.declared.item.Item.{Item}
use Rattle.trace.specs.declared.item.End.{End}
use Rattle.trace.specs.declared.item.End.TheVariants as end
use Rattle.trace.specs.Trace.{Trace, trace, then_on, append}
use Rattle.reduce_ops.specs.declared.partial.Partial.{Partial}
use Rattle.reduce_ops.specs.Folds.{fold_from, fold_items}
use Rattle.reduce_ops.specs.Parts.{StandsFor as FoldStands}
use Rattle.prefix_scan.specs.Prefixes.{Range, is_within}
use Rattle.prefix_scan.specs.Scans.{cut_to, fold_on, fold_at, selected, StandsFor}
use Rattle.prefix_scan.proofs.LoopLemmas.{drop_next, drop_past}
use Rattle.prefix_scan.proofs.ScanLemmas.{fold_cut, fold_more}

module _ (f : ℤ → ℤ → ℤ) (r : Range) where
  from_selected : (q : ℕ) (a : ℤ) (xs : List Item) → fold_at f r q (Some a) xs ≡ Some (fold_from f a (selected r q xs))
  from_selected q a [] = refl
  from_selected q a (x ∷ xs) = by_bool (λ b. fold_at f r (suc q) (fold_on f b (Some a) x) xs
      ≡ Some (fold_from f a (cond b (x ∷ selected r (suc q) xs) (selected r (suc q) xs))))
      (from_selected (suc q) (f a x.value) xs) (from_selected (suc q) a xs) (is_within r q)
    where
      by_bool : (P : Bool → Type 0) → P true → P false → (b : Bool) → P b
      by_bool P t n true = t
      by_bool P t n false = n

  pub fold_selected : (q : ℕ) (xs : List Item) → fold_at f r q None xs ≡ fold_items f (selected r q xs)
  fold_selected q [] = refl
  fold_selected q (x ∷ xs) = by_bool (λ b. fold_at f r (suc q) (fold_on f b None x) xs
      ≡ fold_items f (cond b (x ∷ selected r (suc q) xs) (selected r (suc q) xs)))
      (from_selected (suc q) x.value xs) (fold_selected (suc q) xs) (is_within r q)
    where
      by_bool : (P : Bool → Type 0) → P true → P false → (b : Bool) → P b
      by_bool P t n true = t
      by_bool P t n false = n

selected_more : (r : Range) (q : ℕ) (xs ys : List Item)
    → selected r q (xs ++ ys) ≡ selected r q xs ++ selected r (q + length xs) ys
selected_more r q [] ys = let e : q ≡ q + 0 = omega arith in ap (λ n. selected r n ys) e
selected_more r q (x ∷ xs) ys =
    let e : suc q + length xs ≡ q + suc (length xs) = omega arith in
    let later = selected_more r (suc q) xs ys ∙ ap (λ n. selected r (suc q) xs ++ selected r n ys) e in
    by_bool (λ b. cond b (x ∷ selected r (suc q) (xs ++ ys)) (selected r (suc q) (xs ++ ys))
    ≡ cond b (x ∷ selected r (suc q) xs) (selected r (suc q) xs) ++ selected r (q + suc (length xs)) ys)
    (ap (λ (l : List Item). x ∷ l) later) later (is_within r q)
  where
    by_bool : (P : Bool → Type 0) → P true → P false → (b : Bool) → P b
    by_bool P t n true = t
    by_bool P t n false = n

-- the selected items of two walks side by side
pub selected_joined : (r : Range) (q : ℕ) (a b : Trace)
    → trace (selected r q (append a b).items) (append a b).ending
    ≡ append (trace (selected r q a.items) a.ending) (trace (selected r (q + length a.items) b.items) b.ending)
selected_joined r q a b = by a.items a.ending
  where
    by : (xs : List Item) (e : End) → trace (selected r q (then_on xs e b).items) (then_on xs e b).ending
        ≡ then_on (selected r q xs) e (trace (selected r (q + length xs) b.items) b.ending)
    by xs end.Done = ap (λ (l : List Item). trace l b.ending) (selected_more r q xs b.items)
    by xs (end.Fault g) = refl

-- blocks side by side
pub merged_stands : (r : Range) (q : ℕ) (p : Partial) (a b : Trace)
    → FoldStands p (append (trace (selected r q a.items) a.ending)
    (trace (selected r (q + length a.items) b.items) b.ending)) → StandsFor r q p (append a b)
merged_stands r q p a b s = subst (λ (t : Trace). FoldStands p t) (sym (selected_joined r q a b)) s

-- one piece more of a loop over pieces, by what its items are
module _ {X : Type 0} (items : X → List Item) where
  pieces_next : (ps : List X) (w : ℕ) (p : X) → w < length ps → p ≡ get_or ps w p
      → flat_map items (drop w ps) ≡ items p ++ flat_map items (drop (w + 1) ps)
  pieces_next ps w p h is =
      let e : suc w ≡ w + 1 = omega arith in
      ap (flat_map items) (drop_next w ps p h ∙ (λ i. sym is i ∷ drop (e i) ps))

  pub pieces_folded : (f : ℤ → ℤ → ℤ) (r at : Range) (q count next : ℕ) (start after : Option ℤ) (ps : List X) (w : ℕ)
      (p : X) → w < length ps → p ≡ get_or ps w p → count ≡ length (items p) → at ≡ cut_to r q count → next ≡ q + count
      → after ≡ fold_at f at 0 start (items p)
      → fold_at f r next after (flat_map items (drop (w + 1) ps)) ≡ fold_at f r q start (flat_map items (drop w ps))
  pieces_folded f r at q count next start after ps w p h is n cut m a =
      let rest : List Item = flat_map items (drop (w + 1) ps) in
      let k : next ≡ q + length (items p) = m ∙ ap (λ c. q + c) n in
      let here : after ≡ fold_at f r q start (items p) =
      a ∙ ap (λ b. fold_at f b 0 start (items p)) (cut ∙ ap (cut_to r q) n) ∙ fold_cut f r q start (items p) in
      (λ i. fold_at f r (k i) (here i) rest)
      ∙ sym (fold_more f r q start (items p) rest)
      ∙ sym (ap (fold_at f r q start) (pieces_next ps w p h is))

  pub pieces_counted : (q count next total : ℕ) (ps : List X) (w : ℕ) (p : X) → w < length ps → p ≡ get_or ps w p
      → count ≡ length (items p) → next ≡ q + count
      → q + length (flat_map items (drop w ps)) ≡ total → next + length (flat_map items (drop (w + 1) ps)) ≡ total
  pieces_counted q count next total ps w p h is n m t =
      let l = length-append (items p) (flat_map items (drop (w + 1) ps)) in
      let k : length (flat_map items (drop w ps)) ≡ length (items p ++ flat_map items (drop (w + 1) ps)) =
      ap length (pieces_next ps w p h is) in
      omega (arith, l, k, n, m, t)

  pub pieces_done : (f : ℤ → ℤ → ℤ) (r : Range) (q : ℕ) (start : Option ℤ) (ps : List X) (w : ℕ) → length ps ≤ w
      → fold_at f r q start (flat_map items (drop w ps)) ≡ start
  pieces_done f r q start ps w h = ap (λ qs. fold_at f r q start (flat_map items qs)) (drop_past w ps h)
