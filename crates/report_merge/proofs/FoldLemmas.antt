-- Folds, sums and counts of items side by side.
use Rattle.std.proofs.Common.{◌≡◌, ℕ, suc, ℤ, pos, negsuc, ◌+ℤ◌, List, [], ◌∷◌, ◌++◌, length, Option, Some, None, Ok}
use Rattle.std.proofs.Common.{refl, sym, ap, subst, ◌∙◌, arith}
use Rattle.std.specs.Prelude.{map as each_of}
use Rattle.std.specs.Int.{w64, int_wrap}
use Rattle.std.proofs.Math.IntN.{+ℤ_assoc}
use Rattle.std.proofs.lemmas.Int.{ints, SFits-int_wrap, int_wrap-add_left, int_wrap-add_right}
use Rattle.lambda_values.specs.Wrap.{wrap}
use Rattle.lambda_values.specs.declared.item.Item.{Item}
use Rattle.trace.specs.declared.item.End.TheVariants as end
use Rattle.trace.specs.Trace.{trace}
use Rattle.reduce_ops.specs.declared.op.Op.{Op}
use Rattle.reduce_ops.specs.declared.op.Op.TheVariants.{Sum, Product, Min, Max, And, Or, Xor, Affine, First, Last}
use Rattle.reduce_ops.specs.declared.partial.Partial.{Partial}
use Rattle.reduce_ops.specs.Operators.{value_of, identity_of, IsAssociative}
use Rattle.reduce_ops.specs.Folds.{fold_from, fold_items, total}
use Rattle.reduce_ops.proofs.FoldLemmas.{fold_beside, merged, finished, started}
use Rattle.reduce_ops.proofs.FoldLemmas as folds
use Rattle.reduce_ops.proofs.Identities.{all_identities}
use Rattle.report_merge.specs.Merging.{either_or_both}
use Rattle.report_merge.proofs.LaterLemmas.{later_items}

abbrev first_item : ℤ → Item
first_item z = record { origin = 0; value = z }

-- each operator may be grouped in any way
grouped : (op : Op) → IsAssociative (value_of op)
grouped op a b c =
    let f = value_of op in
    let p : Partial = record { op = op; value = Some a; end = end.Done } in
    let q : Partial = record { op = op; value = Some (f b c); end = end.Done } in
    let r : Partial = record { op = op; value = Some (f a (f b c)); end = end.Done } in
    let s = merged p q r (trace (first_item a ∷ []) end.Done) (trace (first_item b ∷ first_item c ∷ []) end.Done) refl
    refl
    (record { value = refl; ending = refl }) (record { value = refl; ending = refl }) refl refl refl in
    let same : Some (f a (f b c)) ≡ Some (f (f a b) c) = s.value in
    let e : f a (f b c) ≡ f (f a b) c = cc in
    sym e

-- ---- a fold looks at no place

from_later : (f : ℤ → ℤ → ℤ) (a : ℤ) (k : ℕ) (xs : List Item) → fold_from f a (later_items k xs) ≡ fold_from f a xs
from_later f a k [] = refl
from_later f a k (x ∷ xs) = from_later f (f a x.value) k xs

items_later : (f : ℤ → ℤ → ℤ) (k : ℕ) (xs : List Item) → fold_items f (later_items k xs) ≡ fold_items f xs
items_later f k [] = refl
items_later f k (x ∷ xs) = ap Some (from_later f x.value k xs)

total_later : (k : ℕ) (xs : List Item) → total (later_items k xs) ≡ total xs
total_later k [] = refl
total_later k (x ∷ xs) = ap (λ z. x.value +ℤ z) (total_later k xs)

length_later : (k : ℕ) (xs : List Item) → length (later_items k xs) ≡ length xs
length_later k [] = refl
length_later k (x ∷ xs) = ap suc (length_later k xs)

values_later : (k : ℕ) (xs : List Item) → each_of (λ (x : Item). x.value) (later_items k xs)
    ≡ each_of (λ (x : Item). x.value) xs
values_later k [] = refl
values_later k (x ∷ xs) = ap (λ (vs : List ℤ). x.value ∷ vs) (values_later k xs)

-- ---- side by side

either_beside : (op : Op) (u v : Option ℤ) → either_or_both op u v ≡ folds.beside (value_of op) u v
either_beside op None None = refl
either_beside op None (Some w) = refl
either_beside op (Some z) None = refl
either_beside op (Some z) (Some w) = refl

pub optionals_join : (op : Op) (k : ℕ) (xs ys : List Item)
    → either_or_both op (fold_items (value_of op) xs) (fold_items (value_of op) ys)
    ≡ fold_items (value_of op) (xs ++ later_items k ys)
optionals_join op k xs ys =
    either_beside op (fold_items (value_of op) xs) (fold_items (value_of op) ys)
    ∙ ap (folds.beside (value_of op) (fold_items (value_of op) xs)) (sym (items_later (value_of op) k ys))
    ∙ sym (fold_beside (value_of op) (grouped op) xs (later_items k ys))

total_joined : (xs ys : List Item) → total (xs ++ ys) ≡ total xs +ℤ total ys
total_joined [] ys = let e : total ys ≡ pos 0 +ℤ total ys = omega (arith, ints) in e
total_joined (x ∷ xs) ys = ap (λ z. x.value +ℤ z) (total_joined xs ys) ∙ sym (+ℤ_assoc x.value (total xs) (total ys))

wrap_both : (a b : ℤ) → wrap (wrap a +ℤ wrap b) ≡ wrap (a +ℤ b)
wrap_both a b = int_wrap-add_left w64 a (wrap b) ∙ int_wrap-add_right w64 a b

pub sums_join : (k : ℕ) (xs ys : List Item)
    → wrap (wrap (total xs) +ℤ wrap (total ys)) ≡ wrap (total (xs ++ later_items k ys))
sums_join k xs ys =
    wrap_both (total xs) (total ys)
    ∙ ap (λ z. wrap (total xs +ℤ z)) (sym (total_later k ys))
    ∙ ap wrap (sym (total_joined xs (later_items k ys)))

count_joined : (k : ℕ) (xs ys : List Item) → pos (length xs) +ℤ pos (length ys) ≡ pos (length (xs ++ later_items k ys))
count_joined k [] ys = let e = length_later k ys in
    let z : pos 0 +ℤ pos (length ys) ≡ pos (length ys) = omega (arith, ints) in z ∙ ap (λ (n : ℕ). pos n) (sym e)
count_joined k (x ∷ xs) ys =
    let e = count_joined k xs ys in
    let z : pos (suc (length xs)) +ℤ pos (length ys) ≡ pos (suc (length (xs ++ later_items k ys))) =
    omega (arith, ints, e) in
    z

pub counts_join : (k : ℕ) (xs ys : List Item)
    → wrap (wrap (pos (length xs)) +ℤ wrap (pos (length ys))) ≡ wrap (pos (length (xs ++ later_items k ys)))
counts_join k xs ys = wrap_both (pos (length xs)) (pos (length ys)) ∙ ap wrap (count_joined k xs ys)

values_joined : (xs ys : List Item) → each_of (λ (x : Item). x.value) (xs ++ ys)
    ≡ each_of (λ (x : Item). x.value) xs ++ each_of (λ (x : Item). x.value) ys
values_joined [] ys = refl
values_joined (x ∷ xs) ys = ap (λ (vs : List ℤ). x.value ∷ vs) (values_joined xs ys)

pub values_join : (k : ℕ) (xs ys : List Item)
    → each_of (λ (x : Item). x.value) xs ++ each_of (λ (x : Item). x.value) ys
    ≡ each_of (λ (x : Item). x.value) (xs ++ later_items k ys)
values_join k xs ys =
    ap (λ (vs : List ℤ). each_of (λ (x : Item). x.value) xs ++ vs) (sym (values_later k ys))
    ∙ sym (values_joined xs (later_items k ys))

-- ---- folds from an identity

-- an identity changes nothing that an operator gave after it
kept : (op : Op) (i w : ℤ) → identity_of op ≡ Some i
    → (value_of op (value_of op i w) i ≡ value_of op i w) × (value_of op i (value_of op i w) ≡ value_of op i w)
kept Sum i w e = let h = all_identities Sum i e (value_of Sum i w) (SFits-int_wrap w64 _) in (h.1, h.0)
kept Product i w e = let h = all_identities Product i e (value_of Product i w) (SFits-int_wrap w64 _) in (h.1, h.0)
kept Min i w e =
    let k : pos 9223372036854775807 ≡ i = cc in
    subst (λ (i : ℤ). (value_of Min (value_of Min i w) i ≡ value_of Min i w)
    × (value_of Min i (value_of Min i w) ≡ value_of Min i w)) k (least_right w, least_left w)
  where
    least_right : (w : ℤ) → value_of Min (value_of Min (pos 9223372036854775807) w) (pos 9223372036854775807)
        ≡ value_of Min (pos 9223372036854775807) w
    least_right w = grind (arith, ints)

    least_left : (w : ℤ) → value_of Min (pos 9223372036854775807) (value_of Min (pos 9223372036854775807) w)
        ≡ value_of Min (pos 9223372036854775807) w
    least_left w = grind (arith, ints)
kept Max i w e =
    let k : negsuc 9223372036854775807 ≡ i = cc in
    subst (λ (i : ℤ). (value_of Max (value_of Max i w) i ≡ value_of Max i w)
    × (value_of Max i (value_of Max i w) ≡ value_of Max i w)) k (most_right w, most_left w)
  where
    most_right : (w : ℤ) → value_of Max (value_of Max (negsuc 9223372036854775807) w) (negsuc 9223372036854775807)
        ≡ value_of Max (negsuc 9223372036854775807) w
    most_right w = grind (arith, ints)

    most_left : (w : ℤ) → value_of Max (negsuc 9223372036854775807) (value_of Max (negsuc 9223372036854775807) w)
        ≡ value_of Max (negsuc 9223372036854775807) w
    most_left w = grind (arith, ints)
kept And i w e = let h = all_identities And i e (value_of And i w) (SFits-int_wrap w64 _) in (h.1, h.0)
kept Or i w e = let h = all_identities Or i e (value_of Or i w) (SFits-int_wrap w64 _) in (h.1, h.0)
kept Xor i w e = let h = all_identities Xor i e (value_of Xor i w) (SFits-int_wrap w64 _) in (h.1, h.0)
kept Affine i w e = let h = all_identities Affine i e (value_of Affine i w) (SFits-int_wrap w64 _) in (h.1, h.0)
kept First i w e = absurd cc
kept Last i w e = absurd cc

-- and it changes nothing beside itself
twice : (op : Op) (i : ℤ) → identity_of op ≡ Some i → value_of op i i ≡ i
unfolding int_wrap
twice Sum i e = let k : pos 0 ≡ i = cc in subst (λ (i : ℤ). value_of Sum i i ≡ i) k refl
twice Product i e = let k : pos 1 ≡ i = cc in subst (λ (i : ℤ). value_of Product i i ≡ i) k refl
twice Min i e = let k : pos 9223372036854775807 ≡ i = cc in subst (λ (i : ℤ). value_of Min i i ≡ i) k refl
twice Max i e = let k : negsuc 9223372036854775807 ≡ i = cc in subst (λ (i : ℤ). value_of Max i i ≡ i) k refl
twice And i e = let k : negsuc 0 ≡ i = cc in subst (λ (i : ℤ). value_of And i i ≡ i) k refl
twice Or i e = let k : pos 0 ≡ i = cc in subst (λ (i : ℤ). value_of Or i i ≡ i) k refl
twice Xor i e = let k : pos 0 ≡ i = cc in subst (λ (i : ℤ). value_of Xor i i ≡ i) k refl
twice Affine i e = let k : pos 4294967296 ≡ i = cc in subst (λ (i : ℤ). value_of Affine i i ≡ i) k refl
twice First i e = absurd cc
twice Last i e = absurd cc

started_beside : (op : Op) (i : ℤ) → identity_of op ≡ Some i → (u v : Option ℤ)
    → value_of op (started (value_of op) i u) (started (value_of op) i v)
    ≡ started (value_of op) i (either_or_both op u v)
started_beside op i e None None = twice op i e
started_beside op i e None (Some w) = (kept op i w e).1
started_beside op i e (Some z) None = (kept op i z e).0
started_beside op i e (Some z) (Some w) =
    sym (grouped op (value_of op i z) i w) ∙ ap (λ y. value_of op y w) (kept op i z e).0 ∙ grouped op i z w

from_start : (op : Op) (i : ℤ) (xs : List Item)
    → started (value_of op) i (fold_items (value_of op) xs) ≡ fold_from (value_of op) i xs
from_start op i xs =
    let h = finished op i (started (value_of op) i (fold_items (value_of op) xs)) (fold_items (value_of op) xs)
    (trace xs end.Done) refl refl in
    let same : Ok (started (value_of op) i (fold_items (value_of op) xs)) ≡ Ok (fold_from (value_of op) i xs) = h in
    cc

pub folds_join : (op : Op) (i : ℤ) (k : ℕ) (xs ys : List Item) → identity_of op ≡ Some i
    → value_of op (fold_from (value_of op) i xs) (fold_from (value_of op) i ys)
    ≡ fold_from (value_of op) i (xs ++ later_items k ys)
folds_join op i k xs ys e =
    (λ j. value_of op (sym (from_start op i xs) j) (sym (from_start op i ys) j))
    ∙ started_beside op i e (fold_items (value_of op) xs) (fold_items (value_of op) ys)
    ∙ ap (started (value_of op) i) (optionals_join op k xs ys)
    ∙ from_start op i (xs ++ later_items k ys)
