-- Folds of joined lists, by operators that may be grouped in any way.
use Rattle.std.proofs.Common.{◌≡◌, ℤ, pos, ◌+ℤ◌, List, [], ◌∷◌, ◌++◌, Option, Some, None, Ok, sym, refl, ap, ◌∙◌, arith}
use Rattle.std.proofs.Common.{rules, length}
use Rattle.std.proofs.Math.IntN.{+ℤ_assoc}
use Rattle.std.specs.Int.{w64, int_wrap}
use Rattle.std.proofs.lemmas.Int.{ints, int_wrap_fits, SFits-int_wrap, int_wrap-add_left}
use Rattle.lambda_values.specs.Wrap.{wrap}
use Rattle.lambda_values.specs.declared.item.Item.{Item}
use Rattle.trace.specs.declared.item.Fault.{Fault}
use Rattle.trace.specs.declared.item.End.{End}
use Rattle.trace.specs.declared.item.End.TheVariants as end
use Rattle.trace.specs.Trace.{Trace, trace, then_on, append}
use Rattle.reduce_ops.specs.declared.op.Op.{Op}
use Rattle.reduce_ops.specs.declared.op.Op.TheVariants.{Sum}
use Rattle.reduce_ops.specs.declared.partial.Partial.{Partial}
use Rattle.reduce_ops.specs.Operators.{value_of, IsAssociative}
use Rattle.reduce_ops.specs.Folds.{fold_from, fold_items, onto, unless_faulted, reduced, reduced_from, total, ones}
use Rattle.reduce_ops.specs.Parts.{StandsFor}
use Rattle.reduce_ops.proofs.Associativity.{all_associative}

fold_more : (f : ℤ → ℤ → ℤ) (a : ℤ) (xs ys : List Item) → fold_from f a (xs ++ ys) ≡ fold_from f (fold_from f a xs) ys
fold_more f a [] ys = refl
fold_more f a (x ∷ xs) ys = fold_more f (f a x.value) xs ys

-- to fold from what stands left is to put it before the fold
fold_after : (f : ℤ → ℤ → ℤ) → IsAssociative f → (a b : ℤ) (ys : List Item)
    → fold_from f (f a b) ys ≡ f a (fold_from f b ys)
fold_after f grouped a b [] = refl
fold_after f grouped a b (y ∷ ys) = ap (λ v. fold_from f v ys) (grouped a b y.value)
    ∙ fold_after f grouped a (f b y.value) ys

-- what two folds side by side make
abbrev pub beside : (ℤ → ℤ → ℤ) → Option ℤ → Option ℤ → Option ℤ
beside f a None = a
beside f a (Some v) = onto f a v

pub fold_beside : (f : ℤ → ℤ → ℤ) → IsAssociative f → (xs ys : List Item)
    → fold_items f (xs ++ ys) ≡ beside f (fold_items f xs) (fold_items f ys)
fold_beside f grouped [] [] = refl
fold_beside f grouped [] (y ∷ ys) = refl
fold_beside f grouped (x ∷ xs) [] = ap Some (fold_more f x.value xs [])
fold_beside f grouped (x ∷ xs) (y ∷ ys) =
    ap Some (fold_more f x.value xs (y ∷ ys) ∙ fold_after f grouped (fold_from f x.value xs) y.value ys)

pub append_done : (a b : Trace) → a.ending ≡ end.Done → append a b ≡ trace (a.items ++ b.items) b.ending
append_done a b h = ap (λ (e : End). then_on a.items e b) h

pub append_faulted : (a b : Trace) (f : Fault) → a.ending ≡ end.Fault f → append a b ≡ a
append_faulted a b f h = ap (λ (e : End). then_on a.items e b) h ∙ (λ i. trace a.items (sym h i))

-- a partial fold that has both folds side by side, and the end of the right one
pub merged : (p q r : Partial) (a b : Trace) → p.end ≡ end.Done → q.op ≡ p.op → StandsFor p a → StandsFor q b
    → r.op ≡ p.op → r.value ≡ beside (value_of p.op) p.value q.value → r.end ≡ q.end → StandsFor r (append a b)
merged p q r a b done same sa sb op value ending =
    let joined : append a b ≡ trace (a.items ++ b.items) b.ending = append_done a b (sym sa.ending ∙ done) in
    let qv : q.value ≡ fold_items (value_of p.op) b.items = sb.value ∙ ap (λ o. fold_items (value_of o) b.items) same in
    record {
      value = value ∙ (λ i. beside (value_of p.op) (sa.value i) (qv i))
          ∙ sym (fold_beside (value_of p.op) (all_associative p.op) a.items b.items)
          ∙ (λ i. fold_items (value_of (sym op i)) (sym joined i).items);
      ending = ending ∙ sb.ending ∙ ap (λ (t : Trace). t.ending) (sym joined);
    }

-- what is left of it to do after the fold from the first value
abbrev pub started : (ℤ → ℤ → ℤ) → ℤ → Option ℤ → ℤ
started f i None = i
started f i (Some v) = f i v

-- a fold from a start is the start and the fold from the first value
from_value : (op : Op) (i w : ℤ) (v : Option ℤ) (xs : List Item) → v ≡ fold_items (value_of op) xs
    → started (value_of op) i v ≡ w → w ≡ fold_from (value_of op) i xs
from_value op i w None [] e is = sym is
from_value op i w None (x ∷ xs) e is = cc
from_value op i w (Some u) [] e is = cc
from_value op i w (Some u) (x ∷ xs) e is =
    let first : u ≡ fold_from (value_of op) x.value xs = cc in
    sym is ∙ ap (value_of op i) first ∙ sym (fold_after (value_of op) (all_associative op) i x.value xs)

from_end : (op : Op) (i w : ℤ) (v : Option ℤ) (xs : List Item) (e : End)
    → Ok v ≡ unless_faulted e (fold_items (value_of op) xs) → started (value_of op) i v ≡ w
    → Ok w ≡ unless_faulted e (fold_from (value_of op) i xs)
from_end op i w v xs end.Done k is = let value : v ≡ fold_items (value_of op) xs = cc in
    ap Ok (from_value op i w v xs value is)
from_end op i w v xs (end.Fault f) k is = cc

-- the answer from a start, out of the answer without one
pub finished : (op : Op) (i w : ℤ) (v : Option ℤ) (t : Trace) → Ok v ≡ reduced (value_of op) t
    → started (value_of op) i v ≡ w → Ok w ≡ reduced_from (value_of op) i t
finished op i w v t = from_end op i w v t.items t.ending

wrap_twice : (z : ℤ) → wrap (wrap z) ≡ wrap z
wrap_twice z = int_wrap_fits w64 (int_wrap w64 z) (SFits-int_wrap w64 z)

sum_from : (a : ℤ) (xs : List Item) → wrap a ≡ a → fold_from (value_of Sum) a xs ≡ wrap (a +ℤ total xs)
sum_from a [] h = let e : a ≡ a +ℤ pos 0 = omega (arith, ints) in sym h ∙ ap wrap e
sum_from a (x ∷ xs) h = sum_from (wrap (a +ℤ x.value)) xs (wrap_twice (a +ℤ x.value))
    ∙ int_wrap-add_left w64 (a +ℤ x.value) (total xs) ∙ ap wrap (+ℤ_assoc a x.value (total xs))

-- to wrap at each value or once at the end is one
pub wrapped_sum : (xs : List Item) → fold_from (value_of Sum) (pos 0) xs ≡ wrap (total xs)
wrapped_sum xs = let e : pos 0 +ℤ total xs ≡ total xs = omega (arith, ints) in
    sum_from (pos 0) xs (int_wrap_fits w64 (pos 0) (search rules)) ∙ ap wrap e

total_ones : (xs : List Item) → total (ones xs) ≡ pos (length xs)
total_ones [] = refl
total_ones (x ∷ xs) = ap (λ z. pos 1 +ℤ z) (total_ones xs) ∙ omega (arith, ints)

pub counted : (xs : List Item) → fold_from (value_of Sum) (pos 0) (ones xs) ≡ wrap (pos (length xs))
counted xs = wrapped_sum (ones xs) ∙ ap wrap (total_ones xs)

pub ones_join : (xs ys : List Item) → ones (xs ++ ys) ≡ ones xs ++ ones ys
ones_join [] ys = refl
ones_join (x ∷ xs) ys = ap (λ (zs : List Item). record { origin = x.origin; value = pos 1 } ∷ zs) (ones_join xs ys)
