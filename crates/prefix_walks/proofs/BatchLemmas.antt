-- A batch of items in a fold.
use Rattle.std.proofs.Common.{◌≡◌, ◌+◌, ◌<◌, ℕ, length, take, get_or, ℤ, pos, Bool, true, false, List, [], ◌∷◌, Option}
use Rattle.std.proofs.Common.{Some, None, fold, map, refl, sym, ap, ◌∙◌}
use Rattle.std.proofs.lemmas.List.Sums.{fold_more}
use Rattle.lambda_values.specs.declared.item.Item.{Item}
use Rattle.trace.specs.declared.item.End.{End}
use Rattle.trace.specs.declared.item.End.TheVariants as end
use Rattle.trace.specs.Trace.{Trace, trace, then_on, append}
use Rattle.reduce_ops.specs.declared.partial.Partial.{Partial}
use Rattle.reduce_ops.specs.Folds.{fold_from, fold_items}
use Rattle.reduce_ops.specs.Operators.{value_of}
use Rattle.reduce_ops.specs.Parts.{StandsFor as FoldStands}
use Rattle.prefix_walks.specs.Batches.{counted_as, each_one, folded_values}

from_counted : (f : ℤ → ℤ → ℤ) (counts : Bool) (a : ℤ) (xs : List Item)
    → fold (λ b w. f b (each_one counts w)) a (map (λ (x : Item). x.value) xs) ≡ fold_from f a (counted_as counts xs)
from_counted f true a [] = refl
from_counted f false a [] = refl
from_counted f true a (x ∷ xs) = from_counted f true (f a (pos 1)) xs
from_counted f false a (x ∷ xs) = from_counted f false (f a x.value) xs

items_counted : (f : ℤ → ℤ → ℤ) (counts : Bool) (xs : List Item)
    → folded_values f counts (map (λ (x : Item). x.value) xs) ≡ fold_items f (counted_as counts xs)
items_counted f true [] = refl
items_counted f false [] = refl
items_counted f true (x ∷ xs) = ap Some (from_counted f true (pos 1) xs)
items_counted f false (x ∷ xs) = ap Some (from_counted f false x.value xs)

-- the fold of a batch's values is the fold of its items
pub batch_stands : (p : Partial) (counts : Bool) (vs : List ℤ) (xs : List Item)
    → p.value ≡ folded_values (value_of p.op) counts vs → p.end ≡ end.Done → map (λ (x : Item). x.value) xs ≡ vs
    → FoldStands p (trace (counted_as counts xs) end.Done)
batch_stands p counts vs xs is done same = record {
  value = is ∙ ap (folded_values (value_of p.op) counts) (sym same) ∙ items_counted (value_of p.op) counts xs;
  ending = done;
}

abbrev own_items : Option ℤ → List Item
own_items None = []
own_items (Some v) = record { origin = 0; value = v } ∷ []

own_value : (f : ℤ → ℤ → ℤ) (v : Option ℤ) → v ≡ fold_items f (own_items v)
own_value f None = refl
own_value f (Some v) = refl

abbrev own : Partial → Trace
own p = trace (own_items p.value) p.end

own_stands : (p : Partial) → FoldStands p (own p)
own_stands p = record { value = own_value (value_of p.op) p.value; ending = refl }

ended : (xs : List Item) (e : End) (u : Trace) → u.ending ≡ end.Done → (then_on xs e u).ending ≡ e
ended xs end.Done u done = done
ended xs (end.Fault f) u done = refl

-- a fold that goes on with one that is done ends as before
pub merged_end : (p q r : Partial) → ((a b : Trace) → q.op ≡ p.op → FoldStands p a → FoldStands q b
    → FoldStands r (append a b)) → q.op ≡ p.op → q.end ≡ end.Done → r.end ≡ p.end
merged_end p q r go op done = (go (own p) (own q) op (own_stands p) (own_stands q)).ending
    ∙ ended (own_items p.value) p.end (own q) done

-- one value more
pub one_more_folded : (f : ℤ → ℤ → ℤ) (counts : Bool) (start : ℤ) (xs : List ℤ) (i : ℕ) (a v r : ℤ) → i < length xs
    → a ≡ fold (λ b w. f b (each_one counts w)) start (take i xs) → v ≡ each_one counts (get_or xs i (pos 0))
    → r ≡ f a v → r ≡ fold (λ b w. f b (each_one counts w)) start (take (i + 1) xs)
one_more_folded f counts start xs i a v r within so_far here is =
    let more = fold_more (λ b w. f b (each_one counts w)) start xs i (pos 0) within in
    is ∙ ap (λ (b : ℤ). f b v) so_far ∙ ap (f (fold (λ b w. f b (each_one counts w)) start (take i xs))) here ∙ sym more
