-- Stacks whose top is the last element of a vector.
use Rattle.std.proofs.Common.{◌≡◌, List, [], ◌∷◌, ◌++◌, reverse, sym, ap, ◌∙◌}
use Rattle.std.proofs.lemmas.List.{reverse-append, reverse-reverse}
use Rattle.lambda_expr.specs.Stacks.{below, stacked, top_or}

not_empty : {A : Type 0} (xs : List A) (x : A) → xs ++ x ∷ [] ≡ [] → ⊥
not_empty [] x h = cc
not_empty (y ∷ xs) x h = cc

-- the elements before the last one, and the last one
snoc_both : {A : Type 0} (xs ys : List A) (x y : A) → xs ++ x ∷ [] ≡ ys ++ y ∷ [] → (xs ≡ ys) × (x ≡ y)
snoc_both xs ys x y h =
    let e : x ∷ reverse xs ≡ y ∷ reverse ys =
    sym (reverse-append xs (x ∷ [])) ∙ ap reverse h ∙ reverse-append ys (y ∷ []) in
    let rest : reverse xs ≡ reverse ys = cc in
    (sym (reverse-reverse xs) ∙ ap reverse rest ∙ reverse-reverse ys, cc)

-- what leaves a stack that is not empty
pub popped_top : {A : Type 0} (d x : A) (xs ts : List A) → xs ++ x ∷ [] ≡ stacked ts → x ≡ top_or d ts
popped_top d x xs [] h = absurd (not_empty xs x h)
popped_top d x xs (t ∷ ts) h = (snoc_both xs (stacked ts) x t h).1

pub popped_rest : {A : Type 0} (x : A) (xs ts : List A) → xs ++ x ∷ [] ≡ stacked ts → xs ≡ stacked (below ts)
popped_rest x xs [] h = absurd (not_empty xs x h)
popped_rest x xs (t ∷ ts) h = (snoc_both xs (stacked ts) x t h).0
