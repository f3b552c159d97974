-- What the parts of firsts are seen as.
use Rattle.std.proofs.Common.{◌≡◌, List, [], ◌++◌, refl, sym, ap, ap₂, ◌∙◌, append-nil}
use Rattle.lambda_values.specs.declared.item.Item.{Item}
use Rattle.trace.specs.declared.item.End.{End}
use Rattle.trace.specs.declared.item.End.TheVariants as end
use Rattle.trace.specs.Trace.{trace}
use Rattle.sort_ops.specs.Firsts.{firsts}
use Rattle.sort_ops.specs.Parts.{AbstractKept, end_after, kept, firsts_of, firsts_then, firsts_merged, values_in}
use Rattle.sort_ops.proofs.FirstLemmas.{firsts_merge}

-- items of different values before others
before_others : (xs ys : List Item) → firsts [] xs ≡ xs
    → xs ++ firsts (values_in xs) (firsts [] ys) ≡ firsts [] (xs ++ ys)
before_others xs ys own = ap (λ (l : List Item). l ++ firsts (values_in l) (firsts [] ys)) (sym own)
    ∙ firsts_merge xs ys

-- two pieces side by side
joined : (xs ys now : List Item) (e k : End) (part right : AbstractKept) → firsts [] part.items ≡ part.items
    → e ≡ end.Done → kept xs e ≡ part → kept (firsts [] ys) k ≡ right
    → now ≡ firsts [] (xs ++ ys) → kept now k ≡ firsts_merged part right
joined xs ys now e k part right own done is other is_now =
    let items : xs ≡ part.items = ap (λ (p : AbstractKept). p.items) is in
    ap (λ (l : List Item). kept l k) (is_now ∙ sym (before_others xs ys (ap (firsts []) items ∙ own ∙ sym items)))
    ∙ ap (λ (h : End). firsts_then xs h (kept (firsts [] ys) k)) (sym done) ∙ ap₂ firsts_merged is other

-- items of a source after a part
pub pushed_firsts : (xs ys now : List Item) (e : End) (part : AbstractKept) → firsts [] part.items ≡ part.items
    → part.ending ≡ end.Done → kept xs e ≡ part
    → now ≡ firsts [] (xs ++ ys) → kept now e ≡ firsts_merged part (firsts_of (trace ys end.Done))
pushed_firsts xs ys now e part own going is is_now =
    let done : e ≡ end.Done = ap (λ (k : AbstractKept). k.ending) is ∙ going in
    ap (kept now) done ∙ joined xs ys now e end.Done part (firsts_of (trace ys end.Done)) own done is refl is_now

-- another part after a part
pub gone_on_firsts : (xs ys now : List Item) (e k : End) (part right : AbstractKept) → firsts [] part.items ≡ part.items
    → firsts [] right.items ≡ right.items → e ≡ end.Done
    → kept xs e ≡ part → kept ys k ≡ right → now ≡ firsts [] (xs ++ ys) → kept now k ≡ firsts_merged part right
gone_on_firsts xs ys now e k part right own right_own done is other is_now =
    let items : ys ≡ right.items = ap (λ (p : AbstractKept). p.items) other in
    joined xs ys now e k part right own done is
    (ap (λ (l : List Item). kept l k) (ap (firsts []) items ∙ right_own ∙ sym items) ∙ other) is_now

-- a walk that ends so after a part
pub ended_firsts : (xs ys : List Item) (k e : End) (part : AbstractKept) → ys ≡ xs → kept xs k ≡ part
    → kept ys (end_after k e) ≡ firsts_merged part (firsts_of (trace [] e))
ended_firsts xs ys k e part same is = ap (λ (l : List Item). kept l (end_after k e)) same ∙ by k
    ∙ ap (λ (p : AbstractKept). firsts_merged p (firsts_of (trace [] e))) is
  where
    by : (k : End) → kept xs (end_after k e) ≡ firsts_then xs k (kept [] e)
    by end.Done = ap (λ (l : List Item). kept l e) (sym (append-nil xs))
    by (end.Fault f) = refl
