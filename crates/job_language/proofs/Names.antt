-- A name leads back to its operation.
use Rattle.std.proofs.Common.{◌≡◌, ℕ, ◌+◌, ◌<◌, true, false, List, length, get_or, drop, Some, refl, sym, ap, ◌∙◌}
use Rattle.std.specs.Prelude.{nat_eq, if◌then◌else◌}
use Rattle.std.specs.Cmp.Lexicographic.{pointwise}
use Rattle.std.proofs.lemmas.List.{drop_more}
use Rattle.job_language.specs.declared.operation.Operation.{Operation}
use Rattle.job_language.specs.declared.operation.Operation.TheVariants as op
use Rattle.job_language.specs.Table.{name_of, operation_of, operation_among}

pub named_back : (o : Operation) → operation_of (name_of o) ≡ Some o
named_back op.Range = refl
named_back o = refl

pub one_name : (a b : Operation) → name_of a ≡ name_of b → a ≡ b
one_name a b h = let e : Some a ≡ Some b = sym (named_back a) ∙ ap operation_of h ∙ named_back b in cc

-- a row with another name is skipped
pub row_more : (os : List Operation) (i : ℕ) (w : List ℕ) (d : Operation) → i < length os
    → pointwise nat_eq w (name_of (get_or os i d)) ≡ false
    → operation_among (drop i os) w ≡ operation_among (drop (i + 1) os) w
row_more os i w d lt other = ap (λ v. operation_among v w) (drop_more os i d lt)
    ∙ ap (λ b. if b then Some (get_or os i d) else operation_among (drop (i + 1) os) w) other

-- a row with this name is the first
pub row_here : (os : List Operation) (i : ℕ) (w : List ℕ) (d : Operation) → i < length os
    → pointwise nat_eq w (name_of (get_or os i d)) ≡ true → operation_among (drop i os) w ≡ Some (get_or os i d)
row_here os i w d lt same = ap (λ v. operation_among v w) (drop_more os i d lt)
    ∙ ap (λ b. if b then Some (get_or os i d) else operation_among (drop (i + 1) os) w) same
