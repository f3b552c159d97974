-- An expression has equal values in environments that agree on its references.
use Rattle.std.proofs.Common.{◌≡◌, ℕ, pos, List, [], ◌∷◌, ◌++◌, Ok, refl, ap, ◌∙◌, not}
use Rattle.std.specs.Prelude.{unwrap_or}
use Rattle.tables.specs.Table.{cells_named}
use Rattle.lambda_values.specs.declared.item.Item.{Item}
use Rattle.lambda_values.specs.Earlier.{Numbers, cell_at}
use Rattle.lambda_values.specs.Operators.{on, unary_value, binary_value, comparison_value}
use Rattle.lambda_values.specs.References.{Agree, each_names, inner_names, long_names, truth_names}
use Rattle.lambda_values.specs.Streams.{Inner, range, range_closed, values, distance, each_value, inner_value, through}
use Rattle.lambda_values.specs.Streams.{up_from}
use Rattle.lambda_values.specs.Term.{Long, number, parameter, reference, cell, row, unary, binary, choose, Truth}
use Rattle.lambda_values.specs.Term.{literal, compare, opposite, connect, choose_truth}
use Rattle.lambda_values.specs.Value.{chosen, connected, long_value, truth_value}

one_table : (ys : List (List ℕ)) (a b : Numbers) → Agree ys a b → a.table ≡ b.table
one_table [] a b h = h
one_table (y ∷ ys) a b h = one_table ys a b h.1

front : (xs ys : List (List ℕ)) (a b : Numbers) → Agree (xs ++ ys) a b → Agree xs a b
front [] ys a b h = one_table ys a b h
front (x ∷ xs) ys a b h = (h.0, front xs ys a b h.1)

back : (xs ys : List (List ℕ)) (a b : Numbers) → Agree (xs ++ ys) a b → Agree ys a b
back [] ys a b h = h
back (x ∷ xs) ys a b h = back xs ys a b h.1

pub both : {A B C : Type 0} (f : A → B → C) (p q : A) (r s : B) → p ≡ q → r ≡ s → f p r ≡ f q s
both f p q r s h k = ap (λ p. f p r) h ∙ ap (f q) k

mutual
  pub same_long : (e : Long) (x : Item) (a b : Numbers) → Agree (long_names e) a b → long_value e x a ≡ long_value e x b
  same_long (number z) x a b h = refl
  same_long (parameter n) x a b h = refl
  same_long (reference name) x a b h = ap (λ o. Ok (unwrap_or o (pos 0))) h.0
  same_long (cell name) x a b h = ap (λ t. Ok (cell_at x.origin (cells_named name t))) h
  same_long row x a b h = refl
  same_long (unary o e) x a b h = ap (λ r. on r (λ v. unary_value o v)) (same_long e x a b h)
  same_long (binary o e f) x a b h =
      both (λ r s. on r (λ v. on s (λ w. binary_value o v w))) (long_value e x a) (long_value e x b) (long_value f x a)
      (long_value f x b) (same_long e x a b (front (long_names e) (long_names f) a b h))
      (same_long f x a b (back (long_names e) (long_names f) a b h))
  same_long (choose c e f) x a b h =
      let later = back (truth_names c) (long_names e ++ long_names f) a b h in
      ap (λ r. on r (λ t. chosen t (long_value e x a) (long_value f x a)))
      (same_truth c x a b (front (truth_names c) (long_names e ++ long_names f) a b h))
      ∙ both (λ r s. on (truth_value c x b) (λ t. chosen t r s)) (long_value e x a) (long_value e x b)
      (long_value f x a) (long_value f x b) (same_long e x a b (front (long_names e) (long_names f) a b later))
      (same_long f x a b (back (long_names e) (long_names f) a b later))

  pub same_truth : (e : Truth) (x : Item) (a b : Numbers) → Agree (truth_names e) a b
      → truth_value e x a ≡ truth_value e x b
  same_truth (literal p) x a b h = refl
  same_truth (compare o e f) x a b h =
      both (λ r s. on r (λ v. on s (λ w. Ok (comparison_value o v w)))) (long_value e x a) (long_value e x b)
      (long_value f x a) (long_value f x b) (same_long e x a b (front (long_names e) (long_names f) a b h))
      (same_long f x a b (back (long_names e) (long_names f) a b h))
  same_truth (opposite e) x a b h = ap (λ r. on r (λ p. Ok (not p))) (same_truth e x a b h)
  same_truth (connect o e f) x a b h =
      both (λ r s. on r (λ p. connected o p s)) (truth_value e x a) (truth_value e x b) (truth_value f x a)
      (truth_value f x b) (same_truth e x a b (front (truth_names e) (truth_names f) a b h))
      (same_truth f x a b (back (truth_names e) (truth_names f) a b h))
  same_truth (choose_truth c e f) x a b h =
      let later = back (truth_names c) (truth_names e ++ truth_names f) a b h in
      ap (λ r. on r (λ t. chosen t (truth_value e x a) (truth_value f x a)))
      (same_truth c x a b (front (truth_names c) (truth_names e ++ truth_names f) a b h))
      ∙ both (λ r s. on (truth_value c x b) (λ t. chosen t r s)) (truth_value e x a) (truth_value e x b)
      (truth_value f x a) (truth_value f x b) (same_truth e x a b (front (truth_names e) (truth_names f) a b later))
      (same_truth f x a b (back (truth_names e) (truth_names f) a b later))

same_each : (es : List Long) (x : Item) (a b : Numbers) → Agree (each_names es) a b
    → each_value es x a ≡ each_value es x b
same_each [] x a b h = refl
same_each (e ∷ es) x a b h =
    both (λ r s. on r (λ v. on s (λ vs. Ok (v ∷ vs)))) (long_value e x a) (long_value e x b) (each_value es x a)
    (each_value es x b) (same_long e x a b (front (long_names e) (each_names es) a b h))
    (same_each es x a b (back (long_names e) (each_names es) a b h))

pub same_inner : (g : Inner) (x : Item) (a b : Numbers) → Agree (inner_names g) a b
    → inner_value g x a ≡ inner_value g x b
same_inner (range e f) x a b h =
    both (λ r s. on r (λ v. on s (λ w. up_from v (distance v w)))) (long_value e x a) (long_value e x b)
    (long_value f x a) (long_value f x b) (same_long e x a b (front (long_names e) (long_names f) a b h))
    (same_long f x a b (back (long_names e) (long_names f) a b h))
same_inner (range_closed e f) x a b h =
    both (λ r s. on r (λ v. on s (λ w. up_from v (through v w)))) (long_value e x a) (long_value e x b)
    (long_value f x a) (long_value f x b) (same_long e x a b (front (long_names e) (long_names f) a b h))
    (same_long f x a b (back (long_names e) (long_names f) a b h))
same_inner (values es) x a b h = same_each es x a b h
