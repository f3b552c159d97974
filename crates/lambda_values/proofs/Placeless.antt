-- An expression without cells and rows has equal values at items of equal value, over any table.
use Rattle.std.proofs.Common.{◌≡◌, pos, List, [], ◌∷◌, Ok, refl, ap, ◌∙◌, not, Bool, true, false, ◌&&◌}
use Rattle.std.specs.Prelude.{unwrap_or}
use Rattle.lambda_values.proofs.References.{both}
use Rattle.lambda_values.specs.declared.item.Item.{Item}
use Rattle.lambda_values.specs.Earlier.{Numbers, number_under}
use Rattle.lambda_values.specs.Operators.{on, unary_value, binary_value, comparison_value}
use Rattle.lambda_values.specs.Places.{each_is_placeless, inner_is_placeless, long_is_placeless, truth_is_placeless}
use Rattle.lambda_values.specs.Streams.{Inner, range, range_closed, values, distance, each_value, inner_value, through}
use Rattle.lambda_values.specs.Streams.{up_from}
use Rattle.lambda_values.specs.Term.{Long, number, parameter, reference, cell, row, unary, binary, choose, Truth}
use Rattle.lambda_values.specs.Term.{literal, compare, opposite, connect, choose_truth}
use Rattle.lambda_values.specs.Value.{chosen, connected, long_value, truth_value}

fst : (p q : Bool) → (p && q) ≡ true → p ≡ true
fst true q h = refl
fst false q h = absurd cc

snd : (p q : Bool) → (p && q) ≡ true → q ≡ true
snd true q h = h
snd false q h = absurd cc

mutual
  pub placeless_long : (e : Long) (x y : Item) (a b : Numbers) → x.value ≡ y.value → a.earlier ≡ b.earlier
      → long_is_placeless e ≡ true → long_value e x a ≡ long_value e y b
  placeless_long (number z) x y a b h k p = refl
  placeless_long (parameter n) x y a b h k p = ap Ok h
  placeless_long (reference name) x y a b h k p = ap (λ ns. Ok (unwrap_or (number_under name ns) (pos 0))) k
  placeless_long (cell name) x y a b h k p = absurd cc
  placeless_long row x y a b h k p = absurd cc
  placeless_long (unary o e) x y a b h k p = ap (λ r. on r (λ v. unary_value o v)) (placeless_long e x y a b h k p)
  placeless_long (binary o e f) x y a b h k p =
      both (λ r s. on r (λ v. on s (λ w. binary_value o v w))) (long_value e x a) (long_value e y b) (long_value f x a)
      (long_value f y b) (placeless_long e x y a b h k (fst (long_is_placeless e) (long_is_placeless f) p))
      (placeless_long f x y a b h k (snd (long_is_placeless e) (long_is_placeless f) p))
  placeless_long (choose c e f) x y a b h k p =
      let q = snd (truth_is_placeless c) (long_is_placeless e && long_is_placeless f) p in
      ap (λ r. on r (λ t. chosen t (long_value e x a) (long_value f x a)))
      (placeless_truth c x y a b h k (fst (truth_is_placeless c) (long_is_placeless e && long_is_placeless f) p))
      ∙ both (λ r s. on (truth_value c y b) (λ t. chosen t r s)) (long_value e x a) (long_value e y b)
      (long_value f x a) (long_value f y b)
      (placeless_long e x y a b h k (fst (long_is_placeless e) (long_is_placeless f) q))
      (placeless_long f x y a b h k (snd (long_is_placeless e) (long_is_placeless f) q))

  pub placeless_truth : (e : Truth) (x y : Item) (a b : Numbers) → x.value ≡ y.value → a.earlier ≡ b.earlier
      → truth_is_placeless e ≡ true → truth_value e x a ≡ truth_value e y b
  placeless_truth (literal t) x y a b h k p = refl
  placeless_truth (compare o e f) x y a b h k p =
      both (λ r s. on r (λ v. on s (λ w. Ok (comparison_value o v w)))) (long_value e x a) (long_value e y b)
      (long_value f x a) (long_value f y b)
      (placeless_long e x y a b h k (fst (long_is_placeless e) (long_is_placeless f) p))
      (placeless_long f x y a b h k (snd (long_is_placeless e) (long_is_placeless f) p))
  placeless_truth (opposite e) x y a b h k p = ap (λ r. on r (λ t. Ok (not t))) (placeless_truth e x y a b h k p)
  placeless_truth (connect o e f) x y a b h k p =
      both (λ r s. on r (λ t. connected o t s)) (truth_value e x a) (truth_value e y b) (truth_value f x a)
      (truth_value f y b) (placeless_truth e x y a b h k (fst (truth_is_placeless e) (truth_is_placeless f) p))
      (placeless_truth f x y a b h k (snd (truth_is_placeless e) (truth_is_placeless f) p))
  placeless_truth (choose_truth c e f) x y a b h k p =
      let q = snd (truth_is_placeless c) (truth_is_placeless e && truth_is_placeless f) p in
      ap (λ r. on r (λ t. chosen t (truth_value e x a) (truth_value f x a)))
      (placeless_truth c x y a b h k (fst (truth_is_placeless c) (truth_is_placeless e && truth_is_placeless f) p))
      ∙ both (λ r s. on (truth_value c y b) (λ t. chosen t r s)) (truth_value e x a) (truth_value e y b)
      (truth_value f x a) (truth_value f y b)
      (placeless_truth e x y a b h k (fst (truth_is_placeless e) (truth_is_placeless f) q))
      (placeless_truth f x y a b h k (snd (truth_is_placeless e) (truth_is_placeless f) q))

placeless_each : (es : List Long) (x y : Item) (a b : Numbers) → x.value ≡ y.value → a.earlier ≡ b.earlier
    → each_is_placeless es ≡ true → each_value es x a ≡ each_value es y b
placeless_each [] x y a b h k p = refl
placeless_each (e ∷ es) x y a b h k p =
    both (λ r s. on r (λ v. on s (λ vs. Ok (v ∷ vs)))) (long_value e x a) (long_value e y b) (each_value es x a)
    (each_value es y b) (placeless_long e x y a b h k (fst (long_is_placeless e) (each_is_placeless es) p))
    (placeless_each es x y a b h k (snd (long_is_placeless e) (each_is_placeless es) p))

pub placeless_inner : (g : Inner) (x y : Item) (a b : Numbers) → x.value ≡ y.value → a.earlier ≡ b.earlier
    → inner_is_placeless g ≡ true → inner_value g x a ≡ inner_value g y b
placeless_inner (range e f) x y a b h k p =
    both (λ r s. on r (λ v. on s (λ w. up_from v (distance v w)))) (long_value e x a) (long_value e y b)
    (long_value f x a) (long_value f y b)
    (placeless_long e x y a b h k (fst (long_is_placeless e) (long_is_placeless f) p))
    (placeless_long f x y a b h k (snd (long_is_placeless e) (long_is_placeless f) p))
placeless_inner (range_closed e f) x y a b h k p =
    both (λ r s. on r (λ v. on s (λ w. up_from v (through v w)))) (long_value e x a) (long_value e y b)
    (long_value f x a) (long_value f y b)
    (placeless_long e x y a b h k (fst (long_is_placeless e) (long_is_placeless f) p))
    (placeless_long f x y a b h k (snd (long_is_placeless e) (long_is_placeless f) p))
placeless_inner (values es) x y a b h k p = placeless_each es x y a b h k p
