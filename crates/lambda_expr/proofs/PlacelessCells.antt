-- A placeless lambda has no cells.
use Rattle.std.proofs.Common.{◌≡◌, ℕ, Bool, true, false, ◌&&◌, List, [], ◌∷◌, ◌++◌, refl, ap, ◌∙◌}
use Rattle.lambda_values.specs.Cells.{cells_of, each_cells, inner_cells, long_cells, truth_cells}
use Rattle.lambda_values.specs.Lambda.{AbstractLambda, long, boolean, stream, pair}
use Rattle.lambda_values.specs.Places.{each_is_placeless, inner_is_placeless, is_placeless, long_is_placeless}
use Rattle.lambda_values.specs.Places.{truth_is_placeless}
use Rattle.lambda_values.specs.Streams.{Inner, range, range_closed, values}
use Rattle.lambda_values.specs.Term.{Long, number, parameter, reference, cell, row, unary, binary, choose, Truth}
use Rattle.lambda_values.specs.Term.{literal, compare, opposite, connect, choose_truth}

-- two parts of an expression have no cells if neither has a place
two : (p q : Bool) (a b : List (List ℕ)) → (p ≡ true → a ≡ []) → (q ≡ true → b ≡ []) → (p && q) ≡ true → a ++ b ≡ []
two true q a b h k is = ap (λ v. v ++ b) (h refl) ∙ k is
two false q a b h k is = absurd cc

mutual
  long_free : (e : Long) → long_is_placeless e ≡ true → long_cells e ≡ []
  long_free (number z) is = refl
  long_free (parameter n) is = refl
  long_free (reference name) is = refl
  long_free (cell name) is = absurd cc
  long_free row is = refl
  long_free (unary o a) is = long_free a is
  long_free (binary o a b) is = two (long_is_placeless a) (long_is_placeless b) (long_cells a) (long_cells b)
      (long_free a) (long_free b) is
  long_free (choose c a b) is =
      two (truth_is_placeless c) (long_is_placeless a && long_is_placeless b) (truth_cells c)
      (long_cells a ++ long_cells b) (truth_free c)
      (two (long_is_placeless a) (long_is_placeless b) (long_cells a) (long_cells b) (long_free a) (long_free b)) is

  truth_free : (e : Truth) → truth_is_placeless e ≡ true → truth_cells e ≡ []
  truth_free (literal b) is = refl
  truth_free (compare o a b) is = two (long_is_placeless a) (long_is_placeless b) (long_cells a) (long_cells b)
      (long_free a) (long_free b) is
  truth_free (opposite a) is = truth_free a is
  truth_free (connect o a b) is = two (truth_is_placeless a) (truth_is_placeless b) (truth_cells a) (truth_cells b)
      (truth_free a) (truth_free b) is
  truth_free (choose_truth c a b) is =
      two (truth_is_placeless c) (truth_is_placeless a && truth_is_placeless b) (truth_cells c)
      (truth_cells a ++ truth_cells b) (truth_free c)
      (two (truth_is_placeless a) (truth_is_placeless b) (truth_cells a) (truth_cells b) (truth_free a)
      (truth_free b)) is

each_free : (es : List Long) → each_is_placeless es ≡ true → each_cells es ≡ []
each_free [] is = refl
each_free (e ∷ es) is = two (long_is_placeless e) (each_is_placeless es) (long_cells e) (each_cells es) (long_free e)
    (each_free es) is

inner_free : (g : Inner) → inner_is_placeless g ≡ true → inner_cells g ≡ []
inner_free (range a b) is = two (long_is_placeless a) (long_is_placeless b) (long_cells a) (long_cells b) (long_free a)
    (long_free b) is
inner_free (range_closed a b) is = two (long_is_placeless a) (long_is_placeless b) (long_cells a) (long_cells b)
    (long_free a) (long_free b) is
inner_free (values es) is = each_free es is

pub placeless_cells : (l : AbstractLambda) → is_placeless l ≡ true → cells_of l ≡ []
placeless_cells (long e) is = long_free e is
placeless_cells (boolean e) is = truth_free e is
placeless_cells (stream g) is = inner_free g is
placeless_cells (pair f) is = refl
