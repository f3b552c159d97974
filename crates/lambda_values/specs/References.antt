-- Meaning: the references of an expression, in order of writing.
use Rattle.std.specs.Prelude.{◌≡◌, ℕ, List, [], ◌∷◌, ◌++◌}
use Rattle.lambda_values.specs.Earlier.{Numbers, number_under}
use Rattle.lambda_values.specs.Lambda.{AbstractLambda, long, boolean, stream, pair}
use Rattle.lambda_values.specs.Streams.{Inner, range, range_closed, values}
use Rattle.lambda_values.specs.Term.{Long, number, parameter, reference, cell, row, unary, binary, choose, Truth}
use Rattle.lambda_values.specs.Term.{literal, compare, opposite, connect, choose_truth}

-- the names of the earlier jobs that an expression refers to, from left to right
abbrev mutual
  pub long_names : Long → List (List ℕ)
  long_names (number z) = []
  long_names (parameter n) = []
  long_names (reference name) = name ∷ []
  long_names (cell name) = []
  long_names row = []
  long_names (unary o a) = long_names a
  long_names (binary o a b) = long_names a ++ long_names b
  long_names (choose c a b) = truth_names c ++ (long_names a ++ long_names b)

  pub truth_names : Truth → List (List ℕ)
  truth_names (literal b) = []
  truth_names (compare o a b) = long_names a ++ long_names b
  truth_names (opposite a) = truth_names a
  truth_names (connect o a b) = truth_names a ++ truth_names b
  truth_names (choose_truth c a b) = truth_names c ++ (truth_names a ++ truth_names b)

-- the names in each expression of a list, one after the other
abbrev pub each_names : List Long → List (List ℕ)
each_names [] = []
each_names (e ∷ es) = long_names e ++ each_names es

-- the names in an inner stream, in order of writing
abbrev pub inner_names : Inner → List (List ℕ)
inner_names (range a b) = long_names a ++ long_names b
inner_names (range_closed a b) = long_names a ++ long_names b
inner_names (values es) = each_names es

-- the names in a lambda; of a lambda of two parameters only the form is kept
abbrev pub names_of : AbstractLambda → List (List ℕ)
names_of (long e) = long_names e
names_of (boolean e) = truth_names e
names_of (stream g) = inner_names g
names_of (pair f) = []

-- two environments have equal numbers under each of these names, or both none, and one table
abbrev pub Agree : List (List ℕ) → Numbers → Numbers → Type 0
Agree [] a b = a.table ≡ b.table
Agree (name ∷ names) a b = (number_under name a.earlier ≡ number_under name b.earlier) × Agree names a b
