-- Meaning: the columns that an expression names, in order of writing.
use Rattle.std.specs.Prelude.{ℕ, List, [], ◌∷◌, ◌++◌}
use Rattle.lambda_values.specs.Lambda.{AbstractLambda, long, boolean, stream, pair}
use Rattle.lambda_values.specs.Streams.{Inner, range, range_closed, values}
use Rattle.lambda_values.specs.Term.{Long, number, parameter, reference, cell, row, unary, binary, choose, Truth}
use Rattle.lambda_values.specs.Term.{literal, compare, opposite, connect, choose_truth}

-- the names of the columns whose cells an expression is made of, from left to right
abbrev mutual
  pub long_cells : Long → List (List ℕ)
  long_cells (number z) = []
  long_cells (parameter n) = []
  long_cells (reference name) = []
  long_cells (cell name) = name ∷ []
  long_cells row = []
  long_cells (unary o a) = long_cells a
  long_cells (binary o a b) = long_cells a ++ long_cells b
  long_cells (choose c a b) = truth_cells c ++ (long_cells a ++ long_cells b)

  pub truth_cells : Truth → List (List ℕ)
  truth_cells (literal b) = []
  truth_cells (compare o a b) = long_cells a ++ long_cells b
  truth_cells (opposite a) = truth_cells a
  truth_cells (connect o a b) = truth_cells a ++ truth_cells b
  truth_cells (choose_truth c a b) = truth_cells c ++ (truth_cells a ++ truth_cells b)

-- the names in each expression of a list, one after the other
abbrev pub each_cells : List Long → List (List ℕ)
each_cells [] = []
each_cells (e ∷ es) = long_cells e ++ each_cells es

-- the names in an inner stream, in order of writing
abbrev pub inner_cells : Inner → List (List ℕ)
inner_cells (range a b) = long_cells a ++ long_cells b
inner_cells (range_closed a b) = long_cells a ++ long_cells b
inner_cells (values es) = each_cells es

-- the names in a lambda; of a lambda of two parameters only the form is kept
abbrev pub cells_of : AbstractLambda → List (List ℕ)
cells_of (long e) = long_cells e
cells_of (boolean e) = truth_cells e
cells_of (stream g) = inner_cells g
cells_of (pair f) = []
