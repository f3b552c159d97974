-- Design: small files of jobs, as terms of the definitions, and their reports.
use Rattle.std.specs.Prelude.{ℕ, ℤ, pos, negsuc, List, [], ◌∷◌, codes, None, Some}
use Rattle.lambda_values.specs.Term.{number, parameter, reference, cell, row, binary, Truth, compare}
use Rattle.lambda_values.specs.declared.operator.BinaryOperator.TheVariants.{Add, Divide, Subtract}
use Rattle.lambda_values.specs.declared.operator.Comparison.TheVariants.{Less, Greater}
use Rattle.trace.specs.Stages.{map, filter}
use Rattle.slice_ops.specs.Slices.{limit, skip, take_while, drop_while}
use Rattle.reduce_ops.specs.declared.op.Op.TheVariants as op
use Rattle.tables.specs.Table.{NamedColumn}
use Rattle.job_language.specs.Jobs.{AbstractPlainSource, range, values, AbstractJobStage, item, slice, prefix}
use Rattle.job_language.specs.Jobs.{AbstractTerminal, sum, min, to_array, exact_sum, AbstractJob}

-- helper: a job of one source
abbrev pub job : List ℕ → AbstractPlainSource → List AbstractJobStage → AbstractTerminal → AbstractJob
job name source stages terminal = record
    { name = name; sources = source ∷ []; stages = stages; terminal = terminal; on_fault = None; table = [] }

-- helper: the job, with a number to give after a fault
abbrev pub with_fallback : ℤ → AbstractJob → AbstractJob
with_fallback z j = record j { on_fault = Some z }

-- helper: map(x -> a / (x - b))
abbrev pub divided : ℤ → ℤ → AbstractJobStage
divided a b = item (map (binary Divide (number a) (binary Subtract (parameter 0) (number b))))

-- helper: x < a
abbrev pub below : ℤ → Truth
below a = compare Less (parameter 0) (number a)

-- q = range(0, 10).map(x -> 10 / (x - 7)).toArray()
abbrev pub meets_a_zero : List AbstractJob
meets_a_zero = job (codes "q") (range (pos 0) (pos 10)) (divided (pos 10) (pos 7) ∷ []) to_array ∷ []

-- q = of(-1, 0).map(x -> 10 / (x - 7)).toArray()
abbrev pub meets_no_zero : List AbstractJob
meets_no_zero = job (codes "q") (values (negsuc 0 ∷ pos 0 ∷ [])) (divided (pos 10) (pos 7) ∷ []) to_array ∷ []

-- w = of(9223372036854775807, 1).sum()
abbrev pub passes_the_greatest : List AbstractJob
passes_the_greatest = job (codes "w") (values (pos 9223372036854775807 ∷ pos 1 ∷ [])) [] sum ∷ []

-- f = of(1, 0).map(x -> 1 / (x - 0)).map(x -> 1 / (x - 1)).toArray()
abbrev pub meets_two_zeros : List AbstractJob
meets_two_zeros = job (codes "f") (values (pos 1 ∷ pos 0 ∷ [])) (divided (pos 1) (pos 0) ∷ divided (pos 1) (pos 1) ∷ [])
    to_array ∷ []

-- p = of(10, 1, 2, 3, 4).prefix(1, 4, sum).toArray()
-- o = of(10, 1, 2, 3, 4).prefix(1, 6, sum).toArray()
-- a = of(10, 1, 2, 3, 4).prefix(sum).toArray()
abbrev pub adds_up : List AbstractJob
adds_up =
    let five = values (pos 10 ∷ pos 1 ∷ pos 2 ∷ pos 3 ∷ pos 4 ∷ []) in
    job (codes "p") five (prefix (Some (1, 4)) op.Sum ∷ []) to_array
    ∷ job (codes "o") five (prefix (Some (1, 6)) op.Sum ∷ []) to_array
    ∷ job (codes "a") five (prefix None op.Sum ∷ []) to_array
    ∷ []

-- a = of(1).sum()
-- b = of(5).filter(x -> x > 7).min()
-- c = of(0).map(x -> 1 / (x - 0)).sum()
-- u = of(1, 2).map(x -> x + ($a + ($b + $c))).sum()
abbrev pub names_two_bad_jobs : List AbstractJob
names_two_bad_jobs =
    job (codes "a") (values (pos 1 ∷ [])) [] sum
    ∷ job (codes "b") (values (pos 5 ∷ [])) (item (filter (compare Greater (parameter 0) (number (pos 7)))) ∷ []) min
    ∷ job (codes "c") (values (pos 0 ∷ [])) (divided (pos 1) (pos 0) ∷ []) sum
    ∷ job (codes "u") (values (pos 1 ∷ pos 2 ∷ []))
    (item (map (binary Add (parameter 0)
    (binary Add (reference (codes "a")) (binary Add (reference (codes "b")) (reference (codes "c")))))) ∷ []) sum
    ∷ []

-- helper: map(x -> x / (x / x))
abbrev pub by_itself : AbstractJobStage
by_itself = item (map (binary Divide (parameter 0) (binary Divide (parameter 0) (parameter 0))))

-- e = of(9223372036854775807, 1, 0).map(x -> x / (x / x)).reduce(0, Math::addExact)
-- z = of(9223372036854775807, 0, 1).map(x -> x / (x / x)).reduce(0, Math::addExact)
-- k = of(9223372036854775807, -1, 1).reduce(0, Math::addExact)
abbrev pub sums_exactly : List AbstractJob
sums_exactly =
    job (codes "e") (values (pos 9223372036854775807 ∷ pos 1 ∷ pos 0 ∷ [])) (by_itself ∷ []) exact_sum
    ∷ job (codes "z") (values (pos 9223372036854775807 ∷ pos 0 ∷ pos 1 ∷ [])) (by_itself ∷ []) exact_sum
    ∷ job (codes "k") (values (pos 9223372036854775807 ∷ negsuc 0 ∷ pos 1 ∷ [])) [] exact_sum
    ∷ []

-- s = range(0, 10).map(x -> 10 / (x - 7)).sum().onFault(-1)
-- m = range(0, 10).map(x -> 10 / (x - 7)).min().onFault(-1)
-- n = of(5).filter(x -> x > 7).min().onFault(-1)
-- t = of(1).map(x -> x + $s).sum()
-- v = of(1).map(x -> x + $n).sum().onFault(-1)
abbrev pub gives_a_number_for_a_fault : List AbstractJob
gives_a_number_for_a_fault =
    with_fallback (negsuc 0) (job (codes "s") (range (pos 0) (pos 10)) (divided (pos 10) (pos 7) ∷ []) sum)
    ∷ with_fallback (negsuc 0) (job (codes "m") (range (pos 0) (pos 10)) (divided (pos 10) (pos 7) ∷ []) min)
    ∷ with_fallback (negsuc 0) (job (codes "n") (values (pos 5 ∷ []))
    (item (filter (compare Greater (parameter 0) (number (pos 7)))) ∷ []) min)
    ∷ job (codes "t") (values (pos 1 ∷ [])) (item (map (binary Add (parameter 0) (reference (codes "s")))) ∷ []) sum
    ∷ with_fallback (negsuc 0) (job (codes "v") (values (pos 1 ∷ []))
    (item (map (binary Add (parameter 0) (reference (codes "n")))) ∷ []) sum)
    ∷ []

-- l = range(0, 10).map(x -> 10 / (x - 7)).limit(7).toArray()
-- h = range(0, 10).map(x -> 10 / (x - 7)).limit(8).toArray()
-- k = range(5, 9).map(x -> 10 / (x - 7)).skip(3).toArray()
-- t = range(0, 10).dropWhile(x -> x < 3).takeWhile(x -> x < 6).skip(1).toArray()
-- w = range(0, 10).takeWhile(x -> x < 2).map(x -> 10 / (x - 2)).toArray()
abbrev pub takes_a_part : List AbstractJob
takes_a_part =
    job (codes "l") (range (pos 0) (pos 10)) (divided (pos 10) (pos 7) ∷ slice (limit 7) ∷ []) to_array
    ∷ job (codes "h") (range (pos 0) (pos 10)) (divided (pos 10) (pos 7) ∷ slice (limit 8) ∷ []) to_array
    ∷ job (codes "k") (range (pos 5) (pos 9)) (divided (pos 10) (pos 7) ∷ slice (skip 3) ∷ []) to_array
    ∷ job (codes "t") (range (pos 0) (pos 10))
    (slice (drop_while (below (pos 3))) ∷ slice (take_while (below (pos 6))) ∷ slice (skip 1) ∷ []) to_array
    ∷ job (codes "w") (range (pos 0) (pos 10)) (slice (take_while (below (pos 2))) ∷ divided (pos 10) (pos 2) ∷ [])
    to_array
    ∷ []

-- a table of two columns: price 3, 5, 7 and quantity 4, 10, -1
abbrev pub sold : List NamedColumn
sold =
    record { name = codes "price"; cells = pos 3 ∷ pos 5 ∷ pos 7 ∷ [] }
    ∷ record { name = codes "quantity"; cells = pos 4 ∷ pos 10 ∷ negsuc 0 ∷ [] }
    ∷ []

-- helper: a job over the prices of the table
abbrev pub over_prices : List ℕ → List AbstractJobStage → AbstractTerminal → AbstractJob
over_prices name stages terminal = record (job name (values (pos 3 ∷ pos 5 ∷ pos 7 ∷ [])) stages terminal)
    { table = sold }

-- r = column("price").filter(p -> cell("quantity") > 0).map(p -> p - cell("quantity")).toArray()
-- p = column("price").filter(p -> p > 3).map(p -> row()).toArray()
-- d = column("price").map(p -> p / (cell("quantity") - 10)).toArray()
abbrev pub looks_at_rows : List AbstractJob
looks_at_rows =
    let quantity = cell (codes "quantity") in
    over_prices (codes "r") (item (filter (compare Greater quantity (number (pos 0))))
    ∷ item (map (binary Subtract (parameter 0) quantity)) ∷ []) to_array
    ∷ over_prices (codes "p") (item (filter (compare Greater (parameter 0) (number (pos 3)))) ∷ item (map row) ∷ [])
    to_array
    ∷ over_prices (codes "d") (item (map (binary Divide (parameter 0) (binary Subtract quantity (number (pos 10)))))
    ∷ []) to_array
    ∷ []

-- a comment, an empty line, `version 2` between blanks, and a job of two lines
abbrev pub file_of_version_two : List ℕ
file_of_version_two = codes "# sums\n\n  version 2 \ns = range(0, 10)\n  .sum().onFault(-1)\n"

-- `version 2` after a job is the text of a job
abbrev pub file_of_version_one : List ℕ
file_of_version_one = codes "s = range(0, 10).sum()\nversion 2\n"
