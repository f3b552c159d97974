-- Design: the text of each fault.
use Rattle.std.specs.Prelude.{ℕ, ◌++◌, List, codes, decimal}
use Rattle.report_merge.specs.declared.fault.MergeFault.{MergeFault}
use Rattle.report_merge.specs.declared.fault.MergeFault.TheVariants.{NoPart, Part as OfPart, TooManyRows, NoMemory}
use Rattle.report_merge.specs.declared.unmergeable.Unmergeable.{Unmergeable}
use Rattle.report_merge.specs.declared.unmergeable.Unmergeable.TheVariants.{Concat, Stage, Row, ExactSum, NoIdentity}
use Rattle.report_merge.specs.declared.unmergeable.Unmergeable.TheVariants.{NamesMerged}

-- of answers; parts and jobs count from 0
abbrev pub merge_fault_text : MergeFault → List ℕ
merge_fault_text NoPart = codes "there is no report"
merge_fault_text (OfPart part job) = codes "the answer of part "
    ++ (decimal part ++ (codes " can't be of job " ++ decimal job))
merge_fault_text TooManyRows = codes "more rows than a table has"
merge_fault_text NoMemory = codes "out of memory"

-- of a job
abbrev pub unmergeable_text : Unmergeable → List ℕ
unmergeable_text Concat = codes "concat with a column"
unmergeable_text Stage = codes "a stage over a column that isn't map, filter or flatMap"
unmergeable_text Row = codes "a lambda over a column with cell or row()"
unmergeable_text ExactSum = codes "an exact sum of a column"
unmergeable_text NoIdentity = codes "a fold of a column from a number that is no identity"
unmergeable_text NamesMerged = codes "it names a job over a column"
