-- Meaning: the jobs that a job names.
use Rattle.std.specs.Prelude.{ℕ, suc, nat_eq, if◌then◌else◌, Bool, List, [], ◌∷◌, ◌++◌, Option, Some, None}
use Rattle.std.specs.Cmp.Lexicographic.{pointwise}
use Rattle.lambda_values.specs.References.{long_names, truth_names, inner_names}
use Rattle.trace.specs.Stages.{AbstractStage, map, filter, flat_map}
use Rattle.slice_ops.specs.Slices.{AbstractSlice, limit, skip, take_while, drop_while}
use Rattle.find_ops.specs.Finds.{Find, first, any_match, all_match, none_match}
use Rattle.job_language.specs.Jobs.{AbstractPlainSource, range, range_closed, values, result, AbstractJobStage, item}
use Rattle.job_language.specs.Jobs.{slice, prefix, sorted, distinct, AbstractTerminal, find, AbstractJob}

-- helper: the names that stand in a stage that looks at one item at a time, in a stage that looks at a whole walk, in a
-- find
abbrev pub stage_names : AbstractStage → List (List ℕ)
stage_names (map e) = long_names e
stage_names (filter p) = truth_names p
stage_names (flat_map g) = inner_names g

abbrev pub slice_names : AbstractSlice → List (List ℕ)
slice_names (limit k) = []
slice_names (skip k) = []
slice_names (take_while p) = truth_names p
slice_names (drop_while p) = truth_names p

abbrev pub find_names : Find → List (List ℕ)
find_names first = []
find_names (any_match p) = truth_names p
find_names (all_match p) = truth_names p
find_names (none_match p) = truth_names p

-- helper: the find or the match that a terminal is, if it is one; the names in it
abbrev pub find_in : AbstractTerminal → Option Find
find_in (find d) = Some d
find_in d = None

abbrev pub some_find_names : Option Find → List (List ℕ)
some_find_names None = []
some_find_names (Some d) = find_names d

-- helper: the names that stand in a stage, in a terminal, in a source
abbrev pub job_stage_names : AbstractJobStage → List (List ℕ)
job_stage_names (item g) = stage_names g
job_stage_names (slice d) = slice_names d
job_stage_names (prefix r f) = []
job_stage_names sorted = []
job_stage_names (distinct seen) = []

abbrev pub terminal_names : AbstractTerminal → List (List ℕ)
terminal_names d = some_find_names (find_in d)

abbrev pub source_names : AbstractPlainSource → List (List ℕ)
source_names (range a b) = []
source_names (range_closed a b) = []
source_names (values vs) = []
source_names (result name) = name ∷ []

-- helper: the names in several sources, and in several stages
abbrev pub all_source_names : List AbstractPlainSource → List (List ℕ)
all_source_names [] = []
all_source_names (s ∷ ss) = source_names s ++ all_source_names ss

abbrev pub all_stage_names : List AbstractJobStage → List (List ℕ)
all_stage_names [] = []
all_stage_names (g ∷ gs) = job_stage_names g ++ all_stage_names gs

-- the jobs that a job names, in order of writing, each as often as it is written: `result(NAME)` and `$NAME`
abbrev pub names_in_job : AbstractJob → List (List ℕ)
names_in_job job = all_source_names job.sources ++ (all_stage_names job.stages ++ terminal_names job.terminal)

-- helper: whether two names are equal
abbrev pub same_name : List ℕ → List ℕ → Bool
same_name a b = pointwise nat_eq a b

-- helper: one place later
abbrev pub one_later : Option ℕ → Option ℕ
one_later None = None
one_later (Some place) = Some (suc place)

-- the place of the first of these names that is this one, if there is one; places count from 0
abbrev pub place_of : List (List ℕ) → List ℕ → Option ℕ
place_of [] name = None
place_of (other ∷ more) name = if same_name other name then Some 0 else one_later (place_of more name)
