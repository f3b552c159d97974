-- Design: the jobs whose lambdas don't look at the places of items.
use Rattle.std.specs.Prelude.{◌≡◌, Bool, true, List, [], ◌∷◌}
use Rattle.std.specs.List.{list_all}
use Rattle.lambda_values.specs.Places.{inner_is_placeless, long_is_placeless, truth_is_placeless}
use Rattle.trace.specs.Stages.{map, filter, flat_map}
use Rattle.slice_ops.specs.Slices.{take_while, drop_while}
use Rattle.find_ops.specs.Finds.{any_match, all_match, none_match}
use Rattle.job_language.specs.Jobs.{AbstractJob, AbstractJobStage, AbstractTerminal, item, slice, find}

-- the lambda of a stage, if it has one, has neither a cell nor a row in it
abbrev pub stage_is_placeless : AbstractJobStage → Bool
stage_is_placeless (item (map e)) = long_is_placeless e
stage_is_placeless (item (filter p)) = truth_is_placeless p
stage_is_placeless (item (flat_map g)) = inner_is_placeless g
stage_is_placeless (slice (take_while p)) = truth_is_placeless p
stage_is_placeless (slice (drop_while p)) = truth_is_placeless p
stage_is_placeless s = true

-- nor has the lambda of a terminal
abbrev pub terminal_is_placeless : AbstractTerminal → Bool
terminal_is_placeless (find (any_match p)) = truth_is_placeless p
terminal_is_placeless (find (all_match p)) = truth_is_placeless p
terminal_is_placeless (find (none_match p)) = truth_is_placeless p
terminal_is_placeless d = true

-- no lambda of a job has a cell or a row in it, and the job has no table
pub record IsPlaceless (j : AbstractJob) : Type 0 where
  pub stages : list_all stage_is_placeless j.stages ≡ true
  pub terminal : terminal_is_placeless j.terminal ≡ true
  pub table : j.table ≡ []

-- each of several jobs is one
abbrev pub ArePlaceless : List AbstractJob → Type 0
ArePlaceless [] = Unit {0}
ArePlaceless (j ∷ js) = IsPlaceless j × ArePlaceless js
