-- Condition: the legs of a job, built stage by stage.
use Rattle.std.specs.Prelude.{◌≡◌, ◌≤◌, ℕ, suc, false, List, [], length}
use Rattle.lambda_values.specs.Earlier.{Numbers}
use Rattle.trace.specs.declared.item.Fault.{Fault}
use Rattle.trace.specs.declared.item.End.TheVariants as end
use Rattle.trace.specs.Stages.{AbstractStage, pipe}
use Rattle.trace.specs.Trace.{Trace}
use Rattle.sort_ops.specs.Runs.{with_places}
use Rattle.job_language.specs.Jobs.{AbstractPlainSource}
use Rattle.job_meaning.specs.Walks.{source_walk}
use Rattle.job_routes.specs.declared.building.Begun.{Begun}
use Rattle.job_routes.specs.Legs.{legs_in, links_in, number_after, walk_through, linked, scanned, windowed}

-- a walk without an item before a fault
abbrev pub IsClean : Trace → Type 0
IsClean t = (f : Fault) → t.ending ≡ end.Fault f → t.items ≡ []

-- stages make items of the same values of a walk, whatever the places of its items are
abbrev pub IgnorePlaces : List AbstractStage → Type 0
IgnorePlaces gs = (n : ℕ) (env : Numbers) (t : Trace)
    → pipe n gs env (with_places false t) ≡ with_places false (pipe n gs env t)

-- what a walk over sources is after its legs, and after its slices
abbrev pub walk_over : Begun → Numbers → List AbstractPlainSource → Trace
walk_over b env ss = linked (links_in b.links.items) env
    (windowed b.window.from b.window.to (scanned (legs_in b.scans.items) env (source_walk ss)))

-- what a walk over sources is after all its stages
abbrev pub begun_walk : Begun → Numbers → List AbstractPlainSource → Trace
begun_walk b env ss = walk_through b.stages env (walk_over b env ss)

-- a route with one stage more, which has the next number and does this to a walk
pub record HasNext (b : Begun) (does : ℕ → Numbers → Trace → Trace) (new : Begun) : Type 0 where
  pub walk : (env : Numbers) (ss : List AbstractPlainSource)
      → begun_walk new env ss ≡ does (number_after b.stages) env (begun_walk b env ss)
  pub number : number_after new.stages ≡ suc (number_after b.stages)
  pub few : length new.links.items ≤ suc (length b.links.items)
