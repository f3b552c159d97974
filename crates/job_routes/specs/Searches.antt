-- Condition: a leg that looks for the place at which a slice of another one cuts.
use Rattle.std.specs.Prelude.{◌≡◌, ◌≢◌, ℕ, suc, ◌≤◌, Bool, true, false, List, [], ◌∷◌}
use Rattle.lambda_values.specs.Earlier.{Numbers}
use Rattle.lambda_values.specs.Term.{Truth, opposite, row}
use Rattle.trace.specs.Stages.{AbstractStage, map, filter, flat_map, stages_of, through}
use Rattle.trace.specs.Trace.{Trace}
use Rattle.slice_ops.specs.Slices.{AbstractSlice, limit, slice_of, sliced}
use Rattle.find_ops.specs.Finds.{first as find_first}
use Rattle.job_language.specs.Jobs.{AbstractPlainSource}
use Rattle.job_meaning.specs.Walks.{source_walk}
use Rattle.job_routes.specs.declared.leg.Leg.{Leg}
use Rattle.job_routes.specs.declared.leg.Link.{Link}
use Rattle.job_routes.specs.declared.numbered_stages.NumberedStages.{NumberedStages}
use Rattle.job_routes.specs.declared.route.PlaceSide.{PlaceSide}
use Rattle.job_routes.specs.declared.outcome.Outcome.{Outcome}
use Rattle.prefix_walks.specs.declared.window.Window.{Window}
use Rattle.job_routes.specs.Legs.{ended, finding, leg_in, leg_outcome, number_after, outcome_of, searched, segment_in}
use Rattle.job_routes.specs.Legs.{sums_many}
use Rattle.job_routes.specs.Legs.{walk_through, windowed}

-- whether stages are maps and filters: an item that they give has the place of the one that it came from
abbrev pub keep_places : List AbstractStage → Bool
keep_places [] = true
keep_places (map e ∷ gs) = keep_places gs
keep_places (filter p ∷ gs) = keep_places gs
keep_places (flat_map g ∷ gs) = false

-- what a leg gives that looks for the place of the first item of a walk, by a map, the stage with this number
abbrev pub place_found : ℕ → Numbers → Trace → Outcome
place_found n env t = ended (finding find_first) (suc n) env (through n (map row) env t)

-- a leg that looks for the place of the first item, at these positions, of what this makes of a walk after these stages
pub record Finds (w : Window) (s : NumberedStages) (does : Numbers → Trace → Trace) (l : Leg) : Type 0 where
  pub window : l.window ≡ w
  pub ends : sums_many (leg_in l).last.ending true ≡ false
  pub outcome : (env : Numbers) (t : Trace) → leg_outcome (leg_in l) env t
      ≡ place_found (suc (number_after s)) env (does env (walk_through s env (windowed w.from w.to t)))

-- the items at which a test isn't true, by a filter after these stages
abbrev pub failing : NumberedStages → Truth → Numbers → Trace → Trace
failing s p env t = through (number_after s) (filter (opposite p)) env t

-- a leg with one slice, which is no `limit`; numbers go on after it
pub record HasOneSlice (l : Leg) : Type 0 where
  pub link : Link
  pub only : l.links.items ≡ link ∷ []
  pub other : (k : ℕ) → slice_of link.slice ≢ limit k
  pub next : l.last.stages.first ≡ suc (number_after link.stages)
  pub few : number_after link.stages ≤ 31

-- a copy of stages that keep places
pub record IsCopy (s copy : NumberedStages) : Type 0 where
  pub first : copy.first ≡ s.first
  pub stages : stages_of copy.list.items ≡ stages_of s.list.items
  pub places : keep_places (stages_of s.list.items) ≡ true

-- a leg whose only slice was taken out, the stages before that, and a copy of them
pub record IsReady (l : Leg) (s copy : NumberedStages) : Type 0 where
  pub none : l.links.items ≡ []
  pub next : l.last.stages.first ≡ suc (number_after s)
  pub few : number_after s ≤ 31
  pub copied : IsCopy s copy

-- after a search a new leg gives what this slice and the segment of the old one make of a walk over sources, after
-- these stages
abbrev pub IsSearched : PlaceSide → AbstractSlice → NumberedStages → Leg → Leg → Leg → Type 0
IsSearched side d s old new search = (env : Numbers) (ss : List AbstractPlainSource)
    → leg_outcome (leg_in new) env (searched side (leg_in search) env (source_walk ss))
    ≡ outcome_of (segment_in old.last) env (sliced d (number_after s) env
    (walk_through s env (windowed old.window.from old.window.to (source_walk ss))))
