-- Design: the walk of one thread: each item goes through all stages before the next one, and no item is asked for after
-- a slice has ended.
use Rattle.std.specs.Prelude.{ℕ, suc, ◌-◌, ◌==◌, ◌||◌, nat_lt, Bool, false, is_some, if◌then◌else◌, List, [], ◌∷◌, ◌++◌}
use Rattle.std.specs.Prelude.{length, Option, None, Result}
use Rattle.std.specs.Option.{option_or}
use Rattle.lambda_values.specs.Earlier.{Numbers}
use Rattle.lambda_values.specs.declared.item.Item.{Item}
use Rattle.trace.specs.declared.item.Fault.{Fault}
use Rattle.trace.specs.declared.item.End.{End}
use Rattle.trace.specs.declared.item.End.TheVariants as end
use Rattle.trace.specs.Stops.{stop_at}
use Rattle.trace.specs.Trace.{Trace, trace, nothing, append}
use Rattle.slice_ops.specs.Slices.{AbstractSlice, limit, skip, take_while, drop_while, front_ends, dropped}
use Rattle.sort_ops.specs.Parts.{values_in}
use Rattle.find_ops.specs.Finds.{Find, decision_of}
use Rattle.find_ops.specs.declared.find_part.Found.{Found}
use Rattle.job_language.specs.Jobs.{AbstractJobStage, item, slice, prefix, sorted, distinct}
use Rattle.job_meaning.specs.Walks.{after_stage, after_stages}

-- no stage is a prefix or a sort, which look at a whole walk
abbrev pub HasNoBarrier : List AbstractJobStage → Type 0
HasNoBarrier [] = Unit {0}
HasNoBarrier (item g ∷ gs) = HasNoBarrier gs
HasNoBarrier (slice d ∷ gs) = HasNoBarrier gs
HasNoBarrier (prefix r f ∷ gs) = ⊥
HasNoBarrier (sorted ∷ gs) = ⊥
HasNoBarrier (distinct seen ∷ gs) = HasNoBarrier gs

-- what a slice is to the items that come after a walk: how many it still keeps or drops, whether it has ended, and
-- whether it drops no further item
abbrev pub slice_after : AbstractSlice → ℕ → Numbers → Trace → AbstractSlice
slice_after (limit k) n env t = limit (k - length t.items)
slice_after (skip k) n env t = skip (k - length t.items)
slice_after (take_while p) n env t = if is_some (stop_at (front_ends p n env) t.items) then limit 0 else take_while p
slice_after (drop_while p) n env t = if nat_lt (length (dropped p n env t).items) 1 then drop_while p else skip 0

-- what a stage is to them; a `distinct` has the values that came before
abbrev pub stage_after : AbstractJobStage → ℕ → Numbers → Trace → AbstractJobStage
stage_after (item g) n env t = item g
stage_after (slice d) n env t = slice (slice_after d n env t)
stage_after (prefix r f) n env t = prefix r f
stage_after sorted n env t = sorted
stage_after (distinct seen) n env t = distinct (values_in t.items ++ seen)

-- what the stages are to them, the first one with this number; each takes what the one before it gives
abbrev pub stages_after : ℕ → List AbstractJobStage → Numbers → Trace → List AbstractJobStage
stages_after n [] env t = []
stages_after n (g ∷ gs) env t = stage_after g n env t ∷ stages_after (suc n) gs env (after_stage n g env t)

-- whether a stage lets no further item pass
abbrev pub has_ended : AbstractJobStage → Bool
has_ended (item g) = false
has_ended (slice (limit k)) = k == 0
has_ended (slice (skip k)) = false
has_ended (slice (take_while p)) = false
has_ended (slice (drop_while p)) = false
has_ended (prefix r f) = false
has_ended sorted = false
has_ended (distinct seen) = false

-- whether one of the stages does
abbrev pub is_over : List AbstractJobStage → Bool
is_over [] = false
is_over (g ∷ gs) = has_ended g || is_over gs

-- one item
abbrev pub alone : Item → Trace
alone x = trace (x ∷ []) end.Done

-- the walk over items and their end
abbrev pub walked : ℕ → List AbstractJobStage → Numbers → List Item → End → Trace
walked n gs env [] e = after_stages n gs env (trace [] e)
walked n gs env (x ∷ xs) e =
    if is_over gs then nothing
    else append (after_stages n gs env (alone x)) (walked n (stages_after n gs env (alone x)) env xs e)

-- what a find, the stage with the first number, decides at the end of a walk over items and their end; no item is asked
-- for after one that decides
abbrev pub decided_in : Find → ℕ → ℕ → List AbstractJobStage → Numbers → List Item → End → Option (Result Found Fault)
decided_in d m n gs env [] e = decision_of d m env (after_stages n gs env (trace [] e))
decided_in d m n gs env (x ∷ xs) e =
    if is_over gs then None
    else option_or (decision_of d m env (after_stages n gs env (alone x)))
    (decided_in d m n (stages_after n gs env (alone x)) env xs e)
