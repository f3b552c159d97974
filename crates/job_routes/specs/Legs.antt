-- Design: the legs of a job.
use Rattle.std.specs.Prelude.{ℕ, zero, suc, ℤ, pos, unsigned_abs, Bool, true, false, if◌then◌else◌, ◌||◌, ◌+◌, ◌-◌}
use Rattle.std.specs.Prelude.{List, [], ◌∷◌, length, map as each_of}
use Rattle.std.specs.Prelude.{Option, Some, None, is_some}
use Rattle.lambda_values.specs.Earlier.{Numbers}
use Rattle.lambda_values.specs.Term.{Truth}
use Rattle.lambda_values.specs.declared.item.Item.{Item}
use Rattle.lambda_values.specs.Streams.{range, range_closed, values}
use Rattle.trace.specs.declared.item.End.TheVariants as end
use Rattle.trace.specs.Stages.{AbstractStage, map, filter, flat_map, pipe, stages_of}
use Rattle.trace.specs.Trace.{Trace, nothing, trace}
use Rattle.reduce_ops.specs.declared.op.Op.{Op}
use Rattle.reduce_ops.specs.declared.op.Op.TheVariants as op
use Rattle.reduce_ops.specs.ExactSums.{exact_sum as exactly_summed}
use Rattle.reduce_ops.specs.Folds.{fold_from, fold_items}
use Rattle.reduce_ops.specs.Operators.{identity_of, value_of}
use Rattle.slice_ops.specs.Slices.{AbstractSlice, slice_of, sliced}
use Rattle.prefix_scan.specs.Prefixes.{Range, prefixed}
use Rattle.sort_ops.specs.Firsts.{distinct_walk}
use Rattle.sort_ops.specs.Orders.{sorted_walk}
use Rattle.sort_ops.specs.Parts.{done_after}
use Rattle.sort_ops.specs.Runs.{with_places}
use Rattle.prefix_walks.specs.Batches.{counted_as}
use Rattle.prefix_walks.specs.Pieces.{elements}
use Rattle.find_ops.specs.Finds.{Find, any_match, all_match, find_answer, find_of, first as find_first, none_match}
use Rattle.job_language.specs.Jobs.{AbstractTerminal, sum, count, min, max, to_array, reduce, reduce_from, find}
use Rattle.job_language.specs.Jobs.{exact_sum}
use Rattle.job_meaning.specs.declared.answer.Answer.{Answer}
use Rattle.job_meaning.specs.declared.answer.Answer.TheVariants as answer
use Rattle.job_routes.specs.declared.outcome.Outcome.{Outcome}
use Rattle.job_routes.specs.declared.outcome.Outcome.TheVariants as outcome
use Rattle.job_meaning.specs.Walks.{exact_answer, found_answer, unless_fault}
use Rattle.job_routes.specs.declared.fallback.Fallback.{Fallback}
use Rattle.job_routes.specs.declared.fallback.Fallback.TheVariants as fallback
use Rattle.job_routes.specs.declared.ends.SegmentEnd.{SegmentEnd}
use Rattle.job_routes.specs.declared.ends.SegmentEnd.TheVariants as ends
use Rattle.job_routes.specs.declared.numbered_stages.NumberedStages.{NumberedStages}
use Rattle.job_routes.specs.declared.route.Route.{Route}
use Rattle.job_routes.specs.declared.route.PlaceSide.{PlaceSide}
use Rattle.job_routes.specs.declared.route.PlaceSide.TheVariants as side
use Rattle.job_routes.specs.declared.segment.Segment.{Segment}
use Rattle.job_routes.specs.declared.leg.Leg.{Leg}
use Rattle.job_routes.specs.declared.leg.Link.{Link}

-- the end of a segment: a fold (its operator, its start, and whether it counts), a find or a match, the values, an
-- exact
-- sum, a prefix (its operator and its range), a `sorted` (how many items are asked of it, or all, and whether they keep
-- their places), or a `distinct` (how many items are asked of it)
pub data AbstractEnd : Type 0 where
  folding : Op → Option ℤ → Bool → AbstractEnd
  finding : Find → AbstractEnd
  collecting : AbstractEnd
  exactly : AbstractEnd
  scanning : Op → Range → AbstractEnd
  sorting : Option ℕ → Bool → AbstractEnd
  keeping_firsts : Option ℕ → AbstractEnd

-- stages that look at one item at a time, the first one with this number, and what ends them
pub record AbstractSegment : Type 0 where
  pub first : ℕ
  pub stages : List AbstractStage
  pub ending : AbstractEnd

-- stages that look at one item at a time, the first one with this number, and a slice after them
pub record AbstractLink : Type 0 where
  pub first : ℕ
  pub stages : List AbstractStage
  pub slice : AbstractSlice

-- the positions of a walk that are gone over, from one on and up to another; slices that they go through one after the
-- other; and the segment after them
pub record AbstractLeg : Type 0 where
  pub from : ℕ
  pub to : Option ℕ
  pub links : List AbstractLink
  pub last : AbstractSegment

-- legs of which each goes over the walk that the one before it gives: those that give walks, and the last one, which
-- gives the answer. The first one may be a search: the next one then goes over the positions before the place that it
-- finds, or over those from it on
pub record AbstractLegs : Type 0 where
  pub search : Option PlaceSide
  pub scans : List AbstractLeg
  pub last : AbstractLeg

-- a terminal as the end of a segment
abbrev pub end_of : AbstractTerminal → AbstractEnd
end_of sum = folding op.Sum (Some (pos 0)) false
end_of count = folding op.Sum (Some (pos 0)) true
end_of min = folding op.Min None false
end_of max = folding op.Max None false
end_of to_array = collecting
end_of exact_sum = exactly
end_of (reduce f) = folding f None false
end_of (reduce_from a f) = folding f (Some a) false
end_of (find d) = finding d

-- the fold of items: a number if it has a start, else an optional
abbrev pub folded : Op → Option ℤ → List Item → Answer
folded f (Some a) xs = answer.Number (fold_from (value_of f) a xs)
folded f None xs = answer.Optional (fold_items (value_of f) xs)

-- what an end, the stage with this number, makes of a walk: a walk, or the answer of the job
abbrev pub ended : AbstractEnd → ℕ → Numbers → Trace → Outcome
ended (folding f a counts) n env t = outcome.Answer (unless_fault t.ending (folded f a (counted_as counts t.items)))
ended (finding d) n env t = outcome.Answer (found_answer (find_answer d n env t))
ended (scanning f r) n env t = outcome.Source (prefixed (value_of f) r n t)
ended (sorting most places) n env t = outcome.Source (done_after most (sorted_walk (with_places places t)))
ended (keeping_firsts most) n env t = outcome.Source (done_after most (distinct_walk [] t))
ended exactly n env t = outcome.Answer (exact_answer (exactly_summed n t))
ended collecting n env t = outcome.Answer
    (unless_fault t.ending (answer.Array (each_of (λ (x : Item). x.value) t.items)))

-- the walk of a segment's source through its stages
abbrev pub walk_of : AbstractSegment → Numbers → Trace → Trace
walk_of s env t = pipe s.first s.stages env t

-- the number of the stage that ends a segment
abbrev pub last_stage : AbstractSegment → ℕ
last_stage s = s.first + length s.stages

-- what a segment makes of its source
abbrev pub outcome_of : AbstractSegment → Numbers → Trace → Outcome
outcome_of s env t = ended s.ending (last_stage s) env (walk_of s env t)

-- what a walk becomes in a link, and in several ones, one after the other
abbrev pub link_walk : AbstractLink → Numbers → Trace → Trace
link_walk l env t = sliced l.slice (l.first + length l.stages) env (pipe l.first l.stages env t)

abbrev pub linked : List AbstractLink → Numbers → Trace → Trace
linked [] env t = t
linked (l ∷ ls) env t = linked ls env (link_walk l env t)

-- whether there is a slice among these
abbrev pub is_linked : List AbstractLink → Bool
is_linked [] = false
is_linked (l ∷ ls) = true

-- whether these stages may make an item into many: into a range, or into lists of at most 64 values by more than this
-- number of `flatMap`s
abbrev pub makes_many : ℕ → List AbstractStage → Bool
makes_many n [] = false
makes_many n (map e ∷ gs) = makes_many n gs
makes_many n (filter p ∷ gs) = makes_many n gs
makes_many n (flat_map (range a b) ∷ gs) = true
makes_many n (flat_map (range_closed a b) ∷ gs) = true
makes_many zero (flat_map (values es) ∷ gs) = true
makes_many (suc n) (flat_map (values es) ∷ gs) = makes_many n gs

-- helper: whether this ends stages that may make an item into many, and is an exact sum
abbrev pub sums_many : AbstractEnd → Bool → Bool
sums_many exactly many = many
sums_many (folding f start counts) many = false
sums_many (finding d) many = false
sums_many collecting many = false
sums_many (scanning f r) many = false
sums_many (sorting most places) many = false
sums_many (keeping_firsts most) many = false

-- whether a segment is walked in order: an exact sum of the many items that one may be made into, where the only end of
-- a
-- piece may be the item at which the sum from the left is outside 64 bits
abbrev pub is_in_order : AbstractSegment → Bool
is_in_order s = sums_many s.ending (makes_many 2 s.stages)

-- whether the walk of a leg is one piece: through slices, and where it is in order
abbrev pub is_one_piece : AbstractLeg → Bool
is_one_piece l = is_linked l.links || is_in_order l.last

-- the items of a walk at these positions, with its end
abbrev pub windowed : ℕ → Option ℕ → Trace → Trace
windowed from to t = trace (elements from to t.items) t.ending

-- what a leg goes over of a walk
abbrev pub leg_walk : AbstractLeg → Trace → Trace
leg_walk l t = windowed l.from l.to t

-- what a leg makes of a walk
abbrev pub leg_outcome : AbstractLeg → Numbers → Trace → Outcome
leg_outcome l env t = outcome_of l.last env (linked l.links env (leg_walk l t))

-- the walk that a segment gives; one that gives an answer gives none
abbrev pub given_walk : Outcome → Trace
given_walk (outcome.Source t) = t
given_walk (outcome.Answer a) = nothing

-- the answer that a segment gives; of one that gives a walk it is 0
abbrev pub given_answer : Outcome → Answer
given_answer (outcome.Source t) = answer.Number (pos 0)
given_answer (outcome.Answer a) = a

-- what legs make of a walk, one after the other
abbrev pub scanned : List AbstractLeg → Numbers → Trace → Trace
scanned [] env t = t
scanned (l ∷ ls) env t = scanned ls env (given_walk (leg_outcome l env t))

-- the items of a walk before this position, or those from it on
abbrev pub side_of : PlaceSide → ℕ → Trace → Trace
side_of side.Before k t = windowed 0 (Some k) t
side_of side.From k t = windowed k None t

-- what a search without a place leaves: all, or nothing but the fault that it met
abbrev pub unfound : PlaceSide → Answer → Trace → Trace
unfound side.Before a t = t
unfound side.From (answer.Fault f) t = trace [] (end.Fault f)
unfound side.From (answer.Optional v) t = nothing
unfound side.From (answer.Number z) t = nothing
unfound side.From (answer.Truth b) t = nothing
unfound side.From (answer.Array vs) t = nothing
unfound side.From (answer.Unusable k) t = nothing

-- what is left of a walk that begins at this place, after the answer of a search over it
abbrev pub left_by_search : PlaceSide → ℕ → Answer → Trace → Trace
left_by_search s from (answer.Optional (Some z)) t = side_of s (unsigned_abs z - from) t
left_by_search s from (answer.Optional None) t = unfound s (answer.Optional None) t
left_by_search s from (answer.Fault f) t = unfound s (answer.Fault f) t
left_by_search s from (answer.Number z) t = unfound s (answer.Number z) t
left_by_search s from (answer.Truth b) t = unfound s (answer.Truth b) t
left_by_search s from (answer.Array vs) t = unfound s (answer.Array vs) t
left_by_search s from (answer.Unusable k) t = unfound s (answer.Unusable k) t

-- what is left of a walk after a leg, as a search, gave this answer; one that ends in an exact sum leaves nothing
abbrev pub left_after : PlaceSide → AbstractLeg → Answer → Trace → Trace
left_after s l a t = if sums_many l.last.ending true then nothing else left_by_search s l.from a (leg_walk l t)

-- what a search leaves of a walk
abbrev pub searched : PlaceSide → AbstractLeg → Numbers → Trace → Trace
searched s l env t = left_after s l (given_answer (leg_outcome l env t)) t

-- what legs make of a walk, the first of which may be a search
abbrev pub scanned_from : Option PlaceSide → List AbstractLeg → Numbers → Trace → Trace
scanned_from None ls env t = scanned ls env t
scanned_from (Some s) [] env t = t
scanned_from (Some s) (l ∷ ls) env t = scanned ls env (searched s l env t)

-- the leg with this number, from 0; a number after the last one's is the last one's
abbrev pub leg_among : ℕ → List AbstractLeg → AbstractLeg → AbstractLeg
leg_among k [] last = last
leg_among zero (l ∷ ls) last = l
leg_among (suc k) (l ∷ ls) last = leg_among k ls last

abbrev pub leg_at : ℕ → AbstractLegs → AbstractLeg
leg_at k legs = leg_among k legs.scans legs.last

-- the answer of legs
abbrev pub legs_answer : AbstractLegs → Numbers → Trace → Answer
legs_answer legs env t = given_answer (leg_outcome legs.last env (scanned_from legs.search legs.scans env t))

-- ---- the legs of the program

-- the end of a segment of the program
abbrev pub end_in : SegmentEnd → AbstractEnd
end_in (ends.Fold f) = folding f.op f.start f.counts
end_in (ends.Find d) = finding (find_of d)
end_in ends.Array = collecting
end_in ends.ExactSum = exactly
end_in (ends.Prefix p) = scanning p.op p.range
end_in (ends.Sorted most places) = sorting most places
end_in (ends.Distinct most) = keeping_firsts most

-- the test that an end asks of items: a match has one
abbrev pub test_of : AbstractEnd → Option Truth
test_of (folding f start counts) = None
test_of (finding find_first) = None
test_of (finding (any_match p)) = Some p
test_of (finding (all_match p)) = Some p
test_of (finding (none_match p)) = Some p
test_of collecting = None
test_of exactly = None
test_of (scanning f r) = None
test_of (sorting most places) = None
test_of (keeping_firsts most) = None

-- whether an end takes lanes with their flags: a fold whose operator has an identity, and `findFirst`
abbrev pub takes_flags : AbstractEnd → Bool
takes_flags (folding f start counts) = is_some (identity_of f)
takes_flags (finding find_first) = true
takes_flags (finding (any_match p)) = false
takes_flags (finding (all_match p)) = false
takes_flags (finding (none_match p)) = false
takes_flags collecting = false
takes_flags exactly = false
takes_flags (scanning f r) = false
takes_flags (sorting most places) = false
takes_flags (keeping_firsts most) = false

-- whether items that come to an end keep their places: those of a `sorted` may not
abbrev pub keeps_places : AbstractEnd → Bool
keeps_places (sorting most places) = places
keeps_places e = true

-- the number of the stage after stages of the program, and what these make of a walk
abbrev pub number_after : NumberedStages → ℕ
number_after s = s.first + length (stages_of s.list.items)

abbrev pub walk_through : NumberedStages → Numbers → Trace → Trace
walk_through s env t = pipe s.first (stages_of s.list.items) env t

-- a segment of the program
abbrev pub segment_in : Segment → AbstractSegment
segment_in s = record { first = s.stages.first; stages = stages_of s.stages.list.items; ending = end_in s.end }

-- a slice of the program with the stages before it, and several
abbrev pub link_in : Link → AbstractLink
link_in l = record { first = l.stages.first; stages = stages_of l.stages.list.items; slice = slice_of l.slice }

abbrev pub links_in : List Link → List AbstractLink
links_in [] = []
links_in (l ∷ ls) = link_in l ∷ links_in ls

-- a leg of the program, and several
abbrev pub leg_in : Leg → AbstractLeg
leg_in l = record { from = l.window.from; to = l.window.to; links = links_in l.links.items; last = segment_in l.last }

abbrev pub legs_in : List Leg → List AbstractLeg
legs_in [] = []
legs_in (l ∷ ls) = leg_in l ∷ legs_in ls

-- the legs of a route of the program
abbrev pub legs_of_route : Route → AbstractLegs
legs_of_route r = record { search = r.search; scans = legs_in r.scans.items; last = leg_in r.last }

-- the answer that a fallback of the program means
abbrev pub fallback_in : Fallback → Answer
fallback_in (fallback.Number z) = answer.Number z
fallback_in (fallback.Optional z) = answer.Optional (Some z)
