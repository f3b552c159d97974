-- The jobs of a plan may be shared by threads.
use denote.Param.Send.{IsSend, IsSync, sendable}
use denote.Ref.{NamedLft}
use denote.RattleType.{RattleType}
use Rattle.std.proofs.Crossing.{crosses}
use Rattle.std.proofs.MapsCrossing.{crosses as set_crosses}
use Rattle.lambda_values.proofs.expr.BoolExpr.TheLaws.TheKnot as exprs
use Rattle.lambda_values.specs.contracts.expr.BoolExpr as truths
use Rattle.lambda_values.specs.contracts.expr.LongExpr as longs
use Rattle.trace.specs.contracts.stage.Stage as stages
use Rattle.job_routes.specs.contracts.segment.Segment as segments
use Rattle.job_routes.specs.contracts.leg.Link as links
use Rattle.job_routes.specs.contracts.leg.Leg as legs
use Rattle.job_plan.specs.contracts.plan.JobPlan as jobs
use Rattle.job_plan.specs.contracts.plan.Plan as plans
use Rattle.sort_ops.specs.contracts.distinct_part.DistinctPart as firsts
use Rattle.sort_ops.specs.contracts.new_values.NewValues as values
use Rattle.prefix_walks.specs.contracts.folded_piece.FoldedPiece as pieces
use Rattle.job_plan.specs.contracts.part.Part as parts
use Rattle.job_plan.specs.contracts.given.Given as given_walks
use Rattle.job_table.specs.contracts.planned.PlanJobs as plan_jobs

-- expressions, as a field and as an element
long_field : IsSync (longs.the_field).row
long_field = search (sendable, crosses, exprs.crosses) depth 60 fits 20000

truth_field : IsSync (truths.the_field).row
truth_field = search (sendable, crosses, exprs.crosses) depth 60 fits 20000

long_sync : IsSync longs.the_row
long_sync = search (sendable, crosses, long_field) depth 60 fits 20000

stage_sync : IsSync stages.the_row
stage_sync = search (sendable, crosses, long_field, truth_field, long_sync) depth 60 fits 20000

segment_field : IsSync (segments.the_field).row
segment_field = search (sendable, crosses, truth_field, stage_sync) depth 60 fits 20000

link_sync : IsSync links.the_row
link_sync = search (sendable, crosses, truth_field, stage_sync) depth 60 fits 20000

leg_sync : IsSync legs.the_row
leg_sync = search (sendable, crosses, segment_field, link_sync) depth 60 fits 20000

leg_field : IsSync (legs.the_field).row
leg_field = search (sendable, crosses, segment_field, link_sync) depth 60 fits 20000

job_sync : (a : NamedLft) → IsSync (jobs.the_row a)
job_sync a = search (sendable, crosses, leg_sync, leg_field) depth 60 fits 20000

pub plan_sync : (a : NamedLft) → IsSync (plans.the_row a)
plan_sync a = search (sendable, crosses, job_sync) depth 30

pub jobs_send : (a c : NamedLft) (P : RattleType) (g : _) → IsSend P → IsSend (plan_jobs.the_row a c P g)
jobs_send a c P g s = search (sendable, crosses, plan_sync) depth 60 fits 20000

pub jobs_sync : (a c : NamedLft) (P : RattleType) (g : _) → IsSync P → IsSync (plan_jobs.the_row a c P g)
jobs_sync a c P g s = search (sendable, crosses, plan_sync) depth 60 fits 20000

-- pieces of a prefix, which may borrow maps of the plan
piece_send : (a : NamedLft) → IsSend (pieces.the_row a)
piece_send a = search (sendable, crosses, stage_sync) depth 60 fits 20000

piece_sync : (a : NamedLft) → IsSync (pieces.the_row a)
piece_sync a = search (sendable, crosses, stage_sync) depth 60 fits 20000

-- the set of what `distinct` has seen
values_send : IsSend (values.the_field).row
values_send = search (sendable, crosses, set_crosses) depth 60 fits 20000

firsts_send : IsSend (firsts.the_field).row
firsts_send = search (sendable, crosses, values_send) depth 60 fits 20000

pub part_send : (a : NamedLft) → IsSend (parts.the_row a)
part_send a = search (sendable, crosses, truth_field, piece_send, firsts_send) depth 60 fits 20000

pub source_send : (a c : NamedLft) → IsSend (given_walks.the_row a c)
source_send a c = search (sendable, crosses, truth_field, piece_send) depth 60 fits 20000

pub source_sync : (a c : NamedLft) → IsSync (given_walks.the_row a c)
source_sync a c = search (sendable, crosses, truth_field, piece_sync) depth 60 fits 20000
