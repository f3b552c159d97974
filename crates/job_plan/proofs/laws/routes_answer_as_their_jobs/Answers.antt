use Rattle.job_plan.proofs.MeaningLemmas.{route_answers}
use Rattle.job_plan.proofs.laws.routes_answer_as_their_jobs.Goals as goal

pub returns : goal.returns
returns c = route_answers
