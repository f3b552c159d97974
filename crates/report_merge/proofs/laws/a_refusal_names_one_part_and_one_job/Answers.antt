use Rattle.report_merge.proofs.ApartLemmas.{none_merged, one_apart}
use Rattle.report_merge.proofs.laws.a_refusal_names_one_part_and_one_job.Goals as goal

pub returns-clause-none : goal.returns-clause-none
returns-clause-none c = none_merged

pub returns-clause-one : goal.returns-clause-one
returns-clause-one c = one_apart
