use Rattle.job_table.proofs.planned.run_jobs.Given as goal

abbrev pub ghosts-run_as : goal.ghosts-run_as
ghosts-run_as g a = record { jobs = a.plan.now.jobs.items }
