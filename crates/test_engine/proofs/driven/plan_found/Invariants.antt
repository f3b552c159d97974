use Rattle.test_engine.proofs.driven.plan_found.Given as goal

abbrev pub ghosts-plan_found_as : goal.ghosts-plan_found_as
ghosts-plan_found_as g a = record { jobs = a.plan.now.jobs.items }
