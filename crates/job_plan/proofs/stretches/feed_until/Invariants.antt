use Rattle.job_plan.proofs.stretches.feed_until.Given as goal

abbrev pub ghosts-feed_looking : goal.ghosts-feed_looking
ghosts-feed_looking g a = record { decides = g.W.Stop.decides a.stop.now; from = a.window.from }
