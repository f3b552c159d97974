use Rattle.test_completers.proofs.counting.+last_part.Given as goal

abbrev pub decreases-last_part : goal.decreases-last_part
decreases-last_part l = l.k
