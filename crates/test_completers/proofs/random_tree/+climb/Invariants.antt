use Rattle.test_completers.proofs.random_tree.+climb.Given as goal

abbrev pub decreases-climb : goal.decreases-climb
decreases-climb l = l.node
